use Rattle.std.proofs.Common.{◌*◌, ◌≤◌}
use Rattle.shake_test.proofs.messages.Given as goal

abbrev pub invariant-loop-n : goal.invariant-loop-n
invariant-loop-n g l = (l.right ≤ 255 * l.n-index) × goal.F-IsAlwaysCallable g l.cases
