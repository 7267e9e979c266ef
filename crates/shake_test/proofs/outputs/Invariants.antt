use Rattle.std.proofs.Common.{◌≤◌}
use Rattle.shake_test.proofs.outputs.Given as goal

abbrev pub invariant-loop-n : goal.invariant-loop-n
invariant-loop-n g l = l.right ≤ l.n-index
