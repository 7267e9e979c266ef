use Rattle.std.proofs.Common.{◌≤◌}
use Rattle.shake_test.proofs.cuts.Given as goal

abbrev pub invariant-loop-i : goal.invariant-loop-i
invariant-loop-i g l = l.right ≤ l.i-index
