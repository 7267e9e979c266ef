-- What the loop keeps: the exponents that it has passed are folded in.
use Rattle.ring.proofs.Engine.{Reached}
use Rattle.ring.proofs.fold_all.Given as goal

abbrev pub invariant-loop-e : goal.invariant-loop-e
invariant-loop-e l = Reached l.p l.sums l.e l.out
