-- t numbers of place k are made, and all else of the memory is as it was.
use Rattle.workspace.proofs.Making.{made_from}
use Rattle.workspace.proofs.Writing.{Writing}
use Rattle.workspace.proofs.arithmetic.combine.Given as goal

abbrev pub invariant-loop-t : goal.invariant-loop-t
invariant-loop-t l = Writing l.p.n l.to (made_from l.p l.op l.first l.second l.initial.work) l.initial.work l.t l.work
