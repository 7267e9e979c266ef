use Rattle.std.proofs.Common.{◌-◌}
use Rattle.tries.proofs.Norms.{size_of, low_size, Below}
use Rattle.tries.proofs.Trying.{Trying}
use Rattle.tries.proofs.first_passing.Given as goal

-- the coefficients so far are small
abbrev pub invariant-loop-z : goal.invariant-loop-z
invariant-loop-z l = Below (size_of l.p) (l.p.gamma1 - l.p.beta) l.z-items l.z-index

abbrev pub invariant-loop-low : goal.invariant-loop-low
invariant-loop-low l = Below (low_size l.p) (l.p.gamma2 - l.p.beta) l.low-items l.low-index

abbrev pub invariant-loop-ct0 : goal.invariant-loop-ct0
invariant-loop-ct0 l = Below (size_of l.p) l.p.gamma2 l.ct0-items l.ct0-index

-- the tries so far failed, and the key is where it was
abbrev pub invariant-tries : goal.invariant-tries
invariant-tries l = Trying l.p l.mu l.rho l.limit l.initial.work l.initial.commitment l.work l.commitment l.next

abbrev pub decreases-tries : goal.decreases-tries
decreases-tries l = l.limit - l.next
