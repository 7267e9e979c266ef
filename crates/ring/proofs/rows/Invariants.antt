-- What the loop keeps: the rows of the places that it has passed are added. It goes on at least one place.
use Rattle.std.proofs.Common.{◌-◌, length}
use Rattle.ring.proofs.Rowing.{Sofar}
use Rattle.ring.proofs.rows.Given as goal

abbrev pub invariant-loop-next : goal.invariant-loop-next
invariant-loop-next l = Sofar l.a l.b l.initial.sums l.next l.sums

abbrev pub decreases-loop-next : goal.decreases-loop-next
decreases-loop-next l = length l.a - l.next
