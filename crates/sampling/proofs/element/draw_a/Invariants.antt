-- What each turn keeps: coefficients are still wanted, and those that were found go with what is left of the stream.
use Rattle.std.proofs.Common.{◌<◌, length}
use Rattle.sampling.proofs.Going.{GoingA}
use Rattle.sampling.proofs.element.draw_a.Given as goal

abbrev pub invariant-loop-behind : goal.invariant-loop-behind
invariant-loop-behind l = record { wanted : l.found < l.p.n; going : GoingA l.p l.stream l.out l.found l.rest }

abbrev pub decreases-loop-behind : goal.decreases-loop-behind
decreases-loop-behind l = length l.rest
