-- What each turn keeps: the codes that are left decide what is still written.
use Rattle.std.proofs.Common.{take}
use Rattle.sampling.proofs.Taking.{Taking}
use Rattle.sampling.proofs.small.draw_group.Given as goal

abbrev pub invariant-loop : goal.invariant-loop
invariant-loop l = Taking l.p (take 4 l.group) l.count l.initial.out l.first l.out l.found l.counter l.rest
