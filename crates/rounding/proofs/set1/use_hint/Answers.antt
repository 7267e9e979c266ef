use Rattle.std.proofs.Common.{arith}
use Rattle.std.proofs.lemmas.Grind.{common_steps}
use Rattle.std.proofs.lemmas.Int.{to_z-of_z}
use Rattle.sets.proofs.Five.{good_set1}
use Rattle.rounding.specs.Used.{used_hint}
use Rattle.rounding.proofs.Congruent.{use_again}
use Rattle.rounding.proofs.set1.use_hint.Goals as goal

pub returns-then-h-gt1 : goal.returns-then-h-gt1
unfolding used_hint
returns-then-h-gt1 c = grind (arith, common_steps)

pub returns : goal.returns
unfolding used_hint
returns c = grind (arith, common_steps, to_z-of_z, good_set1, use_again)
