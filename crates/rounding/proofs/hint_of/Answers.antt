-- The sum is reduced as its parts are.
use Rattle.std.proofs.Common.{arith}
use Rattle.std.proofs.lemmas.Grind.{common_steps}
use Rattle.rounding.specs.Rounding.{make_hint}
use Rattle.rounding.proofs.Congruent.{high_mod}
use Rattle.rounding.proofs.hint_of.Goals as goal

pub returns : goal.returns
unfolding make_hint
returns c = grind (arith, common_steps, high_mod)
