use Rattle.std.proofs.Common.{arith}
use Rattle.std.proofs.lemmas.Int.{to_z-of_z}
use Rattle.sets.proofs.Five.{good_set1}
use Rattle.rounding.proofs.Congruent.{power_again}
use Rattle.rounding.proofs.set1.power2round.Goals as goal

pub returns : goal.returns
returns c = grind (arith, to_z-of_z, good_set1, power_again)
