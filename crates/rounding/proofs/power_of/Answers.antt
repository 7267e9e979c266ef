-- By the closed form, with 2^(d-1) as the machine shifts it.
use Rattle.std.proofs.Common.{arith}
use Rattle.std.proofs.lemmas.Int.{to_z-of_z}
use Rattle.rounding.proofs.Power.{shifted, power_high, power_low}
use Rattle.rounding.proofs.power_of.Goals as goal

pub returns : goal.returns
returns c = grind (arith, to_z-of_z, shifted, power_high, power_low)
