use Rattle.std.proofs.Common.{arith}
use Rattle.std.proofs.lemmas.Int.{to_z-of_z}
use Rattle.rounding.proofs.Small.{parts_small}
use Rattle.rounding.proofs.low_of.Goals as goal

pub returns : goal.returns
returns c = grind (arith, to_z-of_z, parts_small)
