use Rattle.std.proofs.Common.{arith}
use Rattle.std.proofs.lemmas.Int.{to_z-of_z}
use Rattle.rounding.specs.Rounding.{decompose}
use Rattle.rounding.proofs.set1.decompose.Goals as goal

pub returns : goal.returns
unfolding decompose
returns c = grind (arith, to_z-of_z)
