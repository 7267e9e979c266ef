use Rattle.std.proofs.Common.{arith}
use Rattle.std.proofs.lemmas.Int.{to_z-of_z}
use Rattle.residues.specs.Remainder.{centred}
use Rattle.rounding.proofs.set1.magnitude.Goals as goal

pub returns : goal.returns
unfolding centred
returns c = grind (arith, to_z-of_z)
