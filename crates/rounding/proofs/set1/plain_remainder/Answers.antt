use Rattle.std.proofs.Common.{arith}
use Rattle.residues.proofs.Remainders.{residue_lt}
use Rattle.rounding.proofs.set1.plain_remainder.Goals as goal

pub returns-clause-below : goal.returns-clause-below
returns-clause-below c = grind (arith, residue_lt)
