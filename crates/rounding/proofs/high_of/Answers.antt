use Rattle.std.proofs.Common.{arith}
use Rattle.rounding.proofs.Small.{parts_small}
use Rattle.rounding.proofs.high_of.Goals as goal

pub returns : goal.returns
returns c = grind (arith, parts_small)
