-- By the closed form of Decompose.
use Rattle.std.proofs.Common.{arith}
use Rattle.std.proofs.lemmas.Int.{to_z-of_z}
use Rattle.rounding.proofs.Closed.{closed}
use Rattle.rounding.proofs.split_of.Goals as goal

pub returns : goal.returns
returns c =
    let k = closed c.args.p c.requires.good c.args.x c.requires.x_lt_q in
    grind (arith, to_z-of_z, k.high_is, k.low_is)
