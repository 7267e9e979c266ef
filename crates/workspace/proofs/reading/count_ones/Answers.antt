use Rattle.std.proofs.Common.{arith}
use Rattle.workspace.proofs.Filling.{ranged, lent_is, lent_long}
use Rattle.workspace.proofs.reading.count_ones.Goals as goal

pub count_ones-requires : goal.count_ones-requires
count_ones-requires c =
    let room = c.requires.good.1 in
    let here = ranged c.span.ensures c.range.ensures in
    (rw (lent_is _ room here) c.requires.by_index, omega (arith, lent_long _ room here, c.requires.good.0.n_room))
