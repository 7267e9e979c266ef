use Rattle.workspace.proofs.Filling.{ranged, back_touched, back_holds}
use Rattle.workspace.proofs.drawing.fill_y.Goals as goal

pub returns : goal.returns
returns c =
    let room = c.requires.trinomial.1 in
    let here = ranged c.span.ensures c.range.ensures in
    (back_touched _ room here _ c.expand_y.auto.out, back_holds _ room here c.expand_y.auto.out c.expand_y.ensures)
