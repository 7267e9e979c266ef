use Rattle.workspace.proofs.Filling.{ranged, back_fills}
use Rattle.workspace.proofs.drawing.fill_a.Goals as goal

pub returns : goal.returns
returns c = back_fills _ c.requires.1 (ranged c.span.ensures c.range.ensures) c.expand_a.auto.out c.expand_a.ensures
