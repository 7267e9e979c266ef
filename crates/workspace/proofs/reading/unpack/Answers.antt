use Rattle.workspace.proofs.Filling.{ranged, back_read}
use Rattle.workspace.proofs.reading.unpack.Goals as goal

pub returns : goal.returns
returns c = λ f. back_read _ c.requires.good.2 (ranged c.span.ensures c.range.ensures) _ _ c.requires.good.1 c.unpack.auto.out f _ c.unpack.ensures
