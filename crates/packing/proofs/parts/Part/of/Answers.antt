use Rattle.std.proofs.Common.{◌∙◌, arith}
use Rattle.packing.proofs.Standing.{part_within, part_lent}
use Rattle.packing.proofs.parts.Part.of.Goals as goal

pub slice_bounds-result-end : goal.slice_bounds-result-end
slice_bounds-result-end c = omega (arith, part_within c.args.p c.args.self)

pub returns : goal.returns
returns c = part_lent c.args.p c.args.self _ _ c.args.whole.now (c.range.ensures.0 ∙ c.span.ensures.0) (c.range.ensures.1 ∙ c.span.ensures.1)
