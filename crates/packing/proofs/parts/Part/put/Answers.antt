use Rattle.std.proofs.Common.{arith}
use Rattle.packing.proofs.Standing.{part_within}
use Rattle.packing.proofs.parts.Part.put.Goals as goal

pub slice_bounds-copy_from_slice-end : goal.slice_bounds-copy_from_slice-end
slice_bounds-copy_from_slice-end c = omega (arith, part_within c.args.p c.args.self)
