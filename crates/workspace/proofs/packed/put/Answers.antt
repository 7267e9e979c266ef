use Rattle.std.proofs.Common.{arith}
use Rattle.packing.proofs.Standing.{part_within}
use Rattle.workspace.proofs.packed.put.Goals as goal

pub slice_bounds-pack-end : goal.slice_bounds-pack-end
slice_bounds-pack-end c = omega (arith, part_within c.args.p c.args.part)
