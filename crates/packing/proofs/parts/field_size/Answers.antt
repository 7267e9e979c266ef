use Rattle.layouts.proofs.Room.{field_readable}
use Rattle.packing.proofs.parts.field_size.Goals as goal

pub size-requires : goal.size-requires
size-requires c = rw c.of.ensures ((field_readable _ c.requires c.args.f).width, c.requires.n_room)
