use Rattle.std.proofs.Common.{rules, ◌≡◌, ◌∙◌}
use Rattle.answers.specs.declared.Refusal.TheVariants.{Coefficient}
use Rattle.layouts.proofs.Room.{field_readable}
use Rattle.packing.proofs.Standing.{part_long}
use Rattle.workspace.specs.Inner.{answer_with}
use Rattle.workspace.proofs.reading.read_field.Goals as goal

pub unpack-requires-clause-good : goal.unpack-requires-clause-good
unpack-requires-clause-good c = (c.requires.good.0, rw c.of.ensures (field_readable _ c.requires.good.0 c.args.f), c.requires.good.1)

pub unpack-requires-clause-packed_len : goal.unpack-requires-clause-packed_len
unpack-requires-clause-packed_len c =
    rw (c.of-2.ensures, c.of.ensures) (part_long c.args.p _ _ c.requires.whole_len.0 ∙ c.requires.whole_len.1)

pub returns : goal.returns
returns c =
    let e : answer_with (Coefficient c.args.f) c.unpack.result ≡ c.map_err.result = search rules in
    rw (c.of.ensures, c.of-2.ensures, e) at (c.unpack.ensures (Coefficient c.args.f))
