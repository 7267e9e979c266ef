use Rattle.std.proofs.Common.{rules, ◌≡◌, Ok, Err}
use Rattle.answers.specs.declared.Refusal.TheVariants.{Hint}
use Rattle.layouts.specs.Hints.{any_hint}
use Rattle.packing.specs.declared.parts.Part.TheVariants as part
use Rattle.packing.proofs.Standing.{part_long}
use Rattle.workspace.specs.Inner.{answer_with}
use Rattle.workspace.proofs.Fields.{hints_bad, hints_below, hints_many, hints_few}
use Rattle.workspace.proofs.reading.read_hints.Goals as goal

pub unpack-requires-clause-packed_len : goal.unpack-requires-clause-packed_len
unpack-requires-clause-packed_len c = rw (c.of-packed.ensures, c.hint.ensures) (part_long c.args.p part.Hints _ c.requires.signature_len)

pub returns-in_err-map_err : goal.returns-in_err-map_err
returns-in_err-map_err c =
    let e : c.from_residual.result ≡ Err Hint = search rules in
    let f : answer_with any_hint c.unpack.result ≡ Err Hint = search rules in
    rw e (hints_bad _ (rw (c.hint.ensures, c.of-packed.ensures, f) at (c.unpack.ensures any_hint)))

pub count_ones-requires-clause-by_index : goal.count_ones-requires-clause-by_index
count_ones-requires-clause-by_index c =
    let e : c.unpack.result ≡ Ok tt = search rules in
    hints_below _ c.requires.good.0 (rw (c.hint.ensures, c.of-packed.ensures, e) at (c.unpack.ensures any_hint))

pub returns-then-p-count_ones : goal.returns-then-p-count_ones
returns-then-p-count_ones c =
    let e : c.unpack.result ≡ Ok tt = search rules in
    hints_many _ c.requires.good.0 (rw (c.hint.ensures, c.of-packed.ensures, e) at (c.unpack.ensures any_hint)) c.count_ones.ensures c.if-p-count_ones.true

pub returns : goal.returns
returns c =
    let e : c.unpack.result ≡ Ok tt = search rules in
    hints_few _ c.requires.good.0 (rw (c.hint.ensures, c.of-packed.ensures, e) at (c.unpack.ensures any_hint)) c.count_ones.ensures c.if-p-count_ones.false
