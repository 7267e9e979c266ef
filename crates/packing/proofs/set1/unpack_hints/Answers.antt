use Rattle.std.proofs.Common.{◌≡◌, sym, ◌∙◌, arith}
use Rattle.std.specs.Prelude.{Ok, Err}
use Rattle.std.proofs.lemmas.Bool.Decides.{nat_tests}
use Rattle.std.proofs.lemmas.Result.{err_from_is_err_and}
use Rattle.std.proofs.lemmas.Grind.{common_steps}
use Rattle.sets.specs.Set.{set1}
use Rattle.sets.proofs.Five.{good_set1}
use Rattle.answers.specs.declared.Refusal.TheVariants.{Hint}
use Rattle.answers.proofs.Outcomes.{doing}
use Rattle.layouts.specs.Hints.{any_hint}
use Rattle.layouts.proofs.Room.{hint_readable}
use Rattle.layouts.proofs.Packs.{read_bad, read_long}
use Rattle.layouts.proofs.Hints.{bits_small, hints_are, read_hints_bad, read_hints_many, read_hints_few}
use Rattle.packing.specs.Calls.{unpack_hints_call}
use Rattle.packing.proofs.Calling.{unpack_hints_goes}
use Rattle.packing.proofs.OfSet1.{decoded}
use Rattle.packing.proofs.set1.unpack_hints.Goals as goal

pub returns-in_err-map_err : goal.returns-in_err-map_err
unfolding unpack_hints_call
returns-in_err-map_err c =
    let b = err_from_is_err_and {Q = λ _. Unit {0}} c.unpack.result (grind (arith, common_steps)) in
    let r : c.from_residual.result ≡ Err Hint = grind (arith, common_steps) in
    let D = decoded c.hint.ensures (hint_readable set1 good_set1) c.args.packed.now c.unpack.ensures in
    let h = read_hints_bad set1 c.args.packed.now _ (read_bad D any_hint _ b.1) in
    rw r (grind (arith, common_steps, nat_tests, h))

pub count_ones-requires : goal.count_ones-requires
count_ones-requires c =
    let ok : c.unpack.result ≡ Ok tt = grind (arith, common_steps) in
    let D = decoded c.hint.ensures (hint_readable set1 good_set1) c.args.packed.now c.unpack.ensures in
    (bits_small D ok, omega (arith, read_long D ok))

pub returns-then-count_ones-gt-OMEGA : goal.returns-then-count_ones-gt-OMEGA
unfolding unpack_hints_call
returns-then-count_ones-gt-OMEGA c =
    let ok : c.unpack.result ≡ Ok tt = grind (arith, common_steps) in
    let D = decoded c.hint.ensures (hint_readable set1 good_set1) c.args.packed.now c.unpack.ensures in
    let h = read_hints_many set1 c.args.packed.now _ (hints_are D ok any_hint) (omega (arith, c.if-count_ones-gt-OMEGA.true, c.count_ones.ensures)) in
    grind (arith, common_steps, nat_tests, h)

pub store_plain-requires : goal.store_plain-requires
store_plain-requires c =
    let ok : c.unpack.result ≡ Ok tt = grind (arith, common_steps) in
    let D = decoded c.hint.ensures (hint_readable set1 good_set1) c.args.packed.now c.unpack.ensures in
    (λ k. omega (arith, bits_small D ok k), c.if-out-ne-N.false ∙ sym (read_long D ok))

pub returns : goal.returns
returns c =
    let ok : c.unpack.result ≡ Ok tt = grind (arith, common_steps) in
    let D = decoded c.hint.ensures (hint_readable set1 good_set1) c.args.packed.now c.unpack.ensures in
    doing _ _ _ _
    (unpack_hints_goes set1 c.args.packed.now _ c.if-packed-ne-HINT_BYTES.false c.if-out-ne-N.false ∙
    read_hints_few set1 c.args.packed.now _ (hints_are D ok any_hint)
    (omega (arith, c.if-count_ones-gt-OMEGA.false, c.count_ones.ensures)))
    c.store_plain.ensures
