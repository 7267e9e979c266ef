use Rattle.std.proofs.Common.{◌≡◌, ◌<◌, refl, ◌∙◌, arith}
use Rattle.std.specs.Prelude.{Ok, Err}
use Rattle.std.proofs.lemmas.Bool.Decides.{nat_tests}
use Rattle.std.proofs.lemmas.Result.{err_from_is_err_and}
use Rattle.std.proofs.lemmas.Grind.{common_steps}
use Rattle.sets.specs.Set.{set1}
use Rattle.sets.proofs.Five.{good_set1}
use Rattle.answers.specs.declared.Refusal.TheVariants.{Hint}
use Rattle.answers.proofs.Outcomes.{doing}
use Rattle.layouts.specs.Hints.{ones, any_hint}
use Rattle.layouts.proofs.Room.{hint_readable}
use Rattle.layouts.proofs.Packs.{values_bad, values_good, codes_small, codes_long, can_pack, packed_is}
use Rattle.layouts.proofs.Hints.{count_is}
use Rattle.packing.specs.Calls.{pack_hints_call}
use Rattle.packing.proofs.Calling.{pack_hints_done}
use Rattle.packing.proofs.OfSet1.{coded}
use Rattle.packing.proofs.set1.pack_hints.Goals as goal

pub returns-in_err-map_err : goal.returns-in_err-map_err
unfolding pack_hints_call
returns-in_err-map_err c =
    let b = err_from_is_err_and {Q = λ _. Unit {0}} c.codes_of.result (grind (arith, common_steps)) in
    let r : c.from_residual.result ≡ Err Hint = grind (arith, common_steps) in
    let C = coded c.hint.ensures (hint_readable set1 good_set1) c.args.values.now c.if-values-ne-N.false c.codes_of.ensures in
    let h = values_bad C any_hint _ b.1 in
    rw r (grind (arith, common_steps, nat_tests, h))

pub count_ones-requires : goal.count_ones-requires
count_ones-requires c =
    let ok : c.codes_of.result ≡ Ok tt = grind (arith, common_steps) in
    let C = coded c.hint.ensures (hint_readable set1 good_set1) c.args.values.now c.if-values-ne-N.false c.codes_of.ensures in
    (λ k. omega (arith, codes_small C ok k), omega (arith, codes_long C ok))

pub returns-then-count_ones-gt-OMEGA : goal.returns-then-count_ones-gt-OMEGA
unfolding pack_hints_call
returns-then-count_ones-gt-OMEGA c =
    let ok : c.codes_of.result ≡ Ok tt = grind (arith, common_steps) in
    let C = coded c.hint.ensures (hint_readable set1 good_set1) c.args.values.now c.if-values-ne-N.false c.codes_of.ensures in
    let h = values_good C ok any_hint in
    let many : 80 < ones c.args.values.now = omega (arith, c.if-count_ones-gt-OMEGA.true, count_is C ok _ c.count_ones.ensures) in
    grind (arith, common_steps, nat_tests, h)

pub pack_codes-requires-clause-w_nonzero : goal.pack_codes-requires-clause-w_nonzero
pack_codes-requires-clause-w_nonzero c =
    let ok : c.codes_of.result ≡ Ok tt = grind (arith, common_steps) in
    let C = coded c.hint.ensures (hint_readable set1 good_set1) c.args.values.now c.if-values-ne-N.false c.codes_of.ensures in
    (can_pack C ok (omega arith) _ refl).0

pub returns : goal.returns
returns c =
    let ok : c.codes_of.result ≡ Ok tt = grind (arith, common_steps) in
    let C = coded c.hint.ensures (hint_readable set1 good_set1) c.args.values.now c.if-values-ne-N.false c.codes_of.ensures in
    doing _ _ _ _
    (pack_hints_done set1 c.args.values.now _ c.if-values-ne-N.false c.if-out-ne-HINT_BYTES.false (values_good C ok any_hint)
    (omega (arith, c.if-count_ones-gt-OMEGA.false, count_is C ok _ c.count_ones.ensures)))
    (c.pack_codes.ensures ∙ packed_is C ok)
