use Rattle.std.proofs.Common.{◌≡◌, refl, ◌∙◌, arith}
use Rattle.std.specs.Prelude.{Ok, Err}
use Rattle.std.proofs.lemmas.Bool.Decides.{nat_tests}
use Rattle.std.proofs.lemmas.Result.{err_from_is_err_and}
use Rattle.std.proofs.lemmas.Grind.{common_steps}
use Rattle.sets.specs.Set.{set1}
use Rattle.sets.proofs.Five.{good_set1}
use Rattle.answers.specs.declared.Refusal.TheVariants.{Coefficient}
use Rattle.answers.proofs.Outcomes.{doing}
use Rattle.layouts.specs.Layouts.{layout_of}
use Rattle.layouts.proofs.Room.{field_readable}
use Rattle.layouts.proofs.Packs.{values_bad, values_good, can_pack, packed_is}
use Rattle.packing.specs.Calls.{pack_call}
use Rattle.packing.proofs.Calling.{pack_done}
use Rattle.packing.proofs.OfSet1.{coded}
use Rattle.packing.proofs.set1.pack.Goals as goal

pub returns-in_err-map_err : goal.returns-in_err-map_err
unfolding pack_call
returns-in_err-map_err c =
    let b = err_from_is_err_and {Q = λ _. Unit {0}} c.codes_of-coded.result (grind (arith, common_steps)) in
    let r : c.from_residual.result ≡ Err (Coefficient c.args.f b.0.index) = grind (arith, common_steps) in
    let l : c.of-l.result ≡ layout_of set1 c.args.f = cc in
    let C = coded l (field_readable set1 good_set1 c.args.f) c.args.values.now c.if-values-ne-N.false c.codes_of-coded.ensures in
    let h = values_bad C (Coefficient c.args.f) _ b.1 in
    rw r (grind (arith, common_steps, nat_tests, h))

pub pack_codes-requires-clause-w_nonzero : goal.pack_codes-requires-clause-w_nonzero
pack_codes-requires-clause-w_nonzero c =
    let ok : c.codes_of-coded.result ≡ Ok tt = grind (arith, common_steps) in
    let l : c.of-l.result ≡ layout_of set1 c.args.f = cc in
    let C = coded l (field_readable set1 good_set1 c.args.f) c.args.values.now c.if-values-ne-N.false c.codes_of-coded.ensures in
    rw l ((can_pack C ok (omega arith) _ refl).0)

pub returns : goal.returns
returns c =
    let ok : c.codes_of-coded.result ≡ Ok tt = grind (arith, common_steps) in
    let l : c.of-l.result ≡ layout_of set1 c.args.f = cc in
    let C = coded l (field_readable set1 good_set1 c.args.f) c.args.values.now c.if-values-ne-N.false c.codes_of-coded.ensures in
    doing _ _ _ _
    (pack_done set1 c.args.f c.args.values.now _ c.if-values-ne-N.false (cc) (values_good C ok (Coefficient c.args.f)))
    (c.pack_codes.ensures ∙ rw l (packed_is C ok))
