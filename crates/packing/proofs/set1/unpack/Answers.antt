use Rattle.std.proofs.Common.{◌≡◌, sym, ◌∙◌, arith}
use Rattle.std.specs.Prelude.{Ok, Err}
use Rattle.std.proofs.lemmas.Bool.Decides.{nat_tests}
use Rattle.std.proofs.lemmas.Result.{err_from_is_err_and}
use Rattle.std.proofs.lemmas.Grind.{common_steps}
use Rattle.sets.specs.Set.{set1}
use Rattle.sets.proofs.Five.{good_set1}
use Rattle.answers.specs.declared.Refusal.TheVariants.{Coefficient}
use Rattle.answers.proofs.Outcomes.{doing}
use Rattle.layouts.specs.Layouts.{layout_of}
use Rattle.layouts.proofs.Room.{field_readable}
use Rattle.layouts.proofs.Packs.{read_bad, read_all, read_below, read_long}
use Rattle.packing.specs.Calls.{unpack_call}
use Rattle.packing.proofs.Calling.{unpack_goes}
use Rattle.packing.proofs.OfSet1.{decoded}
use Rattle.packing.proofs.set1.unpack.Goals as goal

pub returns-in_err-map_err : goal.returns-in_err-map_err
unfolding unpack_call
returns-in_err-map_err c =
    let b = err_from_is_err_and {Q = λ _. Unit {0}} c.unpack-read.result (grind (arith, common_steps)) in
    let r : c.from_residual.result ≡ Err (Coefficient c.args.f b.0.index) = grind (arith, common_steps) in
    let l : c.of-l.result ≡ layout_of set1 c.args.f = cc in
    let D = decoded l (field_readable set1 good_set1 c.args.f) c.args.packed.now c.unpack-read.ensures in
    let h = read_bad D (Coefficient c.args.f) _ b.1 in
    rw r (grind (arith, common_steps, nat_tests, h))

pub store_centred-requires : goal.store_centred-requires
store_centred-requires c =
    let ok : c.unpack-read.result ≡ Ok tt = grind (arith, common_steps) in
    let l : c.of-l.result ≡ layout_of set1 c.args.f = cc in
    let D = decoded l (field_readable set1 good_set1 c.args.f) c.args.packed.now c.unpack-read.ensures in
    (omega arith, read_below D ok, c.if-out-ne-N.false ∙ sym (read_long D ok))

pub returns : goal.returns
returns c =
    let ok : c.unpack-read.result ≡ Ok tt = grind (arith, common_steps) in
    let l : c.of-l.result ≡ layout_of set1 c.args.f = cc in
    let D = decoded l (field_readable set1 good_set1 c.args.f) c.args.packed.now c.unpack-read.ensures in
    doing _ _ _ _
    (unpack_goes set1 c.args.f c.args.packed.now _ (cc) c.if-out-ne-N.false ∙ read_all D ok (Coefficient c.args.f)) c.store_centred.ensures
