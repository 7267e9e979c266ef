use Rattle.std.proofs.Math.Nat.{mod-eq_of_lt}
use Rattle.std.proofs.lemmas.Result.{err_from_is_err_and}
use Rattle.std.proofs.Common.{◌≡◌, ◌≤◌, Some, None, ℕ, pos, ap, refl, ◌∙◌, arith, rules, replicate, w32, to_z-of_z}
use borrow.Author.Tests.{tests}
use mir.Val.{SFits}
use Rattle.sampling.proofs.Reading.{one_shifted}
use Rattle.sampling.proofs.Finding.{found, not_found, pairs_behind}
use Rattle.sampling.proofs.Stepping.{stepping_none, stepping_all, stepping_dry, stepping_used}
use Rattle.sampling.proofs.challenge.draw_challenge.Goals as goal

pub loop-place-init : goal.loop-place-init
loop-place-init c = record {
  power = omega (arith, ap (λ u. u.0.now) c.map-draws.ensures.closure, one_shifted c.args.p.jbits (omega (arith, c.requires.good.j_room)));
  some = search rules;
  stepping =
      stepping_none _ _ c.requires.good _ (c.clear.ensures ∙ ap (λ (k : ℕ). replicate k (pos 0)) c.requires.out_len) _ c.sign_bits-signs.ensures _
      (pairs_behind c.args.p.jbits c.args.stream.now _ _ (λ k. omega (arith, c.type_inv.stream k)) c.min.ensures (cc (c.as_chunks.ensures.front)));
}

pub returns-in_err-j : goal.returns-in_err-j
returns-in_err-j c =
    let p = err_from_is_err_and c.from_residual.result c.from_residual.ensures.1 in
    let none : c.find.result ≡ None = grind arith in
    rw (p.1)
    (stepping_dry _ _ _ _ _ _ c.loop-place.invariant.stepping c.loop-place-test.true
    (not_found _ _ c.loop-place.draws.f _ _ _ c.loop-place.place-counter c.loop-place.invariant.power (λ x y f' k. search rules)
    (λ y b p' k. search (rules, tests)) _ _ _ refl none c.find.ensures.ran))

-- the place that is swapped is any number that equals j, so that must-fail/j_modulo is refused for its values
pub loop-place-preserved : goal.loop-place-preserved
loop-place-preserved c =
    let some : c.find.result ≡ Some c.in_ok-j.j = grind arith in
    let f =
    found _ _ c.loop-place.draws.f _ _ _ c.loop-place.place-counter c.loop-place.invariant.power (λ x y f' k. search rules)
    (λ y b p' k. search (rules, tests)) _ c.find.new.self _ _ refl some c.find.ensures.ran in
    let fits : SFits w32 c.sign.result = search rules in
    let below : c.in_ok-j.j ≤ c.loop-place.place-counter = f.2 in
    record {
      power = ap (λ u. u.0.now) f.4 ∙ c.loop-place.invariant.power;
      some = rw (f.4) c.loop-place.invariant.some;
      stepping =
          stepping_used _ _ _ _ _ _ c.loop-place.invariant.stepping f.0 c.in_ok-j.j _ c.loop-place-test.true f.3 f.1 f.2 _ _
          (rw c.sign.ensures at (simp to_z-of_z at c.put.ensures)) (grind (arith, mod-eq_of_lt, below));
    }

pub returns : goal.returns
returns c = stepping_all _ _ _ _ _ _ c.loop-place.invariant.stepping c.loop-place-test.false
