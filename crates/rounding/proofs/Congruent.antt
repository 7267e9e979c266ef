-- The rules read their arguments mod q; the laws of hints through the norm, for remainders.
use mathlib.Core.Path.{◌≡◌, refl, sym, ap, ◌∙◌}
use mathlib.Core.Bool.{cond}
use Prim.Native.Nat.{ℕ, ◌+◌, ◌-◌, ◌*◌, ◌/◌, ◌%◌, ◌^◌, ◌≤◌, ◌<◌}
use native.Mathlib.Nat.{mod-lt, div-add-mod', mul-le-mul_right}
use native.Mathlib.Omega.{arith}
use lib.Dec.{eqb}
use lib.IntN.{ℤ, pos, nat_abs, ◌+ℤ◌}
use Rattle.sets.specs.Set.{Set, alpha}
use Rattle.sets.specs.Good.{Good}
use Rattle.residues.specs.Remainder.{residue, centred, magnitude}
use Rattle.residues.proofs.Differences.{abs_sub_le}
use Rattle.residues.proofs.Remainders.{residue_again, residue_plus}
use Rattle.residues.proofs.Centres.{residue_centred}
use Rattle.rounding.specs.Rounding.{rest, parts, decompose, high_bits, low_bits, make_hint, moved, use_hint, power2_round}
use Rattle.rounding.proofs.Closed.{step_of}
use Rattle.rounding.proofs.Hints.{place, low_at, hint_recovers, high_kept}

module _ (p : Set) (good : Good p) where
  pub q_pos : 0 < p.q
  q_pos = omega (arith, good.whole)

  -- two steps or more, so low bits are their own centred remainders by q
  pub q_wide : 2 * p.gamma2 < p.q
  q_wide = let l = mul-le-mul_right (alpha p) good.many in omega (arith, good.whole, good.some)

  pub high_cong : (r s : ℤ) → residue p.q r ≡ residue p.q s → high_bits p r ≡ high_bits p s
  unfolding decompose
  high_cong r s e = ap (λ (x : ℕ). (parts p x).high) e

  pub low_cong : (r s : ℤ) → residue p.q r ≡ residue p.q s → low_bits p r ≡ low_bits p s
  unfolding decompose
  low_cong r s e = ap (λ (x : ℕ). (parts p x).low) e

  pub use_cong : (h : ℕ) (r s : ℤ) → residue p.q r ≡ residue p.q s → use_hint p h r ≡ use_hint p h s
  unfolding use_hint decompose
  use_cong h r s e = ap (λ (x : ℕ). cond (eqb h 0) (parts p x).high (moved p (parts p x))) e

  pub power_cong : (r s : ℤ) → residue p.q r ≡ residue p.q s → power2_round p r ≡ power2_round p s
  unfolding power2_round
  power_cong r s e = λ i. record { high = rest (2 ^ p.d) (e i) / 2 ^ p.d; low = centred (2 ^ p.d) (pos (e i)) }

  pub hint_cong : (z w r s : ℤ) → residue p.q z ≡ residue p.q w → residue p.q r ≡ residue p.q s → make_hint p z r ≡ make_hint p w s
  unfolding make_hint
  hint_cong z w r s e f = simp (high_cong r s f, high_cong (r +ℤ z) (s +ℤ w) (residue_plus p.q q_pos r s z w f e))

  -- a number and its remainder
  pub high_mod : (n : ℕ) → high_bits p (pos (n % p.q)) ≡ high_bits p (pos n)
  unfolding residue
  high_mod n = high_cong (pos (n % p.q)) (pos n) (residue_again p.q q_pos (pos n))

  pub use_again : (h : ℕ) (r : ℤ) → use_hint p h (pos (residue p.q r)) ≡ use_hint p h r
  use_again h r = use_cong h (pos (residue p.q r)) r (residue_again p.q q_pos r)

  pub power_again : (r : ℤ) → power2_round p (pos (residue p.q r)) ≡ power2_round p r
  power_again r = power_cong (pos (residue p.q r)) r (residue_again p.q q_pos r)

  pub hint_again : (z r : ℤ) → make_hint p (pos (residue p.q z)) (pos (residue p.q r)) ≡ make_hint p z r
  hint_again z r = hint_cong (pos (residue p.q z)) z (pos (residue p.q r)) r (residue_again p.q q_pos z) (residue_again p.q q_pos r)

  centre : (z : ℤ) → residue p.q z ≡ residue p.q (centred p.q z)
  centre z = sym (residue_centred p.q q_pos z)

  -- SPEC 12.4, for a z of norm at most γ2
  pub hint_recovers_norm : (z r : ℤ) → magnitude p.q z ≤ p.gamma2 → use_hint p (make_hint p z r) r ≡ high_bits p (r +ℤ z)
  hint_recovers_norm z r h =
      let w = centred p.q z in
      ap (λ (k : ℕ). use_hint p k r) (hint_cong z w r r (centre z) refl) ∙
      hint_recovers p good w r h ∙
      high_cong (r +ℤ w) (r +ℤ z) (residue_plus p.q q_pos r r w z refl (sym (centre z)))

  -- SPEC 12.5, for an s of norm at most b
  pub high_kept_norm : (b : ℕ) (s r : ℤ) → magnitude p.q s ≤ b → nat_abs (low_bits p r) < p.gamma2 - b → high_bits p r ≡ high_bits p (r +ℤ s)
  high_kept_norm b s r hs hl =
      let t = centred p.q s in
      high_kept p good b t r hs hl ∙ high_cong (r +ℤ t) (r +ℤ s) (residue_plus p.q q_pos r r t s refl (sym (centre s)))

  -- the low bits are at most half a step
  pub low_le : (r : ℤ) → nat_abs (low_bits p r) ≤ p.gamma2
  low_le r =
      let u = place p good r in
      let e = div-add-mod' (u - 1) (alpha p) in
      let m = mod-lt (u - 1) {m = alpha p} (omega (arith, good.some)) in
      rw (low_at p good r) (abs_sub_le u (p.gamma2 + step_of p u * alpha p) p.gamma2 (omega arith) (omega arith))
