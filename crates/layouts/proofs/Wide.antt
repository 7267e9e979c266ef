-- 64 bits hold base - value for every value of 32 bits, so that tests of it against the ends of a layout are those of the definition.
use mathlib.Core.Path.{◌≡◌, refl, sym, ap, subst, ◌∙◌}
use mathlib.Core.Bool.{Bool, true, false, cond, ◌&&◌}
use mathlib.Core.Logic.{⊎_elim}
use Prim.Native.Nat.{ℕ, ◌^◌, ◌≤◌, ◌<◌}
use native.Mathlib.Omega.{arith}
use borrow.Author.Tests.{ltb-true, ltb-false, lt-leb}
use lib.Dec.{T, leb}
use lib.IntN.{ℤ, pos, negsuc, nat_abs, ◌-ℤ◌}
use lib.Signed.{mag, lt_z, non_neg}
use Rattle.std.specs.Prelude.{Some, None}
use mir.Syntax.{Width, w32, w64}
use mir.Val.{Fits, SFits, to_z, of_z}
use mir.ValLaws.{to_z-of_z, to_z_pos}
use Rattle.residues.proofs.Order.{below_or}
use Rattle.residues.proofs.Differences.{pos_sub, sub_ge, sub_lt}
use Rattle.answers.specs.Result.{pick}
use Rattle.layouts.specs.declared.layout.Layout.{Layout}
use Rattle.layouts.specs.Layouts.{written, code, is_code, holds}
use Rattle.layouts.specs.Inner.{taken}
use Rattle.layouts.proofs.Kept.{allowed_of}

-- a signed number that fits is read back as it was
back : (w : Width) {z : ℤ} → SFits w z → to_z w (of_z w z) ≡ z
back w {z} f = to_z-of_z w z f

sub_small : (b : ℕ) (z : ℤ) → b < 2 ^ 32 → mag z < 2 ^ 31 → mag (pos b -ℤ z) < 2 ^ 63
sub_small b (pos a) h f =
    ⊎_elim (λ l. omega (arith, ap mag (pos_sub b a ∙ sub_lt l))) (λ l. omega (arith, ap mag (pos_sub b a ∙ sub_ge l))) (below_or b a)
sub_small b (negsuc a) h f = omega arith

-- ---- the difference
module _ {z : ℤ} (f : SFits w32 z) where
  pub wide : SFits w64 (to_z w32 (of_z w32 z))
  wide = subst (SFits w64) (sym (back w32 f)) (record { sfits = omega (arith, f.sfits) })

  pub as_it_is : to_z w64 (of_z w64 (to_z w32 (of_z w32 z))) ≡ z
  as_it_is = back w64 wide ∙ back w32 f

  module _ (b : ℕ) (h : Fits w32 b) where
    difference_is : to_z w64 b -ℤ to_z w64 (of_z w64 (to_z w32 (of_z w32 z))) ≡ pos b -ℤ z
    difference_is = λ i. to_z_pos w64 b (omega (arith, h.fits)) i -ℤ as_it_is i

    pub difference_fits : SFits w64 (to_z w64 b -ℤ to_z w64 (of_z w64 (to_z w32 (of_z w32 z))))
    difference_fits = subst (SFits w64) (sym difference_is) (record { sfits = sub_small b z (omega (arith, h.fits)) (omega (arith, f.sfits)) })

    pub difference_back : to_z w64 (of_z w64 (to_z w64 b -ℤ to_z w64 (of_z w64 (to_z w32 (of_z w32 z))))) ≡ pos b -ℤ z
    difference_back = back w64 difference_fits ∙ difference_is

module _ (L : Layout) (z : ℤ) where
  pub written_down : L.down ≡ true → pos L.base -ℤ z ≡ written L z
  written_down d = ap (λ b. cond b (pos L.base -ℤ z) z) (sym d)

  pub written_plain : L.down ≡ false → z ≡ written L z
  written_plain d = ap (λ b. cond b (pos L.base -ℤ z) z) (sym d)

-- ---- the tests
and_false : (a : Bool) → (a && false) ≡ false
and_false true = refl
and_false false = refl

module _ (L : Layout) where
  low : (w : ℤ) → lt_z w (pos L.least) ≡ true → is_code L w ≡ false
  low (pos v) h = ap (λ b. b && leb v L.most) (lt-leb L.least v (ltb-true v L.least h))
  low (negsuc v) h = refl

  high : (w : ℤ) → lt_z (pos L.most) w ≡ true → is_code L w ≡ false
  high (pos v) h = ap (λ b. leb L.least v && b) (lt-leb v L.most (ltb-true L.most v h)) ∙ and_false (leb L.least v)
  high (negsuc v) h = refl

  between : (w : ℤ) → lt_z w (pos L.least) ≡ false → lt_z (pos L.most) w ≡ false → (is_code L w ≡ true) × T (non_neg w) × (nat_abs w ≤ L.most)
  between (pos v) h k =
      let a = ltb-false v L.least h in
      let b = ltb-false L.most v k in
      (allowed_of L v a b, tt, b)
  between (negsuc v) h k = let e : ◌≡◌ {A = ℕ} 0 1 = cc in absurd (omega arith)

module _ (L : Layout) (z w : ℤ) (e : w ≡ written L z) (f : SFits w64 w) (hl : Fits w32 L.least) (hm : Fits w32 L.most) where
  bad : is_code L w ≡ false → None ≡ taken (holds L) (code L) z
  bad h = sym (ap (λ b. pick b (Some (nat_abs w)) None) h) ∙ ap (λ x. pick (is_code L x) (Some (nat_abs x)) None) e

  test_low : (t : Bool) → lt_z (to_z w64 (of_z w64 w)) (to_z w64 L.least) ≡ t → lt_z w (pos L.least) ≡ t
  test_low t h = sym (λ i. lt_z (back w64 f i) (to_z_pos w64 L.least (omega (arith, hl.fits)) i)) ∙ h

  test_high : (t : Bool) → lt_z (to_z w64 L.most) (to_z w64 (of_z w64 w)) ≡ t → lt_z (pos L.most) w ≡ t
  test_high t h = sym (λ i. lt_z (to_z_pos w64 L.most (omega (arith, hm.fits)) i) (back w64 f i)) ∙ h

  pub coded_low : lt_z (to_z w64 (of_z w64 w)) (to_z w64 L.least) ≡ true → None ≡ taken (holds L) (code L) z
  coded_low h = bad (low L w (test_low true h))

  pub coded_high : lt_z (to_z w64 L.most) (to_z w64 (of_z w64 w)) ≡ true → None ≡ taken (holds L) (code L) z
  coded_high h = bad (high L w (test_high true h))

  module _ (h : lt_z (to_z w64 (of_z w64 w)) (to_z w64 L.least) ≡ false) (k : lt_z (to_z w64 L.most) (to_z w64 (of_z w64 w)) ≡ false) where
    passed : (is_code L w ≡ true) × T (non_neg w) × (nat_abs w ≤ L.most)
    passed = between L w (test_low false h) (test_high false k)

    pub coded_fits : T (non_neg (to_z w64 (of_z w64 w))) × Fits w32 (nat_abs (to_z w64 (of_z w64 w)))
    coded_fits =
        subst (λ (x : ℤ). T (non_neg x) × Fits w32 (nat_abs x)) (sym (back w64 f)) (passed.1, record { fits = omega (arith, passed.2, hm.fits) })

    pub coded_good : Some (nat_abs (to_z w64 (of_z w64 w))) ≡ taken (holds L) (code L) z
    coded_good =
        ap (λ (x : ℤ). Some (nat_abs x)) (back w64 f) ∙
        sym (ap (λ b. pick b (Some (nat_abs w)) None) passed.0) ∙ ap (λ x. pick (is_code L x) (Some (nat_abs x)) None) e
