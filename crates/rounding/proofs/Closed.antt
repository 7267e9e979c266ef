-- Decompose in closed form, with no case for the top half bucket: with u = (x + γ2) mod q, the high bits of x are (u - 1)/α,
-- and the low bits u - (γ2 + high·α). Every law on hints goes by u.
use mathlib.Core.Path.{◌≡◌, sym, ap, ◌∙◌}
use mathlib.Core.Bool.{true, false}
use mathlib.Core.Logic.{⊎_elim}
use Prim.Native.Nat.{ℕ, ◌+◌, ◌-◌, ◌*◌, ◌/◌, ◌%◌, ◌≤◌, ◌<◌}
use native.Mathlib.Nat.{mod-lt, mod-eq_of_lt, div-add-mod', div-eq_of_lt-le, div-eq_of_lt, mul-div_cancel, mul-le-mul_right, add-mod_right, lt_of_mul-lt-mul_right}
use native.Mathlib.Omega.{arith}
use borrow.Author.Tests.{le-leb, lt-leb, eq-eqb, ne_eqb}
use lib.Dec.{leb, eqb}
use lib.IntN.{ℤ, pos, sub_ℕ, nat_abs, ◌-ℤ◌}
use Rattle.sets.specs.Set.{Set, alpha, steps}
use Rattle.sets.specs.Good.{Good}
use Rattle.residues.specs.Remainder.{residue, centred}
use Rattle.residues.proofs.Order.{below_or}
use Rattle.residues.proofs.Differences.{sub_ge, sub_lt, pos_sub, sub_same, sub_one}
use Rattle.rounding.specs.Rounding.{rest, parts}

-- ---- the centred remainder, by its two cases
pub half_of : (g : ℕ) → (2 * g) / 2 ≡ g
half_of g = omega arith

module _ (g x : ℕ) where
  pub low_case : x % (2 * g) ≤ g → (centred (2 * g) (pos x) ≡ pos (x % (2 * g))) × (rest (2 * g) x ≡ x / (2 * g) * (2 * g))
  unfolding centred residue rest
  low_case h =
      let t : leb (x % (2 * g)) ((2 * g) / 2) ≡ true = le-leb (x % (2 * g)) ((2 * g) / 2) (omega (arith, half_of g)) in
      let e = div-add-mod' x (2 * g) in (
        simp t,
        simp t (ap nat_abs (pos_sub x (x % (2 * g)) ∙ sub_ge {a = x} {b = x % (2 * g)} (omega arith)) ∙ omega arith),
      )

  pub high_case : 0 < g → g < x % (2 * g) → (centred (2 * g) (pos x) ≡ sub_ℕ (x % (2 * g)) (2 * g)) × (rest (2 * g) x ≡ (x / (2 * g) + 1) * (2 * g))
  unfolding centred residue rest
  high_case hg h =
      let t : leb (x % (2 * g)) ((2 * g) / 2) ≡ false = lt-leb (x % (2 * g)) ((2 * g) / 2) (omega (arith, half_of g)) in
      let e = div-add-mod' x (2 * g) in
      let l : x % (2 * g) < 2 * g = mod-lt x (omega arith) in
      (simp t, simp t (ap (λ (z : ℤ). nat_abs (pos x -ℤ z)) (sub_lt l) ∙ omega arith))

abbrev pub offset : Set → ℕ → ℕ
offset p x = (x + p.gamma2) % p.q

abbrev pub step_of : Set → ℕ → ℕ
step_of p u = (u - 1) / alpha p

pub record Closed (p : Set) (x : ℕ) : Type 0 where
  pub high_is : (parts p x).high ≡ step_of p (offset p x)
  pub low_is : (parts p x).low ≡ sub_ℕ (offset p x) (p.gamma2 + step_of p (offset p x) * alpha p)

module _ (p : Set) (good : Good p) where
  wide : 0 < alpha p
  wide = let s = good.some in omega arith

  -- a bucket below the last: u = x + γ2 does not wrap
  inner : (x k : ℕ) (z : ℤ) → rest (alpha p) x ≡ k * alpha p → centred (alpha p) (pos x) ≡ z → k < steps p → k * alpha p < x + p.gamma2 →
      x + p.gamma2 ≤ k * alpha p + alpha p → z ≡ sub_ℕ (x + p.gamma2) (p.gamma2 + k * alpha p) → Closed p x
  unfolding parts
  inner x k z er ez hk lo hi e =
      let w = wide in
      let l = mul-le-mul_right (alpha p) hk in
      let t : eqb (k * alpha p) (p.q - 1) ≡ false = ne_eqb (k * alpha p) (p.q - 1) (λ c. omega (arith, good.whole)) in
      let u : offset p x ≡ x + p.gamma2 = mod-eq_of_lt (omega (arith, good.whole)) in
      let s : (x + p.gamma2 - 1) / alpha p ≡ k = div-eq_of_lt-le (alpha p) (omega arith) (omega arith) in
      record {
        high_is = simp (er, t, mul-div_cancel k w, u, s);
        low_is = simp (er, t, ez, u, s) e;
      }

  -- the last: u = x + γ2 - q
  outer : (x u : ℕ) (z : ℤ) → rest (alpha p) x ≡ steps p * alpha p → centred (alpha p) (pos x) ≡ z → x + p.gamma2 ≡ u + p.q → u < p.gamma2 →
      z -ℤ pos 1 ≡ sub_ℕ u p.gamma2 → Closed p x
  unfolding parts
  outer x u z er ez eu hu e =
      let l = mul-le-mul_right (alpha p) good.many in
      let t : eqb (steps p * alpha p) (p.q - 1) ≡ true = eq-eqb (steps p * alpha p) (p.q - 1) (omega (arith, good.whole)) in
      let v : offset p x ≡ u =
      ap (λ (n : ℕ). n % p.q) eu ∙ add-mod_right u p.q ∙ mod-eq_of_lt (omega (arith, good.whole)) in
      let s : (u - 1) / alpha p ≡ 0 = div-eq_of_lt (omega arith) in
      let n : p.gamma2 + 0 * alpha p ≡ p.gamma2 = omega arith in
      record {
        high_is = simp (er, t, v, s);
        low_is = simp (er, t, ez, v, s, n) e;
      }

  pub closed : (x : ℕ) → x < p.q → Closed p x
  closed x h =
      let A = alpha p in
      let s = x % alpha p in
      let k = x / alpha p in
      let w = wide in
      let e : x / alpha p * alpha p + x % alpha p ≡ x = div-add-mod' x (alpha p) in
      let b : x % alpha p < alpha p = mod-lt x w in
      let m = good.whole in
      ⊎_elim
      (λ g.
      let c = high_case p.gamma2 x good.some g in
      let f : x / alpha p < steps p = lt_of_mul-lt-mul_right (alpha p) (omega arith) in
      let f1 = mul-le-mul_right (alpha p) f in
      ⊎_elim
      (λ f. inner x (k + 1) (sub_ℕ s A) c.1 c.0 f (omega arith) (omega arith)
      (sub_same s A (x + p.gamma2) (p.gamma2 + (k + 1) * A) (omega arith)))
      (λ f.
      let f2 = mul-le-mul_right (alpha p) f in
      outer x (s + p.gamma2 - (A + 1)) (sub_ℕ s A) (c.1 ∙ omega arith) c.0 (omega arith) (omega arith)
      (sub_one s A ∙ sub_same s (A + 1) (s + p.gamma2 - (A + 1)) p.gamma2 (omega arith)))
      (below_or (k + 1) (steps p)))
      (λ g.
      let c = low_case p.gamma2 x g in
      ⊎_elim
      (λ f. inner x k (pos s) c.1 c.0 f (omega (arith, good.some)) (omega arith)
      (sym (sub_ge {a = x + p.gamma2} {b = p.gamma2 + k * A} (omega arith) ∙ ap pos (omega arith))))
      (λ f.
      let f2 = mul-le-mul_right (alpha p) f in
      outer x (p.gamma2 - 1) (pos s) (c.1 ∙ omega arith) c.0 (omega (arith, good.some)) (omega (arith, good.some))
      (pos_sub s 1 ∙ sub_same s 1 (p.gamma2 - 1) p.gamma2 (omega (arith, good.some))))
      (below_or k (steps p)))
      (below_or p.gamma2 s)
