-- One coefficient: a value that a layout allows is known by its code, and a code by its meaning.
use mathlib.Core.Path.{◌≡◌, refl, sym, ap, ◌∙◌}
use mathlib.Core.Bool.{Bool, true, false, cond, ◌&&◌}
use Prim.Native.Nat.{ℕ, suc, ◌+◌, ◌-◌, ◌^◌, ◌≤◌, ◌<◌}
use native.Mathlib.Omega.{arith}
use borrow.Author.Tests.{le-leb, leb-true}
use lib.Dec.{leb}
use lib.IntN.{ℤ, pos, negsuc, nat_abs, neg_ℤ, ◌+ℤ◌, ◌-ℤ◌, +ℤ_assoc, +ℤ_idl, +ℤ_invr, neg_ℤ-+ℤ, neg_ℤ-neg_ℤ}
use Rattle.residues.proofs.Differences.{pos_sub, sub_ge}
use Rattle.layouts.specs.declared.layout.Layout.{Layout}
use Rattle.layouts.specs.Layouts.{plain, down, means, written, code, allowed, is_code, holds}

-- base - (base - x) is x
pub sub_sub : (x y : ℤ) → x -ℤ (x -ℤ y) ≡ y
sub_sub x y =
    ap (λ v. x +ℤ v) (neg_ℤ-+ℤ x (neg_ℤ y)) ∙ sym (+ℤ_assoc x (neg_ℤ x) (neg_ℤ (neg_ℤ y))) ∙
    ap (λ v. v +ℤ neg_ℤ (neg_ℤ y)) (+ℤ_invr x) ∙ +ℤ_idl (neg_ℤ (neg_ℤ y)) ∙ neg_ℤ-neg_ℤ y

pub both : (a b : Bool) → (a && b) ≡ true → (a ≡ true) × (b ≡ true)
both true b e = (refl, e)
both false b e = cc

-- a code is allowed where it lies between the layout's two ends
pub allowed_of : (L : Layout) (v : ℕ) → L.least ≤ v → v ≤ L.most → allowed L v ≡ true
allowed_of L v a b = rw (le-leb L.least v a, le-leb v L.most b)

pub allowed_ends : (L : Layout) (v : ℕ) → allowed L v ≡ true → (L.least ≤ v) × (v ≤ L.most)
allowed_ends L v e =
    let t = both (leb L.least v) (leb v L.most) e in
    (leb-true _ _ t.0, leb-true _ _ t.1)

module _ (L : Layout) where
  -- the code of a code's meaning is the code
  pub written_means : (v : ℕ) → written L (means L v) ≡ pos v
  written_means v = by L.down
    where
      by : (b : Bool) → cond b (pos L.base -ℤ cond b (pos L.base -ℤ pos v) (pos v)) (cond b (pos L.base -ℤ pos v) (pos v)) ≡ pos v
      by true = sub_sub (pos L.base) (pos v)
      by false = refl

  pub code_means : (v : ℕ) → code L (means L v) ≡ v
  code_means v = ap nat_abs (written_means v)

  -- and the meaning of a value's code is the value
  pub means_written : (v : ℕ) (z : ℤ) → written L z ≡ pos v → means L v ≡ z
  means_written v z = by L.down
    where
      by : (b : Bool) → cond b (pos L.base -ℤ z) z ≡ pos v → cond b (pos L.base -ℤ pos v) (pos v) ≡ z
      by true e = ap (λ y. pos L.base -ℤ y) (sym e) ∙ sub_sub (pos L.base) z
      by false e = sym e

-- a value that goes through its code unchanged
pub record Kept (L : Layout) (z : ℤ) : Type 0 where
  pub fits : code L z < 2 ^ L.bits
  pub allowed : allowed L (code L z) ≡ true
  pub back : means L (code L z) ≡ z

module _ (L : Layout) (z : ℤ) where
  -- the test of a value is that the layout keeps it
  pub kept_of : L.most < 2 ^ L.bits → holds L z ≡ true → Kept L z
  kept_of h = by (written L z) refl
    where
      by : (w : ℤ) → written L z ≡ w → is_code L w ≡ true → Kept L z
      by (pos v) e a =
          let c : code L z ≡ v = ap nat_abs e in
          let t = allowed_ends L v a in
          record { fits = omega arith; allowed = rw c a; back = rw c (means_written L v z e) }
      by (negsuc v) e a = cc

  pub written_kept : Kept L z → written L z ≡ pos (code L z)
  written_kept k = ap (written L) (sym k.back) ∙ written_means L (code L z)

  pub holds_of : Kept L z → holds L z ≡ true
  holds_of k = ap (is_code L) (written_kept k) ∙ k.allowed

-- what an allowed code means is kept
pub kept_code : (L : Layout) (v : ℕ) → v < 2 ^ L.bits → allowed L v ≡ true → Kept L (means L v)
kept_code L v l a =
    let c = code_means L v in
    record { fits = rw c l; allowed = rw c a; back = ap (means L) c }

pub kept_plain : (bits most v : ℕ) → most < 2 ^ bits → v ≤ most → Kept (plain bits most) (pos v)
kept_plain bits most v h l = kept_of (plain bits most) (pos v) h (allowed_of (plain bits most) v (omega arith) l)

-- the values that base - code takes
abbrev pub Within : ℕ → ℕ → ℕ → ℤ → Type 0
Within base least most (pos a) = (least + a ≤ base) × (base ≤ most + a)
Within base least most (negsuc a) = (least ≤ base + suc a) × (base + suc a ≤ most)

pub kept_down : (bits base least most : ℕ) (z : ℤ) → most < 2 ^ bits → Within base least most z → Kept (down bits base least most) z
kept_down bits base least most (pos a) h w =
    let L : Layout = down bits base least most in
    kept_of L (pos a) h
    (ap (is_code L) (pos_sub base a ∙ sub_ge {a = base} {b = a} (omega arith)) ∙ allowed_of L (base - a) (omega arith) (omega arith))
kept_down bits base least most (negsuc a) h w =
    let L : Layout = down bits base least most in
    kept_of L (negsuc a) h (allowed_of L (base + suc a) w.0 w.1)
