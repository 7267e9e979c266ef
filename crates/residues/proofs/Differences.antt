-- Differences of natural numbers as whole numbers. The naturals do the work, since `omega` reads no ℤ.
use mathlib.Core.Path.{◌≡◌, refl, sym, ap, ◌∙◌}
use mathlib.Core.Logic.{◌⊎◌, inl, inr, ⊎_elim}
use Prim.Native.Nat.{ℕ, zero, suc, ◌+◌, ◌-◌, ◌≤◌, ◌<◌}
use native.Mathlib.Omega.{arith}
use borrow.Author.Tests.{lt-ltb, le-ltb}
use lib.Dec.{ltb}
use lib.IntN.{ℤ, pos, negsuc, sub_ℕ, nat_abs, ◌+ℤ◌, ◌-ℤ◌}
use lib.Signed.{lt_z}
use Rattle.residues.proofs.Order.{below_or}

pub sub_ge : {a b : ℕ} → b ≤ a → sub_ℕ a b ≡ pos (a - b)
sub_ge {a} {b} h = simp (le-ltb a b h)

pub sub_lt : {a b : ℕ} → a < b → sub_ℕ a b ≡ negsuc (b - suc a)
sub_lt {a} {b} h = simp (lt-ltb a b h)

pub sub-zero : (a : ℕ) → sub_ℕ a 0 ≡ pos a
sub-zero a = sub_ge {a = a} {b = 0} (omega arith) ∙ ap pos (omega arith)

pub pos_sub : (a b : ℕ) → pos a -ℤ pos b ≡ sub_ℕ a b
pos_sub a zero = ap pos (omega arith) ∙ sym (sub_ge {a = a} {b = 0} (omega arith))
pos_sub a (suc b) = refl

pub sub_same : (a b c d : ℕ) → a + d ≡ c + b → sub_ℕ a b ≡ sub_ℕ c d
sub_same a b c d e =
    ⊎_elim (λ h. sub_lt h ∙ ap negsuc (omega arith) ∙ sym (sub_lt {a = c} {b = d} (omega arith)))
    (λ h. sub_ge h ∙ ap pos (omega arith) ∙ sym (sub_ge {a = c} {b = d} (omega arith)))
    (below_or a b)

pub sub_one : (a b : ℕ) → sub_ℕ a b -ℤ pos 1 ≡ sub_ℕ a (b + 1)
sub_one a b =
    ⊎_elim (λ h. ap (λ (z : ℤ). z -ℤ pos 1) (sub_lt h) ∙ ap negsuc (omega arith) ∙ sym (sub_lt {a = a} {b = b + 1} (omega arith)))
    (λ h. ap (λ (z : ℤ). z -ℤ pos 1) (sub_ge h) ∙ sub_same (a - b) 1 a (b + 1) (omega arith))
    (below_or a b)

pub pos_add_sub : (a b c : ℕ) → pos a +ℤ sub_ℕ b c ≡ sub_ℕ (a + b) c
pos_add_sub a b c =
    ⊎_elim (λ h. ap (λ (z : ℤ). pos a +ℤ z) (sub_lt h) ∙ sub_same a (suc (c - suc b)) (a + b) c (omega arith))
    (λ h. ap (λ (z : ℤ). pos a +ℤ z) (sub_ge h) ∙ ap pos (omega arith) ∙ sym (sub_ge {a = a + b} {b = c} (omega arith)))
    (below_or b c)

pub sub_pos : (a b : ℕ) → lt_z (pos 0) (sub_ℕ a b) ≡ ltb b a
sub_pos a b =
    ⊎_elim (λ h. ap (lt_z (pos 0)) (sub_lt h) ∙ sym (le-ltb b a (omega arith)))
    (λ h. ap (lt_z (pos 0)) (sub_ge h) ∙ more h (below_or b a))
    (below_or a b)
  where
    more : b ≤ a → (b < a) ⊎ (a ≤ b) → ltb 0 (a - b) ≡ ltb b a
    more h (inl k) = lt-ltb 0 (a - b) (omega arith) ∙ sym (lt-ltb b a k)
    more h (inr k) = le-ltb 0 (a - b) (omega arith) ∙ sym (le-ltb b a k)

-- ---- the magnitude of a difference
pub abs_sub : (a b : ℕ) → nat_abs (sub_ℕ a b) ≡ (a - b) + (b - a)
abs_sub a b = ⊎_elim (λ h. ap nat_abs (sub_lt h) ∙ omega arith) (λ h. ap nat_abs (sub_ge h) ∙ omega arith) (below_or a b)

pub sub_abs : (a b c : ℕ) → nat_abs (sub_ℕ a b) < c → (a < b + c) × (b < a + c)
sub_abs a b c h = omega (arith, abs_sub a b)

pub abs_sub_le : (a b c : ℕ) → a ≤ b + c → b ≤ a + c → nat_abs (sub_ℕ a b) ≤ c
abs_sub_le a b c l r = omega (arith, abs_sub a b)
