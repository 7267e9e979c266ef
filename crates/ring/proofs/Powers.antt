-- The product of two powers of X.
use mathlib.Core.Path.{◌≡◌, sym, ap, ◌∙◌}
use Prim.Native.Nat.{ℕ, ◌+◌, ◌<◌}
use native.Mathlib.Decide.{ℕ_discrete}
use lib.IntN.{ℤ, ◌*ℤ◌, *ℤ_comm}
use Rattle.residues.proofs.Ints.{mul_assoc}
use Rattle.ring.specs.Ring.{sum, mono, prod}
use Rattle.ring.proofs.Sums.{cong, pick, scale, mono_yes, mono_no}

mono_sym : (i j : ℕ) → mono i j ≡ mono j i
mono_sym i j = go (ℕ_discrete i j)
  where
    go : Dec (i ≡ j) → mono i j ≡ mono j i
    go (yes p) = mono_yes i j p ∙ sym (mono_yes j i (sym p))
    go (no p) = mono_no i j p ∙ sym (mono_no j i (λ d. p (sym d)))

-- X^i · X^j is X^(i+j), folded
pub prod_mono : (n : ℕ) (w : ℕ → ℕ → ℤ) (i j k : ℕ) → i < n → j < n → prod n w (mono i) (mono j) k ≡ w (i + j) k
unfolding prod
prod_mono n w i j k l m =
    cong n (λ x. sum n (λ y. mono i x *ℤ mono j y *ℤ w (x + y) k)) (λ x. w (x + j) k *ℤ mono x i) (λ x a. row x) ∙
    pick n i (λ x. w (x + j) k) l
  where
    row : (x : ℕ) → sum n (λ y. mono i x *ℤ mono j y *ℤ w (x + y) k) ≡ w (x + j) k *ℤ mono x i
    row x =
        cong n (λ y. mono i x *ℤ mono j y *ℤ w (x + y) k) (λ y. mono i x *ℤ (w (x + y) k *ℤ mono y j))
        (λ y b.
        mul_assoc (mono i x) (mono j y) (w (x + y) k) ∙
        ap (λ z. mono i x *ℤ z) (*ℤ_comm (mono j y) (w (x + y) k) ∙ ap (λ z. w (x + y) k *ℤ z) (mono_sym j y))) ∙
        scale n (mono i x) (λ y. w (x + y) k *ℤ mono y j) ∙
        ap (λ z. mono i x *ℤ z) (pick n j (λ y. w (x + y) k) m) ∙
        *ℤ_comm (mono i x) (w (x + j) k) ∙ ap (λ z. w (x + j) k *ℤ z) (mono_sym i x)
