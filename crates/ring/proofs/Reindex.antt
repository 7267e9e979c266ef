-- The product, gathered by exponents: Σ_i Σ_j a_i b_j w (i + j) = Σ_e (Σ_i a_i b_(e-i)) w e.
use mathlib.Core.Path.{◌≡◌, refl, sym, ap, ◌∙◌}
use mathlib.Core.Bool.{Bool, true, false, cond}
use Prim.Native.Nat.{ℕ, zero, suc, ◌+◌, ◌*◌, ◌-◌, ◌≤◌, ◌<◌}
use native.Mathlib.Nat.{add-zero, add-suc, mul-zero}
use native.Mathlib.Omega.{arith}
use native.Mathlib.Decide.{le_ind}
use borrow.Author.Tests.{le-leb, lt-leb}
use lib.Dec.{leb}
use lib.IntN.{ℤ, pos, ◌+ℤ◌, ◌*ℤ◌, +ℤ_idr, zero-*ℤ}
use Rattle.ring.specs.Ring.{sum, prod}
use Rattle.ring.specs.Inner.{total}
use Rattle.residues.proofs.Ints.{mul_assoc}
use Rattle.ring.proofs.Sums.{cong, zeros, scale, scale_r, swap}

-- terms past m are 0
pub tail : (m : ℕ) (f : ℕ → ℤ) (n : ℕ) → m ≤ n → ((e : ℕ) → m ≤ e → e < n → f e ≡ pos 0) → sum n f ≡ sum m f
unfolding sum
tail m f n l = le_ind {n = m} (λ n. ((e : ℕ) → m ≤ e → e < n → f e ≡ pos 0) → sum n f ≡ sum m f) (λ h. refl)
    (λ n l ih h. ap (λ x. sum n f +ℤ x) (h n l (omega arith)) ∙ +ℤ_idr (sum n f) ∙ ih (λ e a b. h e a (omega arith))) n l

-- b moved up by i places
abbrev pub moved : (ℕ → ℤ) → ℕ → ℕ → ℤ
moved b i e = cond (leb i e) (b (e - i)) (pos 0)

moved_low : (b : ℕ → ℤ) (i e : ℕ) → e < i → moved b i e ≡ pos 0
moved_low b i e l = rw (lt-leb i e l)

moved_high : (b : ℕ → ℤ) (i e : ℕ) → i ≤ e → moved b i e ≡ b (e - i)
moved_high b i e l = rw (le-leb i e l)

module _ (b v : ℕ → ℤ) (i : ℕ) where
  along : (m : ℕ) → sum (i + m) (λ e. moved b i e *ℤ v e) ≡ sum m (λ j. b j *ℤ v (i + j))
  unfolding sum
  along zero =
      ap (λ x. sum x (λ e. moved b i e *ℤ v e)) (add-zero i)
      ∙ zeros i (λ e. moved b i e *ℤ v e) (λ e l. ap (λ x. x *ℤ v e) (moved_low b i e l) ∙ zero-*ℤ (v e))
  along (suc m) =
      ap (λ x. sum x (λ e. moved b i e *ℤ v e)) (add-suc i m)
      ∙ ap (λ x. x +ℤ moved b i (i + m) *ℤ v (i + m)) (along m)
      ∙ ap (λ x. sum m (λ j. b j *ℤ v (i + j)) +ℤ x *ℤ v (i + m)) (moved_high b i (i + m) (omega arith) ∙ ap b (omega arith))

  -- over n places of b, seen in N ≥ n + i places
  pub across : (n N : ℕ) → i + n ≤ N → ((j : ℕ) → n ≤ j → b j ≡ pos 0) → sum N (λ e. moved b i e *ℤ v e) ≡ sum n (λ j. b j *ℤ v (i + j))
  across n N l h =
      tail (i + n) (λ e. moved b i e *ℤ v e) N l
      (λ e m r. ap (λ x. x *ℤ v e) (moved_high b i e (omega arith) ∙ h (e - i) (omega arith)) ∙ zero-*ℤ (v e))
      ∙ along n

pub by_exponent : (n N : ℕ) (w : ℕ → ℕ → ℤ) (a b : ℕ → ℤ) (k : ℕ) → n + n ≤ suc N → ((j : ℕ) → n ≤ j → b j ≡ pos 0)
    → prod n w a b k ≡ sum N (λ e. sum n (λ i. a i *ℤ moved b i e) *ℤ w e k)
unfolding prod
by_exponent n N w a b k l h =
    cong n (λ i. sum n (λ j. a i *ℤ b j *ℤ w (i + j) k)) (λ i. sum N (λ e. a i *ℤ moved b i e *ℤ w e k))
    (λ i r. cong n (λ j. a i *ℤ b j *ℤ w (i + j) k) (λ j. a i *ℤ (b j *ℤ w (i + j) k)) (λ j m. mul_assoc (a i) (b j) (w (i + j) k))
    ∙ scale n (a i) (λ j. b j *ℤ w (i + j) k)
    ∙ ap (λ x. a i *ℤ x) (sym (across b (λ e. w e k) i n N (omega arith) h))
    ∙ sym (scale N (a i) (λ e. moved b i e *ℤ w e k))
    ∙ cong N (λ e. a i *ℤ (moved b i e *ℤ w e k)) (λ e. a i *ℤ moved b i e *ℤ w e k) (λ e m. sym (mul_assoc (a i) (moved b i e) (w e k))))
    ∙ swap n N (λ i e. a i *ℤ moved b i e *ℤ w e k)
    ∙ cong N (λ e. sum n (λ i. a i *ℤ moved b i e *ℤ w e k)) (λ e. sum n (λ i. a i *ℤ moved b i e) *ℤ w e k)
    (λ e r. scale_r n (w e k) (λ i. a i *ℤ moved b i e))

-- a sum of natural numbers is one of integers
pub pos_total : (n : ℕ) (f : ℕ → ℕ) → pos (total n f) ≡ sum n (λ i. pos (f i))
unfolding total sum
pos_total zero f = refl
pos_total (suc n) f = ap (λ x. x +ℤ pos (f n)) (pos_total n f)

pub pos_meet : (c : Bool) (x y : ℕ) → pos (cond c (x * y) 0) ≡ pos x *ℤ cond c (pos y) (pos 0)
pos_meet true x y = refl
pos_meet false x y = ap pos (sym (mul-zero x))
