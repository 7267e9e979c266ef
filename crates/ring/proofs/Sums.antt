-- Laws of finite sums of integers.
use mathlib.Core.Path.{◌≡◌, refl, sym, ap, ◌∙◌}
use Prim.Native.Nat.{ℕ, zero, suc, ◌<◌}
use native.Mathlib.Omega.{arith}
use native.Mathlib.Decide.{ℕ_discrete}
use lib.IntN.{ℤ, pos, ◌+ℤ◌, ◌*ℤ◌, +ℤ_idl, +ℤ_idr, *ℤ-zero, *ℤ_comm}
use borrow.Author.Tests.{eq-eqb, ne_eqb}
use Rattle.ring.specs.Ring.{sum, mono}
use Rattle.residues.proofs.Ints.{swap_mid, mul-add, mul-one}

pub cong : (n : ℕ) (f g : ℕ → ℤ) → ((i : ℕ) → i < n → f i ≡ g i) → sum n f ≡ sum n g
unfolding sum
cong zero f g h = refl
cong (suc n) f g h = ap (λ x. x +ℤ f n) (cong n f g (λ i l. h i (omega arith))) ∙ ap (λ x. sum n g +ℤ x) (h n (omega arith))

pub zeros : (n : ℕ) (f : ℕ → ℤ) → ((i : ℕ) → i < n → f i ≡ pos 0) → sum n f ≡ pos 0
unfolding sum
zeros zero f h = refl
zeros (suc n) f h = ap (λ x. x +ℤ f n) (zeros n f (λ i l. h i (omega arith))) ∙ +ℤ_idl (f n) ∙ h n (omega arith)

pub plus : (n : ℕ) (f g : ℕ → ℤ) → sum n (λ i. f i +ℤ g i) ≡ sum n f +ℤ sum n g
unfolding sum
plus zero f g = refl
plus (suc n) f g = ap (λ x. x +ℤ (f n +ℤ g n)) (plus n f g) ∙ swap_mid (sum n f) (sum n g) (f n) (g n)

pub scale : (n : ℕ) (c : ℤ) (f : ℕ → ℤ) → sum n (λ i. c *ℤ f i) ≡ c *ℤ sum n f
unfolding sum
scale zero c f = sym (*ℤ-zero c)
scale (suc n) c f = ap (λ x. x +ℤ c *ℤ f n) (scale n c f) ∙ sym (mul-add c (sum n f) (f n))

pub scale_r : (n : ℕ) (c : ℤ) (f : ℕ → ℤ) → sum n (λ i. f i *ℤ c) ≡ sum n f *ℤ c
scale_r n c f = cong n (λ i. f i *ℤ c) (λ i. c *ℤ f i) (λ i l. *ℤ_comm (f i) c) ∙ scale n c f ∙ *ℤ_comm c (sum n f)

pub swap : (n m : ℕ) (f : ℕ → ℕ → ℤ) → sum n (λ i. sum m (λ j. f i j)) ≡ sum m (λ j. sum n (λ i. f i j))
unfolding sum
swap zero m f = sym (zeros m (λ j. pos 0) (λ i l. refl))
swap (suc n) m f =
    ap (λ x. x +ℤ sum m (λ j. f n j)) (swap n m f)
    ∙ sym (plus m (λ j. sum n (λ i. f i j)) (λ j. f n j))

-- the coefficients of a power of X
pub mono_yes : (e k : ℕ) → e ≡ k → mono e k ≡ pos 1
unfolding mono
mono_yes e k h = rw (eq-eqb e k h)

pub mono_no : (e k : ℕ) → (e ≡ k → ⊥) → mono e k ≡ pos 0
unfolding mono
mono_no e k h = rw (ne_eqb e k h)

-- one term of a sum
pick_case : (n k : ℕ) (f : ℕ → ℤ) → k < suc n → (k < n → sum n (λ j. f j *ℤ mono j k) ≡ f k) → Dec (n ≡ k) → sum n (λ j. f j *ℤ mono j k) +ℤ f n *ℤ mono n k ≡ f k
pick_case n k f h ih (yes e) =
    ap (λ x. x +ℤ f n *ℤ mono n k) (zeros n (λ j. f j *ℤ mono j k) (λ j l. ap (λ x. f j *ℤ x) (mono_no j k (λ d. omega arith)) ∙ *ℤ-zero (f j)))
    ∙ +ℤ_idl (f n *ℤ mono n k) ∙ ap (λ x. f n *ℤ x) (mono_yes n k e) ∙ mul-one (f n) ∙ ap f e
pick_case n k f h ih (no d) =
    ap (λ x. sum n (λ j. f j *ℤ mono j k) +ℤ x) (ap (λ x. f n *ℤ x) (mono_no n k d) ∙ *ℤ-zero (f n))
    ∙ +ℤ_idr (sum n (λ j. f j *ℤ mono j k)) ∙ ih (omega arith)

pub pick : (n k : ℕ) (f : ℕ → ℤ) → k < n → sum n (λ j. f j *ℤ mono j k) ≡ f k
unfolding sum
pick zero k f h = absurd (omega arith)
pick (suc n) k f h = pick_case n k f h (pick n k f) (ℕ_discrete n k)
