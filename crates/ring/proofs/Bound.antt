-- The bound on a product: where the magnitudes of c's coefficients add up to at most τ and each of s is at most η, each of c·s is at most 2τη.
use mathlib.Core.Path.{◌≡◌, sym, ap, ◌∙◌}
use Prim.Native.Nat.{ℕ, zero, suc, ◌+◌, ◌*◌, ◌-◌, ◌≤◌, ◌<◌}
use native.Mathlib.Nat.{mul-le-mul, mul-le-mul_right, add-mul as add_mulℕ, zero-mul, le_trans, le_of_eq, add-le-add}
use native.Mathlib.Omega.{arith}
use native.Mathlib.Decide.{dec_lt, dec_le, ℕ_discrete}
use lib.IntN.{ℤ, pos, negsuc, neg_ℤ, nat_abs, ◌+ℤ◌, ◌-ℤ◌, ◌*ℤ◌, +ℤ_idl, +ℤ_idr, *ℤ-zero}
use Rattle.ring.specs.Ring.{sum, mono, fold, prod}
use Rattle.ring.specs.Inner.{total}
use Rattle.residues.proofs.Ints.{abs_add, abs_mul, one_mul, mul_assoc, mul-add, mul_left_comm, neg_mul}
use Rattle.ring.proofs.Sums.{mono_yes, mono_no, pick, zeros, cong, plus, scale}
use Rattle.ring.proofs.Trinomial.{fold_low, fold_mid, fold_high}

-- a sum of products by numbers of magnitude at most m
pub abs_sum : (n : ℕ) (c f : ℕ → ℤ) (m : ℕ) → ((i : ℕ) → i < n → nat_abs (f i) ≤ m) → nat_abs (sum n (λ i. c i *ℤ f i)) ≤ total n (λ i. nat_abs (c i)) * m
unfolding sum total
abs_sum zero c f m h = omega (arith, zero-mul m)
abs_sum (suc n) c f m h =
    le_trans (abs_add (sum n (λ i. c i *ℤ f i)) (c n *ℤ f n))
    (le_trans (add-le-add (abs_sum n c f m (λ i l. h i (omega arith)))
    (le_trans (le_of_eq (abs_mul (c n) (f n))) (mul-le-mul {n₁ = nat_abs (c n)} {n₂ = nat_abs (c n)} (omega arith) (h n (omega arith)))))
    (le_of_eq (sym (add_mulℕ (total n (λ i. nat_abs (c i))) (nat_abs (c n)) m))))

-- ---- at most one place j meets a given exponent
mono_shift : (e d k : ℕ) → d ≤ e → mono (e - d) k ≡ mono e (k + d)
mono_shift e d k l = go (ℕ_discrete e (k + d))
  where
    go : Dec (e ≡ k + d) → mono (e - d) k ≡ mono e (k + d)
    go (yes p) = mono_yes (e - d) k (omega arith) ∙ sym (mono_yes e (k + d) p)
    go (no p) = mono_no (e - d) k (λ q. p (omega arith)) ∙ sym (mono_no e (k + d) p)

mono_left : (i j m : ℕ) → i ≤ m → mono (i + j) m ≡ mono j (m - i)
mono_left i j m l = go (ℕ_discrete j (m - i))
  where
    go : Dec (j ≡ m - i) → mono (i + j) m ≡ mono j (m - i)
    go (yes p) = mono_yes (i + j) m (omega arith) ∙ sym (mono_yes j (m - i) p)
    go (no p) = mono_no (i + j) m (λ q. p (omega arith)) ∙ sym (mono_no j (m - i) p)

module _ (n : ℕ) (s : ℕ → ℤ) (η : ℕ) (small : (j : ℕ) → j < n → nat_abs (s j) ≤ η) where
  spot : (i m : ℕ) → Dec (i ≤ m) → Dec (m - i < n) → nat_abs (sum n (λ j. s j *ℤ mono (i + j) m)) ≤ η
  spot i m (yes l) (yes r) =
      le_trans (le_of_eq (ap nat_abs (cong n (λ j. s j *ℤ mono (i + j) m) (λ j. s j *ℤ mono j (m - i))
      (λ j b. ap (λ x. s j *ℤ x) (mono_left i j m l)) ∙ pick n (m - i) s r))) (small (m - i) r)
  spot i m (yes l) (no r) =
      le_trans (le_of_eq (ap nat_abs (zeros n (λ j. s j *ℤ mono (i + j) m) (λ j b. ap (λ x. s j *ℤ x) (mono_no (i + j) m (λ d. r (omega arith))) ∙ *ℤ-zero (s j))))) (omega arith)
  spot i m (no l) r =
      le_trans (le_of_eq (ap nat_abs (zeros n (λ j. s j *ℤ mono (i + j) m) (λ j b. ap (λ x. s j *ℤ x) (mono_no (i + j) m (λ d. l (omega arith))) ∙ *ℤ-zero (s j))))) (omega arith)

  -- a fold that is two terms, each with the sign u or v, gives at most two of s
  pub two : (f : ℕ → ℤ) (i x y : ℕ) (u v : ℤ) → nat_abs u ≤ 1 → nat_abs v ≤ 1 → ((j : ℕ) → j < n → f j ≡ u *ℤ mono (i + j) x +ℤ v *ℤ mono (i + j) y) →
      nat_abs (sum n (λ j. s j *ℤ f j)) ≤ 2 * η
  two f i x y u v lu lv h =
      le_trans (le_of_eq (ap nat_abs
      (cong n (λ j. s j *ℤ f j) (λ j. u *ℤ (s j *ℤ mono (i + j) x) +ℤ v *ℤ (s j *ℤ mono (i + j) y))
      (λ j l. ap (λ z. s j *ℤ z) (h j l) ∙ mul-add (s j) (u *ℤ mono (i + j) x) (v *ℤ mono (i + j) y)
      ∙ ap (λ z. z +ℤ s j *ℤ (v *ℤ mono (i + j) y)) (mul_left_comm (s j) u (mono (i + j) x))
      ∙ ap (λ z. u *ℤ (s j *ℤ mono (i + j) x) +ℤ z) (mul_left_comm (s j) v (mono (i + j) y)))
      ∙ plus n (λ j. u *ℤ (s j *ℤ mono (i + j) x)) (λ j. v *ℤ (s j *ℤ mono (i + j) y))
      ∙ ap (λ z. z +ℤ sum n (λ j. v *ℤ (s j *ℤ mono (i + j) y))) (scale n u (λ j. s j *ℤ mono (i + j) x))
      ∙ ap (λ z. u *ℤ sum n (λ j. s j *ℤ mono (i + j) x) +ℤ z) (scale n v (λ j. s j *ℤ mono (i + j) y)))))
      (le_trans (abs_add (u *ℤ sum n (λ j. s j *ℤ mono (i + j) x)) (v *ℤ sum n (λ j. s j *ℤ mono (i + j) y)))
      (le_trans (add-le-add
      (le_trans (le_of_eq (abs_mul u (sum n (λ j. s j *ℤ mono (i + j) x)))) (mul-le-mul lu (spot i x (dec_le i x) (dec_lt (x - i) n))))
      (le_trans (le_of_eq (abs_mul v (sum n (λ j. s j *ℤ mono (i + j) y)))) (mul-le-mul lv (spot i y (dec_le i y) (dec_lt (y - i) n)))))
      (omega arith)))

-- where no c_i meets more than m of s at place k, c of total magnitude τ gives at most τ·m there
pub by_rows : (n : ℕ) (w : ℕ → ℕ → ℤ) (c s : ℕ → ℤ) (m τ k : ℕ) → ((i : ℕ) → i < n → nat_abs (sum n (λ j. s j *ℤ w (i + j) k)) ≤ m)
    → total n (λ i. nat_abs (c i)) ≤ τ → nat_abs (prod n w c s k) ≤ τ * m
unfolding prod
by_rows n w c s m τ k rows few =
    le_trans (le_of_eq (ap nat_abs (cong n (λ i. sum n (λ j. c i *ℤ s j *ℤ w (i + j) k)) (λ i. c i *ℤ sum n (λ j. s j *ℤ w (i + j) k))
    (λ i l.
    cong n (λ j. c i *ℤ s j *ℤ w (i + j) k) (λ j. c i *ℤ (s j *ℤ w (i + j) k)) (λ j b. mul_assoc (c i) (s j) (w (i + j) k)) ∙
    scale n (c i) (λ j. s j *ℤ w (i + j) k)))))
    (le_trans (abs_sum n c (λ i. sum n (λ j. s j *ℤ w (i + j) k)) m rows) (mul-le-mul_right m few))

-- ---- the three ranges, seen from the place k
module _ (h e k : ℕ) (b : k < 2 * h) (u : e < 4 * h) where
  upper : h ≤ k → Dec (e < 2 * h) → Dec (e < 3 * h) → fold h e k ≡ pos 1 *ℤ mono e k +ℤ pos 1 *ℤ mono e (k + h)
  upper l (yes r) t =
      fold_low h e k r ∙ sym (+ℤ_idr (mono e k)) ∙ sym (ap (λ x. pos 1 *ℤ mono e k +ℤ pos 1 *ℤ x) (mono_no e (k + h) (λ d. omega arith)) ∙
      ap (λ x. x +ℤ pos 0) (one_mul (mono e k)))
  upper l (no r) (yes t) =
      fold_mid h e k (omega arith) t ∙ ap (λ x. mono (e - h) k -ℤ x) (mono_no (e - 2 * h) k (λ d. omega arith)) ∙ +ℤ_idr (mono (e - h) k)
      ∙ mono_shift e h k (omega arith) ∙ sym (ap (λ x. pos 1 *ℤ x +ℤ pos 1 *ℤ mono e (k + h)) (mono_no e k (λ d. omega arith)) ∙
      +ℤ_idl (pos 1 *ℤ mono e (k + h)) ∙ one_mul (mono e (k + h)))
  upper l (no r) (no t) =
      fold_high h e k (omega arith) ∙ ap neg_ℤ (mono_no (e - 3 * h) k (λ d. omega arith))
      ∙ sym (ap (λ x. pos 1 *ℤ x +ℤ pos 1 *ℤ mono e (k + h)) (mono_no e k (λ d. omega arith)) ∙ ap (λ x. pos 0 +ℤ pos 1 *ℤ x) (mono_no e (k + h) (λ d. omega arith)))

  -- below h: one term stays, one is taken away from the second range, one from the third
  lower : k < h → Dec (e < 2 * h) → Dec (e < 3 * h) → fold h e k ≡ mono e k +ℤ (negsuc 0 *ℤ mono e (k + 2 * h) +ℤ negsuc 0 *ℤ mono e (k + 3 * h))
  lower l (yes r) t =
      fold_low h e k r ∙ sym (+ℤ_idr (mono e k))
      ∙ sym (ap (λ x. mono e k +ℤ (negsuc 0 *ℤ x +ℤ negsuc 0 *ℤ mono e (k + 3 * h))) (mono_no e (k + 2 * h) (λ d. omega arith)) ∙
      ap (λ x. mono e k +ℤ (pos 0 +ℤ negsuc 0 *ℤ x)) (mono_no e (k + 3 * h) (λ d. omega arith)))
  lower l (no r) (yes t) =
      fold_mid h e k (omega arith) t ∙ ap (λ x. x -ℤ mono (e - 2 * h) k) (mono_no (e - h) k (λ d. omega arith))
      ∙ ap (λ x. pos 0 -ℤ x) (mono_shift e (2 * h) k (omega arith))
      ∙ sym (ap (λ x. x +ℤ (negsuc 0 *ℤ mono e (k + 2 * h) +ℤ negsuc 0 *ℤ mono e (k + 3 * h))) (mono_no e k (λ d. omega arith))
      ∙ ap (λ x. pos 0 +ℤ (negsuc 0 *ℤ mono e (k + 2 * h) +ℤ negsuc 0 *ℤ x)) (mono_no e (k + 3 * h) (λ d. omega arith))
      ∙ ap (λ x. pos 0 +ℤ x) (+ℤ_idr (negsuc 0 *ℤ mono e (k + 2 * h)) ∙ neg_mul (pos 1) (mono e (k + 2 * h)) ∙ ap neg_ℤ (one_mul (mono e (k + 2 * h)))))
  lower l (no r) (no t) =
      fold_high h e k (omega arith) ∙ ap neg_ℤ (mono_shift e (3 * h) k (omega arith))
      ∙ sym (ap (λ x. x +ℤ (negsuc 0 *ℤ mono e (k + 2 * h) +ℤ negsuc 0 *ℤ mono e (k + 3 * h))) (mono_no e k (λ d. omega arith))
      ∙ ap (λ x. pos 0 +ℤ (negsuc 0 *ℤ x +ℤ negsuc 0 *ℤ mono e (k + 3 * h))) (mono_no e (k + 2 * h) (λ d. omega arith))
      ∙ +ℤ_idl (pos 0 +ℤ negsuc 0 *ℤ mono e (k + 3 * h)) ∙ +ℤ_idl (negsuc 0 *ℤ mono e (k + 3 * h)) ∙ neg_mul (pos 1) (mono e (k + 3 * h)) ∙ ap neg_ℤ (one_mul (mono e (k + 3 * h))))

module _ (h : ℕ) (s : ℕ → ℤ) (η : ℕ) (small : (j : ℕ) → j < 2 * h → nat_abs (s j) ≤ η) where
  -- for a fixed k at most two of s meet each c_i
  row_bound : (i k : ℕ) → i < 2 * h → k < 2 * h → Dec (h ≤ k) → Dec (i ≤ k) → nat_abs (sum (2 * h) (λ j. s j *ℤ fold h (i + j) k)) ≤ 2 * η
  row_bound i k l b (yes r) t =
      two (2 * h) s η small (λ j. fold h (i + j) k) i k (k + h) (pos 1) (pos 1) (omega arith) (omega arith)
      (λ j m. upper h (i + j) k b (omega arith) r (dec_lt (i + j) (2 * h)) (dec_lt (i + j) (3 * h)))
  row_bound i k l b (no r) (yes t) =
      two (2 * h) s η small (λ j. fold h (i + j) k) i k (k + 3 * h) (pos 1) (negsuc 0) (omega arith) (omega arith)
      (λ j m. lower h (i + j) k b (omega arith) (omega arith) (dec_lt (i + j) (2 * h)) (dec_lt (i + j) (3 * h))
      ∙ ap (λ x. mono (i + j) k +ℤ (negsuc 0 *ℤ x +ℤ negsuc 0 *ℤ mono (i + j) (k + 3 * h))) (mono_no (i + j) (k + 2 * h) (λ d. omega arith))
      ∙ ap (λ x. mono (i + j) k +ℤ x) (+ℤ_idl (negsuc 0 *ℤ mono (i + j) (k + 3 * h)))
      ∙ ap (λ x. x +ℤ negsuc 0 *ℤ mono (i + j) (k + 3 * h)) (sym (one_mul (mono (i + j) k))))
  row_bound i k l b (no r) (no t) =
      two (2 * h) s η small (λ j. fold h (i + j) k) i (k + 2 * h) (k + 3 * h) (negsuc 0) (negsuc 0) (omega arith) (omega arith)
      (λ j m. lower h (i + j) k b (omega arith) (omega arith) (dec_lt (i + j) (2 * h)) (dec_lt (i + j) (3 * h))
      ∙ ap (λ x. x +ℤ (negsuc 0 *ℤ mono (i + j) (k + 2 * h) +ℤ negsuc 0 *ℤ mono (i + j) (k + 3 * h))) (mono_no (i + j) k (λ d. omega arith))
      ∙ +ℤ_idl (negsuc 0 *ℤ mono (i + j) (k + 2 * h) +ℤ negsuc 0 *ℤ mono (i + j) (k + 3 * h)))

  pub prod_bound : (c : ℕ → ℤ) (τ k : ℕ) → total (2 * h) (λ i. nat_abs (c i)) ≤ τ → k < 2 * h → nat_abs (prod (2 * h) (fold h) c s k) ≤ τ * (2 * η)
  prod_bound c τ k w b = by_rows (2 * h) (fold h) c s (2 * η) τ k (λ i l. row_bound i k l b (dec_le h k) (dec_le i k)) w
