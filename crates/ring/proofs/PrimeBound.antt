-- The ring X^n = X + 1 (request E13): the bound on a product with few by small.
use mathlib.Core.Path.{◌≡◌, sym, ap, ◌∙◌}
use Prim.Native.Nat.{ℕ, ◌+◌, ◌-◌, ◌*◌, ◌≤◌, ◌<◌}
use native.Mathlib.Omega.{arith}
use native.Mathlib.Decide.{dec_lt, dec_le, ℕ_discrete}
use borrow.Author.Tests.{lt-ltb, le-ltb}
use lib.IntN.{ℤ, pos, nat_abs, ◌+ℤ◌, ◌*ℤ◌, +ℤ_idl, +ℤ_idr}
use Rattle.residues.proofs.Ints.{one_mul}
use Rattle.ring.specs.Ring.{sum, mono, prod, fold_prime}
use Rattle.ring.specs.Inner.{total}
use Rattle.ring.proofs.Sums.{mono_yes, mono_no}
use Rattle.ring.proofs.Bound.{two, by_rows}

-- at most two of s meet each c_i
module _ (n : ℕ) (p : 1 < n) where
  at_zero : (e : ℕ) → fold_prime n e 0 ≡ pos 1 *ℤ mono e 0 +ℤ pos 1 *ℤ mono e n
  unfolding fold_prime
  at_zero e = go (dec_lt e n)
    where
      go : Dec (e < n) → fold_prime n e 0 ≡ pos 1 *ℤ mono e 0 +ℤ pos 1 *ℤ mono e n
      go (yes l) =
          rw (lt-ltb e n l) (sym (+ℤ_idr (mono e 0)) ∙ sym (ap (λ x. pos 1 *ℤ mono e 0 +ℤ pos 1 *ℤ x) (mono_no e n (λ d. omega arith)) ∙ ap (λ x. x +ℤ pos 0) (one_mul (mono e 0))))
      go (no l) =
          rw (le-ltb e n (omega arith))
          (ap (λ x. x +ℤ mono (e - n) 0) (mono_no (e - n + 1) 0 (λ d. omega arith)) ∙ +ℤ_idl (mono (e - n) 0) ∙ shift (ℕ_discrete e n)
          ∙ sym (ap (λ x. pos 1 *ℤ x +ℤ pos 1 *ℤ mono e n) (mono_no e 0 (λ d. omega arith)) ∙ +ℤ_idl (pos 1 *ℤ mono e n) ∙ one_mul (mono e n)))
        where
          shift : Dec (e ≡ n) → mono (e - n) 0 ≡ mono e n
          shift (yes q) = mono_yes (e - n) 0 (omega arith) ∙ sym (mono_yes e n q)
          shift (no q) = mono_no (e - n) 0 (λ d. q (omega arith)) ∙ sym (mono_no e n q)

  -- at a place above 0
  at_low : (e k : ℕ) → e < n → fold_prime n e k ≡ mono e k
  unfolding fold_prime
  at_low e k l = rw (lt-ltb e n l)

  at_high : (e k : ℕ) → n ≤ e → 0 < k → k < n → fold_prime n e k ≡ mono e (k + n - 1) +ℤ mono e (k + n)
  unfolding fold_prime
  at_high e k l h m = rw (le-ltb e n l) (ap (λ x. x +ℤ mono (e - n) k) (one (ℕ_discrete e (k + n - 1))) ∙ ap (λ x. mono e (k + n - 1) +ℤ x) (other (ℕ_discrete e (k + n))))
    where
      one : Dec (e ≡ k + n - 1) → mono (e - n + 1) k ≡ mono e (k + n - 1)
      one (yes q) = mono_yes (e - n + 1) k (omega arith) ∙ sym (mono_yes e (k + n - 1) q)
      one (no q) = mono_no (e - n + 1) k (λ d. q (omega arith)) ∙ sym (mono_no e (k + n - 1) q)

      other : Dec (e ≡ k + n) → mono (e - n) k ≡ mono e (k + n)
      other (yes q) = mono_yes (e - n) k (omega arith) ∙ sym (mono_yes e (k + n) q)
      other (no q) = mono_no (e - n) k (λ d. q (omega arith)) ∙ sym (mono_no e (k + n) q)

  -- seen from row i: e = i + j with j < n
  up_to : (e k i : ℕ) → 0 < k → k < n → i ≤ k → i ≤ e → e < i + n → Dec (e < n) → fold_prime n e k ≡ pos 1 *ℤ mono e k +ℤ pos 1 *ℤ mono e (k + n - 1)
  up_to e k i h m r a b (yes l) =
      at_low e k l ∙ sym (+ℤ_idr (mono e k)) ∙ sym (ap (λ x. pos 1 *ℤ mono e k +ℤ pos 1 *ℤ x) (mono_no e (k + n - 1) (λ d. omega arith)) ∙
      ap (λ x. x +ℤ pos 0) (one_mul (mono e k)))
  up_to e k i h m r a b (no l) =
      at_high e k (omega arith) h m ∙ ap (λ x. mono e (k + n - 1) +ℤ x) (mono_no e (k + n) (λ d. omega arith)) ∙ +ℤ_idr (mono e (k + n - 1))
      ∙ sym (ap (λ x. pos 1 *ℤ x +ℤ pos 1 *ℤ mono e (k + n - 1)) (mono_no e k (λ d. omega arith)) ∙ +ℤ_idl (pos 1 *ℤ mono e (k + n - 1)) ∙ one_mul (mono e (k + n - 1)))

  past : (e k i : ℕ) → 0 < k → k < n → k < i → i ≤ e → Dec (e < n) → fold_prime n e k ≡ pos 1 *ℤ mono e (k + n - 1) +ℤ pos 1 *ℤ mono e (k + n)
  past e k i h m r a (yes l) =
      at_low e k l ∙ mono_no e k (λ d. omega arith)
      ∙ sym (ap (λ x. pos 1 *ℤ x +ℤ pos 1 *ℤ mono e (k + n)) (mono_no e (k + n - 1) (λ d. omega arith)) ∙ ap (λ x. pos 0 +ℤ pos 1 *ℤ x) (mono_no e (k + n) (λ d. omega arith)))
  past e k i h m r a (no l) =
      at_high e k (omega arith) h m
      ∙ sym (ap (λ x. x +ℤ pos 1 *ℤ mono e (k + n)) (one_mul (mono e (k + n - 1))) ∙ ap (λ x. mono e (k + n - 1) +ℤ x) (one_mul (mono e (k + n))))

  rowp : (s : ℕ → ℤ) (η : ℕ) → ((j : ℕ) → j < n → nat_abs (s j) ≤ η) → (i k : ℕ) → i < n → k < n → Dec (k ≡ 0) → Dec (i ≤ k) →
      nat_abs (sum n (λ j. s j *ℤ fold_prime n (i + j) k)) ≤ 2 * η
  rowp s η small i k l m (yes z) d =
      two n s η small (λ j. fold_prime n (i + j) k) i 0 n (pos 1) (pos 1) (omega arith) (omega arith) (λ j h. ap (fold_prime n (i + j)) z ∙ at_zero (i + j))
  rowp s η small i k l m (no z) (yes d) =
      two n s η small (λ j. fold_prime n (i + j) k) i k (k + n - 1) (pos 1) (pos 1) (omega arith) (omega arith)
      (λ j h. up_to (i + j) k i (omega arith) m d (omega arith) (omega arith) (dec_lt (i + j) n))
  rowp s η small i k l m (no z) (no d) =
      two n s η small (λ j. fold_prime n (i + j) k) i (k + n - 1) (k + n) (pos 1) (pos 1) (omega arith) (omega arith)
      (λ j h. past (i + j) k i (omega arith) m (omega arith) (omega arith) (dec_lt (i + j) n))

  pub boundedp : (s : ℕ → ℤ) (η : ℕ) → ((j : ℕ) → j < n → nat_abs (s j) ≤ η)
      → (c : ℕ → ℤ) (τ k : ℕ) → total n (λ i. nat_abs (c i)) ≤ τ → k < n → nat_abs (prod n (fold_prime n) c s k) ≤ τ * (2 * η)
  boundedp s η small c τ k t l = by_rows n (fold_prime n) c s (2 * η) τ k (λ i b. rowp s η small i k b l (ℕ_discrete k 0) (dec_le i k)) t
