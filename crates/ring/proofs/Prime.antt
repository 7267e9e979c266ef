-- The ring X^n = X + 1 (SPEC 2.4) over the same algebra: only its fold and the law `Folds` are its own.
use mathlib.Core.Path.{◌≡◌, refl, sym, ap, ◌∙◌}
use Prim.Native.Nat.{ℕ, zero, suc, ◌+◌, ◌-◌, ◌≤◌, ◌<◌}
use native.Mathlib.Omega.{arith}
use native.Mathlib.Decide.{dec_lt, ℕ_discrete}
use borrow.Author.Tests.{lt-ltb, le-ltb}
use lib.IntN.{pos, ◌+ℤ◌, ◌*ℤ◌, +ℤ_idl, +ℤ_idr, zero-*ℤ}
use Rattle.ring.specs.Ring.{mono, fold_prime}
use Rattle.residues.proofs.Ints.{one_mul}
use Rattle.ring.proofs.Sums.{mono_yes, mono_no}
use Rattle.ring.proofs.Trinomial.{mono_up}
use Rattle.ring.proofs.Algebra.{step, Folds}

module _ (n : ℕ) (p : 1 < n) where
  low : (e k : ℕ) → e < n → fold_prime n e k ≡ mono e k
  unfolding fold_prime
  low e k l = rw (lt-ltb e n l)

  high : (e k : ℕ) → n ≤ e → fold_prime n e k ≡ mono (e - n + 1) k +ℤ mono (e - n) k
  unfolding fold_prime
  high e k l = rw (le-ltb e n l)

  high_top : (e : ℕ) → n ≤ e → suc e < n + n - 1 → fold_prime n e (n - 1) ≡ pos 0
  high_top e l u =
      high e (n - 1) l ∙ ap (λ x. x +ℤ mono (e - n) (n - 1)) (mono_no (e - n + 1) (n - 1) (λ d. omega arith)) ∙ ap (λ x. pos 0 +ℤ x) (mono_no (e - n) (n - 1) (λ d. omega arith))

  below : (e k : ℕ) → suc e < n → k < n → fold_prime n (suc e) k ≡ step n (fold_prime n n) (fold_prime n e) k
  below e zero l m =
      low (suc e) zero l ∙ mono_no (suc e) zero (λ d. omega arith)
      ∙ sym (ap (λ x. x *ℤ fold_prime n n zero) (low e (n - 1) (omega arith) ∙ mono_no e (n - 1) (λ d. omega arith)) ∙ zero-*ℤ (fold_prime n n zero))
  below e (suc k) l m =
      low (suc e) (suc k) l ∙ mono_up (suc e) e k refl ∙ sym (low e k (omega arith)) ∙ sym (+ℤ_idr (fold_prime n e k))
      ∙ sym (ap (λ x. fold_prime n e k +ℤ x) (ap (λ x. x *ℤ fold_prime n n (suc k)) (low e (n - 1) (omega arith) ∙
      mono_no e (n - 1) (λ d. omega arith)) ∙ zero-*ℤ (fold_prime n n (suc k))))

  first : (e k : ℕ) → suc e ≡ n → k < n → fold_prime n (suc e) k ≡ step n (fold_prime n n) (fold_prime n e) k
  first e zero l m =
      ap (λ x. fold_prime n x zero) l ∙ sym (one_mul (fold_prime n n zero)) ∙ sym (ap (λ x. x *ℤ fold_prime n n zero) (low e (n - 1) (omega arith) ∙ mono_yes e (n - 1) (omega arith)))
  first e (suc k) l m =
      ap (λ x. fold_prime n x (suc k)) l ∙ sym (one_mul (fold_prime n n (suc k))) ∙ sym (+ℤ_idl (pos 1 *ℤ fold_prime n n (suc k)))
      ∙ sym (ap (λ x. x +ℤ pos 1 *ℤ fold_prime n n (suc k)) (low e k (omega arith) ∙ mono_no e k (λ d. omega arith)))
      ∙ sym (ap (λ x. fold_prime n e k +ℤ x *ℤ fold_prime n n (suc k)) (low e (n - 1) (omega arith) ∙ mono_yes e (n - 1) (omega arith)))

  above : (e k : ℕ) → n ≤ e → suc e < n + n - 1 → k < n → fold_prime n (suc e) k ≡ step n (fold_prime n n) (fold_prime n e) k
  above e zero l u m =
      high (suc e) zero (omega arith) ∙ ap (λ x. x +ℤ mono (suc e - n) zero) (mono_no (suc e - n + 1) zero (λ d. omega arith)) ∙
      ap (λ x. pos 0 +ℤ x) (mono_no (suc e - n) zero (λ d. omega arith))
      ∙ sym (ap (λ x. x *ℤ fold_prime n n zero) (high_top e l u) ∙ zero-*ℤ (fold_prime n n zero))
  above e (suc k) l u m =
      high (suc e) (suc k) (omega arith) ∙ ap (λ x. x +ℤ mono (suc e - n) (suc k)) (mono_up (suc e - n + 1) (e - n + 1) k (omega arith)) ∙
      ap (λ x. mono (e - n + 1) k +ℤ x) (mono_up (suc e - n) (e - n) k (omega arith))
      ∙ sym (high e k l) ∙ sym (+ℤ_idr (fold_prime n e k))
      ∙ sym (ap (λ x. fold_prime n e k +ℤ x) (ap (λ x. x *ℤ fold_prime n n (suc k)) (high_top e l u) ∙ zero-*ℤ (fold_prime n n (suc k))))

  next : (e k : ℕ) → suc e < n + n - 1 → k < n → Dec (suc e < n) → Dec (suc e ≡ n) → fold_prime n (suc e) k ≡ step n (fold_prime n n) (fold_prime n e) k
  next e k u m (yes a) b = below e k a m
  next e k u m (no a) (yes b) = first e k b m
  next e k u m (no a) (no b) = above e k (omega arith) u m

  pub foldsp : Folds n (fold_prime n)
  foldsp = record {
    some = omega arith;
    stays = λ e k l m. low e k l;
    next = λ e k l m. next e k l m (dec_lt (suc e) n) (ℕ_discrete (suc e) n);
  }
