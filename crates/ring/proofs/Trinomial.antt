-- The three ranges of the trinomial ring are the multiplication by X, and the bound on a product with few, small coefficients.
use mathlib.Core.Path.{◌≡◌, refl, sym, ap, ◌∙◌}
use Prim.Native.Nat.{ℕ, zero, suc, ◌+◌, ◌*◌, ◌-◌, ◌≤◌, ◌<◌}
use native.Mathlib.Omega.{arith}
use native.Mathlib.Decide.{dec_lt, ℕ_discrete}
use lib.Dec.{eqb-suc-suc}
use lib.IntN.{pos, neg_ℤ, ◌+ℤ◌, ◌-ℤ◌, ◌*ℤ◌, +ℤ_idl, +ℤ_idr, zero-*ℤ, +ℤ_invl}
use borrow.Author.Tests.{lt-ltb, le-ltb}
use Rattle.ring.specs.Ring.{mono, fold}
use Rattle.residues.proofs.Ints.{one_mul}
use Rattle.ring.proofs.Sums.{mono_yes, mono_no}
use Rattle.ring.proofs.Algebra.{step, Folds}

pub fold_low : (h e k : ℕ) → e < 2 * h → fold h e k ≡ mono e k
unfolding fold
fold_low h e k l = rw (lt-ltb e (2 * h) l)

pub fold_mid : (h e k : ℕ) → 2 * h ≤ e → e < 3 * h → fold h e k ≡ mono (e - h) k -ℤ mono (e - 2 * h) k
unfolding fold
fold_mid h e k l m = rw (le-ltb e (2 * h) l, lt-ltb e (3 * h) m)

pub fold_high : (h e k : ℕ) → 3 * h ≤ e → fold h e k ≡ neg_ℤ (mono (e - 3 * h) k)
unfolding fold
fold_high h e k l = rw (le-ltb e (2 * h) (omega arith), le-ltb e (3 * h) l)

mono_suc : (e k : ℕ) → mono (suc e) (suc k) ≡ mono e k
unfolding mono
mono_suc e k = rw (eqb-suc-suc e k)

mono_eq : (e e' k : ℕ) → e ≡ e' → mono e k ≡ mono e' k
mono_eq e e' k p = ap (λ x. mono x k) p

-- one up in both, where the first is a difference
pub mono_up : (e d k : ℕ) → e ≡ suc d → mono e (suc k) ≡ mono d k
mono_up e d k p = mono_eq e (suc d) (suc k) p ∙ mono_suc d k

module _ (h : ℕ) (p : 0 < h) where
  case_low : (e k : ℕ) → suc e < 2 * h → k < 2 * h → fold h (suc e) k ≡ step (2 * h) (fold h (2 * h)) (fold h e) k
  case_low e zero l m =
      fold_low h (suc e) zero l ∙ mono_no (suc e) zero (λ d. omega arith)
      ∙ sym (ap (λ x. x *ℤ fold h (2 * h) zero) (fold_low h e (2 * h - 1) (omega arith) ∙ mono_no e (2 * h - 1) (λ d. omega arith)) ∙ zero-*ℤ (fold h (2 * h) zero))
  case_low e (suc k) l m =
      fold_low h (suc e) (suc k) l ∙ mono_suc e k ∙ sym (fold_low h e k (omega arith)) ∙ sym (+ℤ_idr (fold h e k))
      ∙ sym (ap (λ x. fold h e k +ℤ x) (ap (λ x. x *ℤ fold h (2 * h) (suc k)) (fold_low h e (2 * h - 1) (omega arith) ∙
      mono_no e (2 * h - 1) (λ d. omega arith)) ∙ zero-*ℤ (fold h (2 * h) (suc k))))

  case_first : (e k : ℕ) → suc e ≡ 2 * h → k < 2 * h → fold h (suc e) k ≡ step (2 * h) (fold h (2 * h)) (fold h e) k
  case_first e zero l m =
      ap (λ x. fold h x zero) l ∙ sym (one_mul (fold h (2 * h) zero))
      ∙ sym (ap (λ x. x *ℤ fold h (2 * h) zero) (fold_low h e (2 * h - 1) (omega arith) ∙ mono_yes e (2 * h - 1) (omega arith)))
  case_first e (suc k) l m =
      ap (λ x. fold h x (suc k)) l ∙ sym (one_mul (fold h (2 * h) (suc k))) ∙ sym (+ℤ_idl (pos 1 *ℤ fold h (2 * h) (suc k)))
      ∙ sym (ap (λ x. x +ℤ pos 1 *ℤ fold h (2 * h) (suc k)) (fold_low h e k (omega arith) ∙ mono_no e k (λ d. omega arith)))
      ∙ sym (ap (λ x. fold h e k +ℤ x *ℤ fold h (2 * h) (suc k)) (fold_low h e (2 * h - 1) (omega arith) ∙ mono_yes e (2 * h - 1) (omega arith)))

  mid_top : (e : ℕ) → 2 * h ≤ e → suc e < 3 * h → fold h e (2 * h - 1) ≡ pos 0
  mid_top e l m =
      fold_mid h e (2 * h - 1) l (omega arith)
      ∙ ap (λ x. x -ℤ mono (e - 2 * h) (2 * h - 1)) (mono_no (e - h) (2 * h - 1) (λ d. omega arith))
      ∙ ap (λ x. pos 0 -ℤ x) (mono_no (e - 2 * h) (2 * h - 1) (λ d. omega arith))

  case_mid : (e k : ℕ) → 2 * h ≤ e → suc e < 3 * h → k < 2 * h → fold h (suc e) k ≡ step (2 * h) (fold h (2 * h)) (fold h e) k
  case_mid e zero l u m =
      fold_mid h (suc e) zero (omega arith) u
      ∙ ap (λ x. x -ℤ mono (suc e - 2 * h) zero) (mono_no (suc e - h) zero (λ d. omega arith))
      ∙ ap (λ x. pos 0 -ℤ x) (mono_no (suc e - 2 * h) zero (λ d. omega arith))
      ∙ sym (ap (λ x. x *ℤ fold h (2 * h) zero) (mid_top e l u) ∙ zero-*ℤ (fold h (2 * h) zero))
  case_mid e (suc k) l u m =
      fold_mid h (suc e) (suc k) (omega arith) u
      ∙ ap (λ x. x -ℤ mono (suc e - 2 * h) (suc k)) (mono_up (suc e - h) (e - h) k (omega arith))
      ∙ ap (λ x. mono (e - h) k -ℤ x) (mono_up (suc e - 2 * h) (e - 2 * h) k (omega arith))
      ∙ sym (fold_mid h e k l (omega arith)) ∙ sym (+ℤ_idr (fold h e k))
      ∙ sym (ap (λ x. fold h e k +ℤ x) (ap (λ x. x *ℤ fold h (2 * h) (suc k)) (mid_top e l u) ∙ zero-*ℤ (fold h (2 * h) (suc k))))

  -- X^(2h) = X^h - 1
  top : (k : ℕ) → fold h (2 * h) k ≡ mono h k -ℤ mono 0 k
  top k =
      fold_mid h (2 * h) k (omega arith) (omega arith)
      ∙ ap (λ x. x -ℤ mono (2 * h - 2 * h) k) (mono_eq (2 * h - h) h k (omega arith))
      ∙ ap (λ x. mono h k -ℤ x) (mono_eq (2 * h - 2 * h) 0 k (omega arith))

  last_top : (e : ℕ) → suc e ≡ 3 * h → fold h e (2 * h - 1) ≡ pos 1
  last_top e l =
      fold_mid h e (2 * h - 1) (omega arith) (omega arith)
      ∙ ap (λ x. x -ℤ mono (e - 2 * h) (2 * h - 1)) (mono_yes (e - h) (2 * h - 1) (omega arith))
      ∙ ap (λ x. pos 1 -ℤ x) (mono_no (e - 2 * h) (2 * h - 1) (λ d. omega arith))

  case_last : (e k : ℕ) → suc e ≡ 3 * h → k < 2 * h → fold h (suc e) k ≡ step (2 * h) (fold h (2 * h)) (fold h e) k
  case_last e zero l m =
      fold_high h (suc e) zero (omega arith) ∙ ap neg_ℤ (mono_yes (suc e - 3 * h) zero (omega arith))
      ∙ sym (ap (λ x. x *ℤ fold h (2 * h) zero) (last_top e l) ∙ one_mul (fold h (2 * h) zero) ∙ top zero
      ∙ ap (λ x. x -ℤ mono 0 zero) (mono_no h zero (λ d. omega arith)) ∙ ap (λ x. pos 0 -ℤ x) (mono_yes 0 zero refl))
  case_last e (suc k) l m =
      fold_high h (suc e) (suc k) (omega arith) ∙ ap neg_ℤ (mono_no (suc e - 3 * h) (suc k) (λ d. omega arith))
      ∙ sym (+ℤ_invl (mono h (suc k)))
      ∙ sym (ap (λ x. x +ℤ fold h (2 * h) (suc k))
      (fold_mid h e k (omega arith) (omega arith)
      ∙ ap (λ x. x -ℤ mono (e - 2 * h) k) (mono_no (e - h) k (λ d. omega arith))
      ∙ +ℤ_idl (neg_ℤ (mono (e - 2 * h) k))
      ∙ ap neg_ℤ (sym (mono_up h (e - 2 * h) k (omega arith))))
      ∙ ap (λ x. neg_ℤ (mono h (suc k)) +ℤ x) (top (suc k) ∙ ap (λ x. mono h (suc k) -ℤ x) (mono_no 0 (suc k) (λ d. omega arith)) ∙ +ℤ_idr (mono h (suc k))))
      ∙ sym (ap (λ x. fold h e k +ℤ x) (ap (λ x. x *ℤ fold h (2 * h) (suc k)) (last_top e l) ∙ one_mul (fold h (2 * h) (suc k))))

  high_top : (e : ℕ) → 3 * h ≤ e → suc e < 4 * h → fold h e (2 * h - 1) ≡ pos 0
  high_top e l u = fold_high h e (2 * h - 1) l ∙ ap neg_ℤ (mono_no (e - 3 * h) (2 * h - 1) (λ d. omega arith))

  case_high : (e k : ℕ) → 3 * h ≤ e → suc e < 4 * h → k < 2 * h → fold h (suc e) k ≡ step (2 * h) (fold h (2 * h)) (fold h e) k
  case_high e zero l u m =
      fold_high h (suc e) zero (omega arith) ∙ ap neg_ℤ (mono_no (suc e - 3 * h) zero (λ d. omega arith))
      ∙ sym (ap (λ x. x *ℤ fold h (2 * h) zero) (high_top e l u) ∙ zero-*ℤ (fold h (2 * h) zero))
  case_high e (suc k) l u m =
      fold_high h (suc e) (suc k) (omega arith) ∙ ap neg_ℤ (mono_up (suc e - 3 * h) (e - 3 * h) k (omega arith))
      ∙ sym (fold_high h e k l) ∙ sym (+ℤ_idr (fold h e k))
      ∙ sym (ap (λ x. fold h e k +ℤ x) (ap (λ x. x *ℤ fold h (2 * h) (suc k)) (high_top e l u) ∙ zero-*ℤ (fold h (2 * h) (suc k))))

  fold_next : (e k : ℕ) → suc e < 2 * h + 2 * h - 1 → k < 2 * h → Dec (suc e < 2 * h) → Dec (suc e ≡ 2 * h) → Dec (suc e < 3 * h) → Dec (suc e ≡ 3 * h)
      → fold h (suc e) k ≡ step (2 * h) (fold h (2 * h)) (fold h e) k
  fold_next e k u m (yes a) b c d = case_low e k a m
  fold_next e k u m (no a) (yes b) c d = case_first e k b m
  fold_next e k u m (no a) (no b) (yes c) d = case_mid e k (omega arith) c m
  fold_next e k u m (no a) (no b) (no c) (yes d) = case_last e k d m
  fold_next e k u m (no a) (no b) (no c) (no d) = case_high e k (omega arith) (omega arith) m

  pub folds : Folds (2 * h) (fold h)
  folds = record {
    some = omega arith;
    stays = λ e k l m. fold_low h e k l;
    next = λ e k l m. fold_next e k l m (dec_lt (suc e) (2 * h)) (ℕ_discrete (suc e) (2 * h)) (dec_lt (suc e) (3 * h)) (ℕ_discrete (suc e) (3 * h));
  }
