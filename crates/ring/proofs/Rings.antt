-- What the laws ask of a set's ring, and that each ring of SPEC 2.4 has it.
use mathlib.Core.Path.{◌≡◌, refl, sym, subst}
use Prim.Native.Nat.{ℕ, ◌*◌, ◌/◌, ◌^◌, ◌-◌, ◌≤◌, ◌<◌}
use native.Mathlib.Nat.{le_trans}
use native.Mathlib.Omega.{arith}
use lib.IntN.{ℤ, nat_abs}
use Rattle.sets.specs.Set.{Set, set1}
use Rattle.sets.specs.declared.numbers.Ring.{Ring}
use Rattle.sets.specs.declared.numbers.Ring.TheVariants.{Trinomial, Prime}
use Rattle.sets.specs.Good.{Good}
use Rattle.sets.proofs.Five.{good_set1, set2, set3, set4, set5, good_set2, good_set3, good_set4, good_set5}
use Rattle.ring.specs.Ring.{fold, prod}
use Rattle.ring.specs.Profile.{profile, profile_of}
use Rattle.ring.specs.Inner.{total}
use Rattle.ring.proofs.Algebra.{Folds}
use Rattle.ring.proofs.Trinomial.{folds}
use Rattle.ring.proofs.Bound.{prod_bound}
use Rattle.ring.proofs.Prime.{foldsp}
use Rattle.ring.proofs.PrimeBound.{boundedp}

-- a product with c, whose coefficients' magnitudes add up to at most τ, of s with magnitudes at most η
abbrev pub Bounded : ℕ → (ℕ → ℕ → ℤ) → Type 0
Bounded n w =
    (s : ℕ → ℤ) (η : ℕ) → ((j : ℕ) → j < n → nat_abs (s j) ≤ η)
    → (c : ℕ → ℤ) (τ k : ℕ) → total n (λ i. nat_abs (c i)) ≤ τ → k < n → nat_abs (prod n w c s k) ≤ τ * (2 * η)

-- exponents fold step by step, and a product of few by small is small
pub record Fits (p : Set) : Type 0 where
  pub good : Good p
  pub ring : Folds p.n (profile p).wrap
  pub bounded : Bounded p.n (profile p).wrap

module _ (p : Set) (G : Good p) where
  -- what a way of folding has is the profile's where the record names it
  of_ring : (r : Ring) → p.ring ≡ r → Folds p.n (profile_of r p.n).wrap → Bounded p.n (profile_of r p.n).wrap → Fits p
  of_ring r e f b = record {
    good = G;
    ring = subst (λ (x : Ring). Folds p.n (profile_of x p.n).wrap) (sym e) f;
    bounded = subst (λ (x : Ring). Bounded p.n (profile_of x p.n).wrap) (sym e) b;
  }

  -- every trinomial ring of even degree
  pub fits_trinomial : p.ring ≡ Trinomial → p.n ≡ 2 * (p.n / 2) → Fits p
  fits_trinomial k e =
      of_ring Trinomial k
      (subst (λ (n : ℕ). Folds n (fold (p.n / 2))) (sym e) (folds (p.n / 2) (omega (arith, G.n_some))))
      (subst (λ (n : ℕ). Bounded n (fold (p.n / 2))) (sym e) (λ s η h c τ k t l. prod_bound (p.n / 2) s η h c τ k t l))

  -- every ring X^n = X + 1
  pub fits_prime : p.ring ≡ Prime → Fits p
  fits_prime k = of_ring Prime k (foldsp p.n (omega (arith, G.n_some))) (boundedp p.n (omega (arith, G.n_some)))

pub set1_fits : Fits set1
set1_fits = fits_trinomial set1 good_set1 refl refl

pub set2_fits : Fits set2
set2_fits = fits_trinomial set2 good_set2 refl refl

pub set3_fits : Fits set3
set3_fits = fits_trinomial set3 good_set3 refl refl

pub set4_fits : Fits set4
set4_fits = fits_trinomial set4 good_set4 refl refl

pub set5_fits : Fits set5
set5_fits = fits_prime set5 good_set5 refl

module _ (p : Set) (F : Fits p) (c s : ℕ → ℤ) (few : total p.n (λ i. nat_abs (c i)) ≤ p.tau) where
  -- |c·s| ≤ 2·τ·η ≤ β
  pub beta_bound : ((j : ℕ) → j < p.n → nat_abs (s j) ≤ p.eta) → (k : ℕ) → k < p.n → nat_abs (prod p.n (profile p).wrap c s k) ≤ p.beta
  beta_bound small k l = le_trans (F.bounded s p.eta small c p.tau k few l) F.good.beta

  -- |c·t0| < γ2 (SPEC 12.2)
  pub ct0_bound : ((j : ℕ) → j < p.n → nat_abs (s j) ≤ 2 ^ (p.d - 1)) → (k : ℕ) → k < p.n
      → nat_abs (prod p.n (profile p).wrap c s k) ≤ p.tau * (2 * 2 ^ (p.d - 1))
  ct0_bound small k l = F.bounded s (2 ^ (p.d - 1)) small c p.tau k few l

-- set 1: β = 50, and each coefficient of c·t0 is at most 2·25·2048 = 102400 (SPEC 12.2)
module _ (c s : ℕ → ℤ) (few : total 1152 (λ i. nat_abs (c i)) ≤ 25) (k : ℕ) (l : k < 1152) where
  pub beta_50 : ((j : ℕ) → j < 1152 → nat_abs (s j) ≤ 1) → nat_abs (prod 1152 (fold 576) c s k) ≤ 50
  beta_50 small = beta_bound set1 set1_fits c s few small k l

  pub ct0_102400 : ((j : ℕ) → j < 1152 → nat_abs (s j) ≤ 2048) → nat_abs (prod 1152 (fold 576) c s k) ≤ 102400
  ct0_102400 small = ct0_bound set1 set1_fits c s few small k l
