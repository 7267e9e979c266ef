-- From a, s1 and s2 to the two parts of t.
use mathlib.Core.Path.{◌≡◌, subst}
use mathlib.Core.List.{List}
use Prim.Native.Nat.{ℕ}
use native.Mathlib.Omega.{arith}
use lib.IntN.{ℤ}
use Rattle.sets.specs.Set.{Set}
use Rattle.ring.specs.Profile.{mul}
use Rattle.ring.proofs.Signed.{mul_turned}
use Rattle.workspace.specs.declared.Place.{Place}
use Rattle.workspace.specs.declared.Place.TheVariants as place
use Rattle.workspace.specs.declared.arithmetic.Op.TheVariants as op
use Rattle.workspace.specs.Inner.{at, Holds, Made, made}
use Rattle.workspace.proofs.Holding.{holds_kept}
use Rattle.keys.specs.Inner.{Drawn, t_of, Held, Rounded}

module _ (p : Set) (work w1 w2 w3 w4 : List ℕ)
    (product : Made p place.S1 place.A place.T (mul p) work w1) (sum : Made p place.T place.S2 place.T (made p op.Sum) w1 w2)
    (high : Made p place.T place.T place.T1 (made p op.PowerHigh) w2 w3) (low : Made p place.T place.T place.T0 (made p op.PowerLow) w3 w4)
    (d : Drawn) (H : Held p d work) where
  product_held : Holds p place.T (mul p d.a d.s1) w1
  product_held = subst (λ (a : List ℤ). Holds p place.T a w1) (mul_turned p d.s1 d.a) (product.here d.s1 d.a H.s1 H.a)

  t_held : Holds p place.T (t_of p d) w2
  t_held = sum.here _ _ product_held (holds_kept product.touched (λ x. omega arith) H.s2)

  t_still : Holds p place.T (t_of p d) w3
  t_still = holds_kept high.touched (λ x. omega arith) t_held

  -- a place that no step writes
  still : (k : Place) {a : List ℤ} → (at k ≡ 4 → ⊥) → (at k ≡ 5 → ⊥) → (at k ≡ 3 → ⊥) → Holds p k a work → Holds p k a w4
  still k t t1 t0 h =
      holds_kept low.touched t0 (holds_kept high.touched t1 (holds_kept sum.touched t (holds_kept product.touched t h)))

  pub rounded : Rounded p d w4
  rounded = record {
    t1 = holds_kept low.touched (λ x. omega arith) (high.here _ _ t_held t_held);
    t0 = low.here _ _ t_still t_still;
    s1 = still place.S1 (λ x. omega arith) (λ x. omega arith) (λ x. omega arith) H.s1;
    s2 = still place.S2 (λ x. omega arith) (λ x. omega arith) (λ x. omega arith) H.s2;
  }
