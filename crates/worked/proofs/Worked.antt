-- The table: 1 to 14 by computing, 15 and 16 by the law of a product of powers, at any degree.
use mathlib.Core.Path.{◌≡◌, refl, ap, ◌∙◌}
use Prim.Native.Nat.{ℕ, ◌+◌, ◌<◌}
use native.Mathlib.Omega.{arith}
use lib.IntN.{ℤ, pos}
use Rattle.residues.specs.Remainder.{residue, centred}
use Rattle.rounding.specs.Rounding.{rest, parts, decompose, make_hint, moved, use_hint, power2_round}
use Rattle.ring.specs.Ring.{mono, fold, prod, at, tab, product}
use Rattle.ring.proofs.Lists.{at_tab, tab_cong}
use Rattle.ring.proofs.Algebra.{prod_agree}
use Rattle.ring.proofs.Trinomial.{fold_mid, fold_high}
use Rattle.ring.proofs.Powers.{prod_mono}
use Rattle.worked.specs.Table.{Table}

-- X^i · X^j as lists, where f are the coefficients of X^(i+j)
powers : (i j : ℕ) (f : ℕ → ℤ) → i < 1152 → j < 1152 → ((k : ℕ) → fold 576 (i + j) k ≡ f k)
    → product 1152 8401537 (fold 576) (tab 1152 (mono i)) (tab 1152 (mono j)) ≡ tab 1152 (λ k. pos (residue 8401537 (f k)))
unfolding product
powers i j f l m h =
    tab_cong 1152 (λ k. pos (residue 8401537 (prod 1152 (fold 576) (at (tab 1152 (mono i))) (at (tab 1152 (mono j))) k)))
    (λ k. pos (residue 8401537 (f k)))
    (λ k b.
    ap (λ x. pos (residue 8401537 x))
    (prod_agree 1152 (fold 576) (at (tab 1152 (mono i))) (mono i) (at (tab 1152 (mono j))) (mono j) k
    (λ x a. at_tab (pos 0) 1152 (mono i) x a) (λ y a. at_tab (pos 0) 1152 (mono j) y a) ∙
    prod_mono 1152 (fold 576) i j k l m ∙ h k))

pub worked : Table
unfolding residue centred rest parts decompose make_hint moved use_hint power2_round
worked = record {
  case1 = refl;
  case2 = refl;
  case3 = refl;
  case4 = refl;
  case5 = refl;
  case6 = refl;
  case7 = refl;
  case8 = refl;
  case9 = refl;
  case10 = refl;
  case11 = refl;
  case12 = refl;
  case13 = refl;
  case14 = refl;
  case15 = powers 1151 1 _ (omega arith) (omega arith) (λ k. fold_mid 576 1152 k (omega arith) (omega arith));
  case16 = powers 1151 577 _ (omega arith) (omega arith) (λ k. fold_high 576 1728 k (omega arith));
}
