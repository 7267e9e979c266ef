-- The product of signed numbers by way of their remainders.
use mathlib.Core.Path.{◌≡◌, refl, sym, ap, ◌∙◌}
use mathlib.Core.List.{List, map}
use Prim.Native.Nat.{ℕ, ◌<◌}
use native.Mathlib.Omega.{arith}
use lib.IntN.{ℤ, pos}
use lib.ListN.{length, get_or, length-map, get_or-map, get_or-eq_default}
use mathlib.Core.Logic.{⊎_elim}
use Rattle.sets.specs.Set.{Set}
use Rattle.sets.specs.Good.{Trinomial}
use Rattle.residues.specs.Remainder.{residue}
use Rattle.residues.proofs.Order.{below_or}
use Rattle.residues.proofs.Remainders.{residue_lt, residue_again}
use Rattle.ring.specs.Ring.{prod, at, product}
use Rattle.ring.specs.Profile.{profile, mul}
use Rattle.ring.specs.Inner.{whole, multiplied, Residues}
use Rattle.ring.proofs.Lists.{map_tab, tab_cong, length_tab, at_tab, past_tab}
use Rattle.ring.proofs.Algebra.{prod_comm}
use Rattle.ring.proofs.Modulo.{residue_prod}
use Rattle.ring.proofs.Engine.{q_some}

-- products commute
pub mul_turned : (p : Set) (a b : List ℤ) → mul p a b ≡ mul p b a
unfolding product
mul_turned p a b = tab_cong p.n _ _ (λ k l. ap (λ (z : ℤ). pos (residue p.q z)) (prod_comm p.n (profile p).wrap (at a) (at b) k))

module _ (p : Set) (T : Trinomial p) where
  -- the remainders of a list of signed numbers
  abbrev pub reduced : List ℤ → List ℕ
  reduced a = map (residue p.q) a

  pub at_reduced : (a : List ℤ) (k : ℕ) → k < length a → get_or (reduced a) k 0 ≡ residue p.q (at a k)
  at_reduced a k l = any (reduced a) k 0 (residue p.q (pos 0)) (omega (arith, length-map a (residue p.q))) ∙ get_or-map (residue p.q) a k (pos 0)
    where
      -- within a list the default does not matter
      any : (xs : List ℕ) (k d e : ℕ) → k < length xs → get_or xs k d ≡ get_or xs k e
      any mathlib.Core.List.[] k d e l = absurd (omega arith)
      any (mathlib.Core.List.◌∷◌ x xs) Prim.Native.Nat.zero d e l = refl
      any (mathlib.Core.List.◌∷◌ x xs) (Prim.Native.Nat.suc k) d e l = any xs k d e (omega arith)

  pub residues_reduced : (a : List ℤ) → length a ≡ p.n → Residues p (reduced a)
  residues_reduced a e = record {
    long = length-map a (residue p.q) ∙ e;
    each = λ k. ⊎_elim (λ l. rw (at_reduced a k l) (residue_lt p.q (q_some p T) (at a k)))
        (λ l. rw (get_or-eq_default (reduced a) 0 {n = k} (omega (arith, length-map a (residue p.q)))) (q_some p T)) (below_or k (length a));
  }

  pub residues_multiplied : (a b : List ℕ) → Residues p (multiplied p a b)
  unfolding multiplied
  residues_multiplied a b = record {
    long = length_tab p.n _;
    each = λ k. ⊎_elim (λ l. rw (at_tab 0 p.n (λ k. residue p.q (prod p.n (profile p).wrap (whole a) (whole b) k)) k l) (residue_lt p.q (q_some p T) _))
        (λ l. rw (past_tab 0 p.n (λ k. residue p.q (prod p.n (profile p).wrap (whole a) (whole b) k)) k l) (q_some p T)) (below_or k p.n);
  }

  -- coefficient by coefficient, the product of the remainders is that of the numbers
  same_product : (a b : List ℤ) → length a ≡ p.n → length b ≡ p.n → (k : ℕ)
      → residue p.q (prod p.n (profile p).wrap (whole (reduced a)) (whole (reduced b)) k) ≡ residue p.q (prod p.n (profile p).wrap (at a) (at b) k)
  same_product a b e f k =
      residue_prod p.q (q_some p T) p.n (profile p).wrap (whole (reduced a)) (at a) (whole (reduced b)) (at b) k
      (λ i m. same a i (omega (arith, e))) (λ i m. same b i (omega (arith, f)))
    where
      same : (a : List ℤ) (i : ℕ) → i < length a → residue p.q (whole (reduced a) i) ≡ residue p.q (at a i)
      same a i l = ap (λ (x : ℕ). residue p.q (pos x)) (at_reduced a i l) ∙ residue_again p.q (q_some p T) (at a i)

  module _ (a b : List ℤ) (e : length a ≡ p.n) (f : length b ≡ p.n) where
    abbrev ours : ℕ → ℕ
    ours k = residue p.q (prod p.n (profile p).wrap (whole (reduced a)) (whole (reduced b)) k)

    abbrev theirs : ℕ → ℕ
    theirs k = residue p.q (prod p.n (profile p).wrap (at a) (at b) k)

    -- the product of remainders, read as whole numbers, is the product
    pub product_reduced : map pos (multiplied p (reduced a) (reduced b)) ≡ mul p a b
    unfolding multiplied product
    product_reduced = map_tab pos p.n ours ∙ tab_cong p.n (λ k. pos (ours k)) (λ k. pos (theirs k)) (λ k l. ap pos (same_product a b e f k))

    -- and so it holds the product's remainders
    pub product_residues : multiplied p (reduced a) (reduced b) ≡ reduced (mul p a b)
    unfolding multiplied product
    product_residues =
        tab_cong p.n ours (λ k. residue p.q (pos (theirs k)))
        (λ k l. same_product a b e f k ∙ sym (residue_again p.q (q_some p T) (prod p.n (profile p).wrap (at a) (at b) k))) ∙
        sym (map_tab (residue p.q) p.n (λ k. pos (theirs k)))
