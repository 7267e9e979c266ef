-- What checking recomputes is what signing had: with z = y + c·s1 and t1·d + t0 = a·s1 + s2, all mod q, a·z - d (c·t1) = a·y - c·s2 + c·t0 mod q.
use mathlib.Core.Path.{◌≡◌, refl, sym, ap, ◌∙◌}
use Prim.Native.Nat.{ℕ, ◌<◌}
use lib.IntN.{ℤ, neg_ℤ, ◌+ℤ◌, ◌-ℤ◌, ◌*ℤ◌, +ℤ_assoc, neg_ℤ-+ℤ, neg_ℤ-neg_ℤ, +ℤ-neg_ℤ_cancel}
use Rattle.residues.specs.Remainder.{residue}
use Rattle.ring.specs.Ring.{prod}
use Rattle.ring.proofs.Algebra.{Folds, prod_plus, prod_scale, prod_left_comm}
use Rattle.residues.proofs.Remainders.{residue_plus, residue_neg}
use Rattle.ring.proofs.Modulo.{residue_prod}

-- u + v - ((v + r) - o) = u - r + o
rearrange : (u v r o : ℤ) → u +ℤ v -ℤ (v +ℤ r -ℤ o) ≡ u -ℤ r +ℤ o
rearrange u v r o =
    ap (λ x. u +ℤ v +ℤ x) (neg_ℤ-+ℤ (v +ℤ r) (neg_ℤ o) ∙ ap (λ x. x +ℤ neg_ℤ (neg_ℤ o)) (neg_ℤ-+ℤ v r) ∙ ap (λ x. neg_ℤ v +ℤ neg_ℤ r +ℤ x) (neg_ℤ-neg_ℤ o))
    ∙ sym (+ℤ_assoc (u +ℤ v) (neg_ℤ v +ℤ neg_ℤ r) o)
    ∙ ap (λ x. x +ℤ o) (sym (+ℤ_assoc (u +ℤ v) (neg_ℤ v) (neg_ℤ r)) ∙ ap (λ x. x +ℤ neg_ℤ r) (+ℤ-neg_ℤ_cancel u v))

module _ (n : ℕ) (w : ℕ → ℕ → ℤ) (F : Folds n w) (q : ℕ) (p : 0 < q) (d : ℤ) (a c y z s1 s2 t0 t1 : ℕ → ℤ)
    (zs : (j : ℕ) → j < n → residue q (z j) ≡ residue q (y j +ℤ prod n w c s1 j))
    (ts : (j : ℕ) → j < n → residue q (d *ℤ t1 j +ℤ t0 j) ≡ residue q (prod n w a s1 j +ℤ s2 j)) where
  pub recomputed : (k : ℕ) → k < n → residue q (prod n w a z k -ℤ d *ℤ prod n w c t1 k) ≡ residue q (prod n w a y k -ℤ prod n w c s2 k +ℤ prod n w c t0 k)
  recomputed k l =
      residue_plus q p (prod n w a z k) (prod n w a y k +ℤ prod n w c (prod n w a s1) k)
      (neg_ℤ (d *ℤ prod n w c t1 k)) (neg_ℤ (prod n w c (prod n w a s1) k +ℤ prod n w c s2 k -ℤ prod n w c t0 k))
      (residue_prod q p n w a a z (λ j. y j +ℤ prod n w c s1 j) k (λ i m. refl) zs
      ∙ ap (residue q) (prod_plus n w a y (prod n w c s1) k ∙ ap (λ x. prod n w a y k +ℤ x) (prod_left_comm n w F a c s1 k l)))
      (residue_neg q p (d *ℤ prod n w c t1 k) (prod n w c (prod n w a s1) k +ℤ prod n w c s2 k -ℤ prod n w c t0 k)
      (ap (residue q) (sym (+ℤ-neg_ℤ_cancel (d *ℤ prod n w c t1 k) (prod n w c t0 k)))
      ∙ residue_plus q p (d *ℤ prod n w c t1 k +ℤ prod n w c t0 k) (prod n w c (prod n w a s1) k +ℤ prod n w c s2 k) (neg_ℤ (prod n w c t0 k)) (neg_ℤ (prod n w c t0 k))
      (ap (residue q) (ap (λ x. x +ℤ prod n w c t0 k) (sym (prod_scale n w d c t1 k)) ∙ sym (prod_plus n w c (λ j. d *ℤ t1 j) t0 k))
      ∙ residue_prod q p n w c c (λ j. d *ℤ t1 j +ℤ t0 j) (λ j. prod n w a s1 j +ℤ s2 j) k (λ i m. refl) ts
      ∙ ap (residue q) (prod_plus n w c (prod n w a s1) s2 k))
      refl))
      ∙ ap (residue q) (rearrange (prod n w a y k) (prod n w c (prod n w a s1) k) (prod n w c s2 k) (prod n w c t0 k))
