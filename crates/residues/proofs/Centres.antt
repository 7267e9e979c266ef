-- Laws of the centred remainder: it is congruent, it is its own, a small number is its own.
use mathlib.Core.Path.{◌≡◌, sym, ap, ◌∙◌}
use mathlib.Core.Logic.{⊎_elim}
use Prim.Native.Nat.{ℕ, suc, ◌-◌, ◌*◌, ◌/◌, ◌%◌, ◌≤◌, ◌<◌, min}
use native.Mathlib.Nat.{mod-eq_of_lt, mod_self}
use native.Mathlib.Omega.{arith}
use native.Mathlib.Decide.{ℕ_discrete}
use borrow.Author.Tests.{le-leb, lt-leb}
use lib.IntN.{ℤ, pos, negsuc, nat_abs, neg_ℤ, sub_ℕ}
use Rattle.residues.specs.Remainder.{residue, signed, centred, magnitude}
use Rattle.residues.proofs.Order.{below_or}
use Rattle.residues.proofs.Differences.{sub_lt, abs_sub}
use Rattle.residues.proofs.Remainders.{residue_lt, residue_again, residue_neg, residue_negated}

pub signed_low : (q x : ℕ) → x ≤ q / 2 → signed q x ≡ pos x
signed_low q x l = rw (le-leb x (q / 2) l)

pub signed_high : (q x : ℕ) → q / 2 < x → signed q x ≡ sub_ℕ x q
signed_high q x l = rw (lt-leb x (q / 2) l)

module _ (q : ℕ) (hq : 0 < q) where
  -- the representative is congruent
  pub residue_signed : (x : ℕ) → x < q → residue q (signed q x) ≡ x
  unfolding residue
  residue_signed x l =
      ⊎_elim
      (λ h. ap (residue q) (signed_high q x h ∙ sub_lt l) ∙ last (mod-eq_of_lt {n = q - suc x} {m = q} (omega arith)))
      (λ h. ap (residue q) (signed_low q x h) ∙ mod-eq_of_lt l)
      (below_or (q / 2) x)
    where
      last : (q - suc x) % q ≡ q - suc x → (q - 1) - (q - suc x) % q ≡ x
      last e = omega arith

  pub residue_centred : (z : ℤ) → residue q (centred q z) ≡ residue q z
  unfolding centred
  residue_centred z = residue_signed (residue q z) (residue_lt q hq z)

  pub centred_again : (z : ℤ) → centred q (centred q z) ≡ centred q z
  unfolding centred
  centred_again z = ap (signed q) (residue_centred z)

  -- it goes by the remainder alone
  pub centred_same : (x y : ℤ) → residue q x ≡ residue q y → centred q x ≡ centred q y
  unfolding centred
  centred_same x y e = ap (signed q) e

  -- a small number is its own
  pub centred_small : (z : ℤ) → 2 * nat_abs z < q → centred q z ≡ z
  unfolding centred residue
  centred_small (pos a) h = ap (signed q) (mod-eq_of_lt {n = a} {m = q} (omega arith)) ∙ signed_low q a (half a h)
    where
      half : (a : ℕ) → 2 * a < q → a ≤ q / 2
      half a h = omega arith
  centred_small (negsuc a) h =
      ap (λ (x : ℕ). signed q ((q - 1) - x)) (mod-eq_of_lt {n = a} {m = q} (omega arith)) ∙
      signed_high q ((q - 1) - a) (half a h) ∙ sub_lt {a = (q - 1) - a} {b = q} (omega arith) ∙ ap negsuc (omega arith)
    where
      half : (a : ℕ) → 2 * suc a < q → q / 2 < (q - 1) - a
      half a h = omega arith

  signed_min : (x : ℕ) → x < q → nat_abs (signed q x) ≡ min x (q - x)
  signed_min x l =
      ⊎_elim (λ h. omega (arith, ap nat_abs (signed_high q x h) ∙ abs_sub x q)) (λ h. omega (arith, ap nat_abs (signed_low q x h))) (below_or (q / 2) x)

  -- a number and its negative have one magnitude
  pub magnitude_neg : (z : ℤ) → magnitude q (neg_ℤ z) ≡ magnitude q z
  unfolding centred
  magnitude_neg z =
      let x = residue q z in
      let l = residue_lt q hq z in
      ap (λ (y : ℕ). nat_abs (signed q y)) (residue_neg q hq z (pos x) (sym (residue_again q hq z)) ∙ residue_negated q hq x (omega arith)) ∙
      mirrored x l (ℕ_discrete x 0) ∙ sym (signed_min x l)
    where
      mirrored : (x : ℕ) → x < q → Dec (x ≡ 0) → nat_abs (signed q ((q - x) % q)) ≡ min x (q - x)
      mirrored x l (yes e) =
          let z : (q - x) % q ≡ 0 = ap (λ (y : ℕ). y % q) {x = q - x} {y = q} (omega arith) ∙ mod_self q in
          ap (λ (y : ℕ). nat_abs (signed q y)) z ∙ signed_min 0 hq ∙ omega arith
      mirrored x l (no e) =
          let m : (q - x) % q ≡ q - x = mod-eq_of_lt (omega arith) in
          ap (λ (y : ℕ). nat_abs (signed q y)) m ∙ signed_min (q - x) (omega arith) ∙ omega arith
