-- Hints that were read are 0 or 1, and the memory holds them as they are.
use mathlib.Core.Path.{◌≡◌, refl, sym, ap, ap₂, subst, ◌∙◌}
use mathlib.Core.List.{List, [], ◌∷◌, map}
use Prim.Native.Nat.{ℕ, zero, suc, ◌≤◌, ◌<◌}
use native.Mathlib.Omega.{arith}
use lib.Dec.{leb}
use lib.IntN.{ℤ, pos, nat_abs}
use lib.ListN.{get_or}
use Rattle.sets.specs.Set.{Set}
use Rattle.sets.specs.Good.{Good}
use Rattle.answers.specs.declared.Refusal.{Refusal}
use Rattle.answers.specs.declared.Refusal.TheVariants.{Hint}
use Rattle.answers.specs.Result.{done}
use Rattle.answers.proofs.Results.{bind_inv, need_inv}
use Rattle.residues.specs.Remainder.{residue}
use Rattle.residues.proofs.Remainders.{residue_small}
use Rattle.rounding.proofs.Congruent.{q_pos}
use Rattle.digits.specs.Digits.{codes}
use Rattle.ring.specs.Ring.{at}
use Rattle.layouts.specs.Layouts.{hint_layout, unpack}
use Rattle.layouts.specs.Hints.{ones, any_hint, read_hints}
use Rattle.layouts.proofs.Elements.{was_read, codes_below}
use Rattle.layouts.proofs.Room.{hint_readable}
use Rattle.workspace.specs.Inner.{Bits}

-- bits as whole numbers
bits_of : (vs : List ℕ) → ((k : ℕ) → get_or vs k 0 ≤ 1) → Bits (map pos vs)
bits_of [] b t = (0, refl, omega arith)
bits_of (v ∷ vs) b zero = (v, refl, b 0)
bits_of (v ∷ vs) b (suc t) = bits_of vs (λ k. b (suc k)) t

module _ (p : Set) (G : Good p) where
  bit_room : {b : ℕ} → b ≤ 1 → b < p.q
  bit_room l = omega (arith, (hint_readable p G).most)

  -- a bit is its own remainder
  pub bit_residue : (z : ℤ) (b : ℕ) → z ≡ pos b → b ≤ 1 → residue p.q z ≡ b
  bit_residue z b e l = ap (residue p.q) e ∙ residue_small p.q (q_pos p G) b (bit_room l)

  pub bits_below : (h : List ℤ) → Bits h → (t : ℕ) → get_or (map (residue p.q) h) t 0 ≤ 1
  bits_below [] B t = omega arith
  bits_below (x ∷ h) B zero = omega (arith, bit_residue x (B 0).0 (B 0).1 (B 0).2, (B 0).2)
  bits_below (x ∷ h) B (suc t) = bits_below h (λ k. B (suc k)) t

  pub bits_plain : (h : List ℤ) → Bits h → (t : ℕ) → residue p.q (at h t) ≡ nat_abs (at h t)
  bits_plain h B t = bit_residue (at h t) (B t).0 (B t).1 (B t).2 ∙ sym (ap nat_abs (B t).1)

  bits_again : (h : List ℤ) → Bits h → map pos (map (residue p.q) h) ≡ h
  bits_again [] B = refl
  bits_again (x ∷ h) B =
      ap₂ ◌∷◌ (ap pos (bit_residue x (B 0).0 (B 0).1 (B 0).2) ∙ sym (B 0).1) (bits_again h (λ k. B (suc k)))

  pub ones_again : (h : List ℤ) (xs : List ℕ) → Bits h → xs ≡ map (residue p.q) h → ones (map pos xs) ≡ ones h
  ones_again h xs B e = ap (λ (ys : List ℕ). ones (map pos ys)) e ∙ ap ones (bits_again h B)

module _ (p : Set) (bs : List ℕ) (h : List ℤ) where
  pub bits_unpacked : (f : ℕ → Refusal) → unpack hint_layout f p.n bs ≡ done h → Bits h
  bits_unpacked f e =
      subst Bits (sym (was_read hint_layout p.n f bs h e).values)
      (bits_of (codes 1 p.n bs) (λ k. omega (arith, codes_below 1 p.n bs k)))

  pub bits_read : read_hints p bs ≡ done h → Bits h
  unfolding read_hints
  bits_read e =
      let x = bind_inv (unpack hint_layout any_hint p.n bs) _ h e in
      bits_unpacked any_hint (x.1 ∙ (need_inv (leb (ones x.0) p.omega) Hint (done x.0) h x.2).1)
