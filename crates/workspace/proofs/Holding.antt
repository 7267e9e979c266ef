-- What places hold, from step to step.
use mathlib.Core.Path.{◌≡◌, sym, subst, ◌∙◌}
use mathlib.Core.List.{List, [], ◌∷◌, map}
use Prim.Native.Nat.{ℕ, zero, suc, ◌≤◌, ◌<◌}
use native.Mathlib.Omega.{arith}
use native.Mathlib.Decide.{ℕ_discrete}
use lib.IntN.{ℤ, pos}
use lib.ListN.{get_or, length-map}
use Rattle.sets.specs.Set.{Set}
use Rattle.sets.specs.Good.{Good}
use Rattle.residues.specs.Remainder.{residue}
use Rattle.residues.proofs.Remainders.{residue_lt}
use Rattle.rounding.proofs.Congruent.{q_pos}
use Rattle.ring.specs.Inner.{Residues}
use Rattle.streams.proofs.Expanding.{own_back}
use Rattle.workspace.specs.declared.Place.{Place}
use Rattle.workspace.specs.Inner.{element, at, slot, Room, Touched, Holds, Ready, Made}

-- remainders, and what they stand for
module _ (p : Set) (G : Good p) where
  each_below : (a : List ℤ) (k : ℕ) → get_or (map (residue p.q) a) k 0 < p.q
  each_below [] k = q_pos p G
  each_below (x ∷ a) zero = residue_lt p.q (q_pos p G) x
  each_below (x ∷ a) (suc k) = each_below a k

  pub residues_of : {k : Place} {a : List ℤ} {work : List ℕ} → Holds p k a work → Residues p (slot p k work)
  residues_of {k} {a} {work} h =
      subst (Residues p) (sym h.here) (record { long = length-map a (residue p.q) ∙ h.long; each = each_below a })

  -- a place of remainders holds them
  pub own : (k : Place) (work : List ℕ) → Residues p (slot p k work) → Holds p k (map pos (slot p k work)) work
  own k work r = record {
    long = length-map (slot p k work) pos ∙ r.long;
    here = own_back p.q (q_pos p G) (slot p k work) r.each;
  }

  -- what is made of two places of remainders is one
  pub made_residues : {i j k : Place} {f : List ℤ → List ℤ → List ℤ} {work more : List ℕ} → Made p i j k f work more
      → Residues p (slot p i work) → Residues p (slot p j work) → Residues p (slot p k more)
  made_residues {i} {j} {k} {f} {work} m r s = residues_of (m.here _ _ (own i work r) (own j work s))

-- ---- what a step keeps
module _ {p : Set} {x : Place} {work more : List ℕ} (T : Touched p x work more) where
  pub slot_kept : (k : Place) → (at k ≡ at x → ⊥) → slot p k more ≡ slot p k work
  slot_kept k d = T.kept (at k) d

  pub holds_kept : {k : Place} {a : List ℤ} → (at k ≡ at x → ⊥) → Holds p k a work → Holds p k a more
  holds_kept {k} d h = record { long = h.long; here = slot_kept k d ∙ h.here }

  pub residues_kept : (k : Place) → (at k ≡ at x → ⊥) → Residues p (slot p k work) → Residues p (slot p k more)
  residues_kept k d r = subst (Residues p) (sym (slot_kept k d)) r

  pub room_kept : Room p work → Room p more
  room_kept r = rw T.long r

-- the first place alone
pub ready_first : {p : Set} {x : Place} {work : List ℕ} → at x ≡ 0 → Room p work → Residues p (slot p x work) → Ready p x work
ready_first {p} {x} {work} e room s =
    record { room = room; each = λ j l. subst (λ (i : ℕ). Residues p (element p.n i work)) {x = at x} {y = at j} (omega arith) s }

-- and one place more, where x is the next
pub ready_next : {p : Set} {k x : Place} {work : List ℕ} → at x ≡ suc (at k) → Ready p k work → Residues p (slot p x work) → Ready p x work
ready_next {p} {k} {x} {work} e r s = record { room = r.room; each = by }
  where
    by : (j : Place) → at j ≤ at x → Residues p (slot p j work)
    by j l = go (ℕ_discrete (at j) (at x))
      where
        go : Dec (at j ≡ at x) → Residues p (slot p j work)
        go (yes y) = subst (λ (i : ℕ). Residues p (element p.n i work)) (sym y) s
        go (no y) = r.each j (omega arith)
