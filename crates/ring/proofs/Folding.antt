-- c X^e added to an element of remainders: at the one place where X^e stays or is negated, or at the two places that it folds to.
use mathlib.Core.Path.{◌≡◌, refl, sym, ap, ◌∙◌}
use mathlib.Core.List.{List}
use Prim.Native.Nat.{ℕ, ◌+◌, ◌-◌, ◌*◌, ◌/◌, ◌%◌, ◌≤◌, ◌<◌}
use native.Mathlib.Nat.{div-lt_iff_lt-mul, le-div_iff_mul-le}
use native.Mathlib.Omega.{arith}
use native.Mathlib.Decide.{ℕ_discrete}
use lib.IntN.{pos, negsuc, neg_ℤ, ◌+ℤ◌, ◌-ℤ◌, ◌*ℤ◌}
use lib.ListN.{length, get_or, set, length-set}
use lib.Seq.{get_or-set_same, get_or-set_other}
use Rattle.residues.specs.Remainder.{residue}
use Rattle.ring.specs.Ring.{mono, fold}
use Rattle.ring.specs.Inner.{Foldable, Folded}
use Rattle.ring.proofs.Sums.{mono_yes, mono_no}
use Rattle.ring.proofs.Modulo.{gains, stays, loses}
use Rattle.ring.proofs.Trinomial.{fold_low, fold_mid, fold_high}

-- coefficient k of l with c X^e added
abbrev with : ℕ → ℕ → List ℕ → ℕ → ℕ → ℕ → ℕ
with h q l e c k = residue q (pos (get_or l k 0) +ℤ pos c *ℤ fold h e k)

module _ (h q : ℕ) (pq : 0 < q) (l : List ℕ) (e c : ℕ) (B : Foldable h q l e c) where
  -- where X^e has 0, nothing changes; where it has 1 or -1, c is added or taken away
  same : (k : ℕ) → k < 2 * h → fold h e k ≡ pos 0 → get_or l k 0 ≡ with h q l e c k
  same k m z = sym (ap (λ x. residue q (pos (get_or l k 0) +ℤ pos c *ℤ x)) z ∙ stays q pq (get_or l k 0) c (B.each k))

  pub more : (k : ℕ) → fold h e k ≡ pos 1 → (get_or l k 0 + c) % q ≡ with h q l e c k
  more k z = sym (ap (λ x. residue q (pos (get_or l k 0) +ℤ pos c *ℤ x)) z ∙ gains q pq (get_or l k 0) c)

  pub less : c < q → (k : ℕ) → fold h e k ≡ negsuc 0 → (get_or l k 0 + (q - c)) % q ≡ with h q l e c k
  less u k z = sym (ap (λ x. residue q (pos (get_or l k 0) +ℤ pos c *ℤ x)) z ∙ loses q pq (get_or l k 0) c u)

  one_at : (j v k : ℕ) → j < 2 * h → v ≡ with h q l e c j → (((k ≡ j) → ⊥) → fold h e k ≡ pos 0) → k < 2 * h → Dec (k ≡ j) → get_or (set l j v) k 0 ≡ with h q l e c k
  one_at j v k b hv z m (yes p) = ap (λ (i : ℕ). get_or (set l j v) i 0) p ∙ get_or-set_same l j v 0 (omega (arith, B.long)) ∙ hv ∙ ap (with h q l e c) (sym p)
  one_at j v k b hv z m (no p) = get_or-set_other l j k v 0 p ∙ same k m (z p)

  pub one : (j v : ℕ) → j < 2 * h → v ≡ with h q l e c j → ((k : ℕ) → k < 2 * h → ((k ≡ j) → ⊥) → fold h e k ≡ pos 0) → Folded h q l e c (set l j v)
  one j v b hv z = record { long = length-set l j v ∙ B.long; each = λ k m. one_at j v k b hv (z k m) m (ℕ_discrete k j) }

  two_at : (i u j v k : ℕ) → i < 2 * h → j < 2 * h → u ≡ with h q l e c i → v ≡ with h q l e c j →
      (((k ≡ i) → ⊥) → ((k ≡ j) → ⊥) → fold h e k ≡ pos 0) → k < 2 * h → Dec (k ≡ j) → Dec (k ≡ i) → get_or (set (set l i u) j v) k 0 ≡ with h q l e c k
  two_at i u j v k a b g hv z m (yes p) r = ap (λ (x : ℕ). get_or (set (set l i u) j v) x 0) p ∙
      get_or-set_same (set l i u) j v 0 (omega (arith, B.long, length-set l i u)) ∙ hv ∙ ap (with h q l e c) (sym p)
  two_at i u j v k a b g hv z m (no p) (yes r) = get_or-set_other (set l i u) j k v 0 p ∙ ap (λ (x : ℕ). get_or (set l i u) x 0) r ∙
      get_or-set_same l i u 0 (omega (arith, B.long)) ∙ g ∙ ap (with h q l e c) (sym r)
  two_at i u j v k a b g hv z m (no p) (no r) = get_or-set_other (set l i u) j k v 0 p ∙ get_or-set_other l i k u 0 r ∙ same k m (z r p)

  pub two : (i u j v : ℕ) → i < 2 * h → j < 2 * h → u ≡ with h q l e c i → v ≡ with h q l e c j →
      ((k : ℕ) → k < 2 * h → ((k ≡ i) → ⊥) → ((k ≡ j) → ⊥) → fold h e k ≡ pos 0) → Folded h q l e c (set (set l i u) j v)
  two i u j v a b g hv z = record {
    long = length-set (set l i u) j v ∙ length-set l i u ∙ B.long;
    each = λ k m. two_at i u j v k a b g hv (z k m) m (ℕ_discrete k j) (ℕ_discrete k i);
  }

-- the ranges, by the quotient
pub div_low : (e h : ℕ) → 0 < h → e / h ≤ 1 → e < 2 * h
div_low e h p l = (div-lt_iff_lt-mul {k = h} p).0 (omega arith)

pub div_mid : (e h : ℕ) → 0 < h → e / h ≡ 2 → (2 * h ≤ e) × (e < 3 * h)
div_mid e h p l = ((le-div_iff_mul-le {k = h} p).0 (omega arith), (div-lt_iff_lt-mul {k = h} p).0 (omega arith))

pub div_high : (e h : ℕ) → 0 < h → 2 ≤ e / h → (e / h ≡ 2 → ⊥) → 3 * h ≤ e
div_high e h p l n = (le-div_iff_mul-le {k = h} p).0 (lt_of (e / h) l n)
  where
    lt_of : (x : ℕ) → 2 ≤ x → (x ≡ 2 → ⊥) → 3 ≤ x
    lt_of x l n = omega arith

-- the second range, at its two places and elsewhere
module _ (h e : ℕ) (p : 0 < h) (a : 2 * h ≤ e) (b : e < 3 * h) where
  pub mid_plus : fold h e (e - h) ≡ pos 1
  mid_plus = fold_mid h e (e - h) a b ∙ ap (λ x. x -ℤ mono (e - 2 * h) (e - h)) (mono_yes (e - h) (e - h) refl) ∙
      ap (λ x. pos 1 -ℤ x) (mono_no (e - 2 * h) (e - h) (λ d. omega arith))

  pub mid_minus : fold h e (e - h - h) ≡ negsuc 0
  mid_minus = fold_mid h e (e - h - h) a b ∙ ap (λ x. x -ℤ mono (e - 2 * h) (e - h - h)) (mono_no (e - h) (e - h - h) (λ d. omega arith)) ∙
      ap (λ x. pos 0 -ℤ x) (mono_yes (e - 2 * h) (e - h - h) (omega arith))

  pub mid_none : (k : ℕ) → (k ≡ e - h → ⊥) → (k ≡ e - h - h → ⊥) → fold h e k ≡ pos 0
  mid_none k u r = fold_mid h e k a b ∙ ap (λ x. x -ℤ mono (e - 2 * h) k) (mono_no (e - h) k (λ d. u (sym d))) ∙ ap (λ x. pos 0 -ℤ x) (mono_no (e - 2 * h) k (λ d. r (omega arith)))

  pub kept : (l : List ℕ) (v : ℕ) → get_or (set l (e - h) v) (e - h - h) 0 ≡ get_or l (e - h - h) 0
  kept l v = get_or-set_other l (e - h) (e - h - h) v 0 (λ d. omega arith)

-- ---- what `fold_in` leaves in each range
module _ (h q : ℕ) (l : List ℕ) (e c : ℕ) (B : Foldable h q l e c) where
  q_some : 0 < q
  q_some = let s = B.small in omega arith

  pub fold_stays : (next : List ℕ) → e < 2 * h → next ≡ set l e ((get_or l e 0 + c) % q) → Folded h q l e c next
  fold_stays next d f =
      rw f
      (one h q q_some l e c B e ((get_or l e 0 + c) % q) d (more h q q_some l e c B e (fold_low h e e d ∙ mono_yes e e refl))
      (λ k m p. fold_low h e k d ∙ mono_no e k (λ z. p (sym z))))

  pub fold_doubles : (first second : List ℕ) → 2 * h ≤ e → e < 3 * h → first ≡ set l (e - h) ((get_or l (e - h) 0 + c) % q)
      → second ≡ set first (e - h - h) ((get_or first (e - h - h) 0 + (q - c)) % q) → Folded h q l e c second
  fold_doubles first second a b f g =
      let u = (get_or l (e - h) 0 + c) % q in
      rw (g, f)
      (two h q q_some l e c B (e - h) u (e - h - h) ((get_or (set l (e - h) u) (e - h - h) 0 + (q - c)) % q) (omega arith) (omega arith)
      (more h q q_some l e c B (e - h) (mid_plus h e B.some a b))
      (ap (λ (z : ℕ). (z + (q - c)) % q) (kept h e B.some a b l u) ∙ less h q q_some l e c B B.small (e - h - h) (mid_minus h e B.some a b))
      (λ k m p r. mid_none h e B.some a b k p r))

  -- the second place after the first was written
  pub still : (first : List ℕ) → 2 * h ≤ e → e < 3 * h → first ≡ set l (e - h) ((get_or l (e - h) 0 + c) % q) → (length first ≡ 2 * h) × (get_or first (e - h - h) 0 < q)
  still first a b f =
      let u = (get_or l (e - h) 0 + c) % q in
      (ap length f ∙ length-set l (e - h) u ∙ B.long, rw (f, kept h e B.some a b l u) (B.each (e - h - h)))

  pub fold_negates : (next : List ℕ) → 3 * h ≤ e → next ≡ set l (e - 3 * h) ((get_or l (e - 3 * h) 0 + (q - c)) % q) → Folded h q l e c next
  fold_negates next d f =
      rw f
      (one h q q_some l e c B (e - 3 * h) ((get_or l (e - 3 * h) 0 + (q - c)) % q) (omega (arith, B.reach))
      (less h q q_some l e c B B.small (e - 3 * h) (fold_high h e (e - 3 * h) d ∙ ap neg_ℤ (mono_yes (e - 3 * h) (e - 3 * h) refl)))
      (λ k m p. fold_high h e k d ∙ ap neg_ℤ (mono_no (e - 3 * h) k (λ z. p (sym z)))))
