-- An element of the memory written number by number, while other elements, or itself, are read.
use mathlib.Core.Path.{◌≡◌, sym, ap, ◌∙◌}
use mathlib.Core.List.{List}
use Prim.Native.Nat.{ℕ, ◌+◌, ◌*◌, ◌≤◌, ◌<◌}
use native.Mathlib.Omega.{arith}
use native.Mathlib.Decide.{ℕ_discrete}
use lib.ListN.{length, get_or, set, length-set}
use lib.Seq.{ext_get_or, get_or-set_same, get_or-set_other}
use Rattle.sets.specs.Set.{Set}
use Rattle.ring.specs.Inner.{Residues}
use Rattle.workspace.specs.declared.Place.{Place}
use Rattle.workspace.specs.Inner.{element, at, slot, Spans}
use Rattle.workspace.proofs.Memory.{Within, Wrote, length_element, at_element, apart, same_element}

-- t numbers of `new`, of n, stand from place `to` on, and all else is as it was
pub record Writing (n to : ℕ) (new work : List ℕ) (t : ℕ) (more : List ℕ) : Type 0 where
  pub long : length more ≡ length work
  pub upto : t ≤ n
  pub here : (i : ℕ) → i < t → get_or more (to + i) 0 ≡ get_or new i 0
  pub kept : (m : ℕ) → ((i : ℕ) → i < t → m ≡ to + i → ⊥) → get_or more m 0 ≡ get_or work m 0

module _ {n to : ℕ} {new work : List ℕ} {t : ℕ} {more : List ℕ} (W : Writing n to new work t more) where
  pub writing_more : {v : ℕ} → t < n → to + t < length work → v ≡ get_or new t 0 → Writing n to new work (t + 1) (set more (to + t) v)
  writing_more {v} b l e = record {
    long = length-set more (to + t) v ∙ W.long;
    upto = omega arith;
    here = λ i b. by i b (ℕ_discrete i t);
    kept = λ m h. get_or-set_other more (to + t) m v 0 (λ x. h t (omega arith) x) ∙ W.kept m (λ i b. h i (omega arith));
  }
    where
      by : (i : ℕ) → i < t + 1 → Dec (i ≡ t) → get_or (set more (to + t) v) (to + i) 0 ≡ get_or new i 0
      by i b (yes x) = rw x (get_or-set_same more (to + t) v 0 (omega (arith, W.long)) ∙ e)
      by i b (no x) = get_or-set_other more (to + t) (to + i) v 0 (λ y. x (omega arith)) ∙ W.here i (omega arith)

  pub writing_all : (k : ℕ) → to ≡ k * n → Within n k work → length new ≡ n → n ≤ t → Wrote n k new work more
  writing_all k g w s l = record {
    long = W.long;
    here =
        ext_get_or 0 (element n k more) new (long ∙ sym s)
        (λ i b.
        let m : i < n = omega (arith, long) in
        at_element n k i more m ∙ ap (λ (x : ℕ). get_or more (x + i) 0) (sym g) ∙ W.here i (omega arith));
    kept = λ j d. same_element n j more work W.long (λ i b. W.kept (j * n + i) (λ x y e. clash j i b x y e d));
  }
    where
      long : length (element n k more) ≡ n
      long = length_element n k more (rw W.long w)

      clash : (j i : ℕ) → i < n → (x : ℕ) → x < t → j * n + i ≡ to + x → (j ≡ k → ⊥) → ⊥
      clash j i b x y e d = apart n j k i x b (omega (arith, W.upto)) d (e ∙ ap (λ (m : ℕ). m + x) g)

-- elements j and k are n numbers each, from `from` and from `to` on, and the second is written up to number t
module _ {n to : ℕ} {new work : List ℕ} {t : ℕ} {more : List ℕ} (W : Writing n to new work t more) (j k from : ℕ) (f : from ≡ j * n) (g : to ≡ k * n)
    (l : t < n) where
  -- number t of element j is the one that came in
  pub element_unwritten : get_or more (from + t) 0 ≡ get_or work (from + t) 0
  element_unwritten = W.kept (from + t) (λ i b x. spaced i b x (ℕ_discrete j k))
    where
      spaced : (i : ℕ) → i < t → from + t ≡ to + i → Dec (j ≡ k) → ⊥
      spaced i b x (yes y) = let z : from ≡ to = f ∙ ap (λ (m : ℕ). m * n) y ∙ sym g in omega arith
      spaced i b x (no y) = apart n j k t i l (omega arith) y (sym (ap (λ (m : ℕ). m + t) f) ∙ x ∙ ap (λ (m : ℕ). m + i) g)

  pub element_unwritten_lt : {p : Set} → Residues p (element n j work) → get_or more (from + t) 0 < p.q
  element_unwritten_lt r = rw (element_unwritten, f, ← at_element n j t work l) (r.each t)

-- number t of place i is the one that came in while place k, or place i itself, is written up to it
module _ {p : Set} {i k : Place} {from from_end to to_end : ℕ} {new work : List ℕ} {t : ℕ} {more : List ℕ}
    (F : Spans p i from from_end) (K : Spans p k to to_end) (W : Writing p.n to new work t more) (l : t < p.n) where
  pub unwritten : get_or more (from + t) 0 ≡ get_or work (from + t) 0
  unwritten = element_unwritten W (at i) (at k) from F.starts K.starts l

  pub unwritten_lt : Residues p (slot p i work) → get_or more (from + t) 0 < p.q
  unwritten_lt r = element_unwritten_lt W (at i) (at k) from F.starts K.starts l r
