-- One element of the memory written at a time: it holds what was written, and the others what they held.
use mathlib.Core.Path.{◌≡◌, sym, ap, ◌∙◌}
use mathlib.Core.List.{List, ◌++◌}
use mathlib.Core.Logic.{⊎_elim}
use Prim.Native.Nat.{ℕ, ◌+◌, ◌-◌, ◌*◌, ◌/◌, ◌≤◌, ◌<◌, min}
use lib.Dec.{lit≤}
use native.Mathlib.Nat.{add-mul-div_left, div-eq_of_lt, mul_comm, mul-le-mul, le_refl}
use native.Mathlib.Omega.{arith}
use lib.ListN.{length, get_or, take, drop, length-take, length-drop, length-append, get_or-append}
use lib.Seq.{ext_get_or, get_or-take, get_or-drop, get_or-append-add, length-take-le}
use borrow.Rule.Slice.PartMut.{put_mid, Post-is}
use Rattle.residues.proofs.Order.{below_or}
use Rattle.sets.specs.Set.{Set}
use Rattle.workspace.specs.declared.Place.{Place}
use Rattle.workspace.specs.declared.Place.TheVariants.{A, S1, S2, T0, Y, W, C, Z, Rest, Ct0, Hints, T, T1, Az, W1}
use Rattle.workspace.specs.Inner.{element, at, Room}

-- there is an element k
abbrev pub Within : ℕ → ℕ → List ℕ → Type 0
Within n k work = k * n + n ≤ length work

-- which there is for each place
pub at_most : (k : Place) → at k ≤ 10
at_most A = lit≤ tt
at_most S1 = lit≤ tt
at_most S2 = lit≤ tt
at_most T0 = lit≤ tt
at_most Y = lit≤ tt
at_most W = lit≤ tt
at_most C = lit≤ tt
at_most Z = lit≤ tt
at_most Rest = lit≤ tt
at_most Ct0 = lit≤ tt
at_most Hints = lit≤ tt
at_most T = lit≤ tt
at_most T1 = lit≤ tt
at_most Az = lit≤ tt
at_most W1 = lit≤ tt

pub place_end : (p : Set) (k : Place) → at k * p.n + p.n ≤ 11 * p.n
place_end p k = let m = mul-le-mul (at_most k) (le_refl p.n) in omega arith

pub within : (p : Set) (k : Place) (work : List ℕ) → Room p work → Within p.n (at k) work
within p k work room = omega (arith, place_end p k)

-- element k was written, and no other
pub record Wrote (n k : ℕ) (new work more : List ℕ) : Type 0 where
  pub long : length more ≡ length work
  pub here : element n k more ≡ new
  pub kept : (j : ℕ) → (j ≡ k → ⊥) → element n j more ≡ element n j work

module _ (n : ℕ) where
  pub length_element : (k : ℕ) (work : List ℕ) → Within n k work → length (element n k work) ≡ n
  length_element k work l = length-take-le n (drop (k * n) work) (rw length-drop (omega arith))

  pub at_element : (k t : ℕ) (work : List ℕ) → t < n → get_or (element n k work) t 0 ≡ get_or work (k * n + t) 0
  at_element k t work l = get_or-take n (drop (k * n) work) t 0 l ∙ get_or-drop (k * n) work t 0

  -- places of different elements differ
  pub apart : (j k i t : ℕ) → i < n → t < n → (j ≡ k → ⊥) → j * n + i ≡ k * n + t → ⊥
  apart j k i t a b d e = d (sym (whole j i a) ∙ ap (λ (x : ℕ). x / n) e ∙ whole k t b)
    where
      mul_comm_sum : (j i : ℕ) → j * n + i ≡ i + n * j
      mul_comm_sum j i = let e = mul_comm j n in omega arith

      whole : (j i : ℕ) → i < n → (j * n + i) / n ≡ j
      whole j i a =
          ap (λ (x : ℕ). x / n) {x = j * n + i} {y = i + n * j} (mul_comm_sum j i) ∙
          add-mul-div_left i j {y = n} (omega arith) ∙ ap (λ (x : ℕ). x + j) (div-eq_of_lt a) ∙ omega arith

  pub same_element : (j : ℕ) (xs ys : List ℕ) → length xs ≡ length ys → ((i : ℕ) → i < n → get_or xs (j * n + i) 0 ≡ get_or ys (j * n + i) 0) → element n j xs ≡ element n j ys
  same_element j xs ys e h =
      ext_get_or 0 (element n j xs) (element n j ys)
      (length-take n (drop (j * n) xs) ∙ ap (min n) (length-drop (j * n) xs ∙ ap (λ (m : ℕ). m - j * n) e ∙ sym (length-drop (j * n) ys)) ∙ sym (length-take n (drop (j * n) ys)))
      (λ i l.
      let m : i < n = omega (arith, length-take n (drop (j * n) xs)) in
      at_element j i xs m ∙ h i m ∙ sym (at_element j i ys m))

  -- ---- an element that is put in as a whole
  module _ (k : ℕ) (new work : List ℕ) (l : length new ≡ n) (w : Within n k work) where
    abbrev more : List ℕ
    more = take (k * n) work ++ (new ++ drop (k * n + n) work)

    front : length (take (k * n) work) ≡ k * n
    front = length-take-le (k * n) work (omega arith)

    pub put_long : length (take (k * n) work ++ (new ++ drop (k * n + n) work)) ≡ length work
    put_long = length-append (take (k * n) work) (new ++ drop (k * n + n) work) ∙ omega (arith, front, length-append new (drop (k * n + n) work), l, length-drop (k * n + n) work)

    below : (i : ℕ) → i < k * n → get_or more i 0 ≡ get_or work i 0
    below i b = get_or-append (take (k * n) work) (new ++ drop (k * n + n) work) 0 i (omega (arith, front)) ∙ get_or-take (k * n) work i 0 b

    past : (i : ℕ) → get_or more (k * n + i) 0 ≡ get_or (new ++ drop (k * n + n) work) i 0
    past i =
        ap (λ (x : ℕ). get_or more (x + i) 0) (sym front) ∙ get_or-append-add (take (k * n) work) (new ++ drop (k * n + n) work) i 0

    beyond : (i : ℕ) → get_or more (k * n + n + i) 0 ≡ get_or work (k * n + n + i) 0
    beyond i =
        ap (λ (x : ℕ). get_or more x 0) {x = k * n + n + i} {y = k * n + (n + i)} (omega arith) ∙ past (n + i) ∙
        ap (λ (x : ℕ). get_or (new ++ drop (k * n + n) work) (x + i) 0) (sym l) ∙ get_or-append-add new (drop (k * n + n) work) i 0 ∙
        get_or-drop (k * n + n) work i 0

    put_other : (j i : ℕ) → i < n → (j ≡ k → ⊥) → get_or more (j * n + i) 0 ≡ get_or work (j * n + i) 0
    put_other j i b d =
        ⊎_elim (λ a. below (j * n + i) a)
        (λ a.
        ⊎_elim (λ c. absurd (apart j k i (j * n + i - k * n) b (omega arith) d (omega arith)))
        (λ c.
        ap (λ (x : ℕ). get_or more x 0) {x = j * n + i} {y = k * n + n + (j * n + i - (k * n + n))} (omega arith) ∙ beyond (j * n + i - (k * n + n)) ∙
        ap (λ (x : ℕ). get_or work x 0) {x = k * n + n + (j * n + i - (k * n + n))} {y = j * n + i} (omega arith))
        (below_or (j * n + i) (k * n + n)))
        (below_or (j * n + i) (k * n))

    put_here : element n k more ≡ new
    put_here =
        ext_get_or 0 (element n k more) new (length_element k more (rw put_long w) ∙ sym l)
        (λ i m.
        let b : i < n = omega (arith, length_element k more (rw put_long w)) in
        at_element k i more b ∙ past i ∙ get_or-append new (drop (k * n + n) work) 0 i (omega arith))

    pub wrote : Wrote n k new work (take (k * n) work ++ (new ++ drop (k * n + n) work))
    wrote = record { long = put_long; here = put_here; kept = λ j d. same_element j more work put_long (λ i b. put_other j i b d) }

    -- as a lent part of the memory comes back
    pub wrote_part : Wrote n k new work (put_mid (k * n) (k * n + n - k * n) work new)
    wrote_part = rw (Post-is (k * n) (k * n + n) work (omega arith)) wrote
