-- A walk over elements that are tested and taken into a buffer, one after the other: what it knows at each element.
use mathlib.Core.Path.{◌≡◌, refl, sym, ap, ◌∙◌}
use mathlib.Core.Bool.{Bool, true, false}
use mathlib.Core.List.{List, [], ◌∷◌, map}
use Prim.Native.Nat.{ℕ, suc, ◌+◌, ◌≤◌, ◌<◌}
use native.Mathlib.Numerals.{add-one}
use lib.ListN.{length, get_or, drop, set, drop_of_length-le}
use lib.Seq.{drop-cons}
use Rattle.std.specs.Prelude.{Some, None, Ok}
use Rattle.outcome.specs.Outcome.{Is}
use Rattle.answers.specs.declared.Refusal.{Refusal}
use Rattle.answers.specs.Result.{done, refused, need, pick, ◌>>◌}
use Rattle.buffers.proofs.Changes.{Changed, changed_none, changed_more, changed_all}
use Rattle.layouts.specs.declared.unpack.BadCode.{BadCode}
use Rattle.layouts.specs.Layouts.{every}
use Rattle.layouts.specs.Inner.{Unpacked, bad_at, taken, scan, written_to, taken_to}

-- what is left of a scan
module _ {A : Type 0} (d : A) (ok : A → Bool) (xs : List A) (i : ℕ) where
  scan_on : i < length xs → ok (get_or xs i d) ≡ true → scan ok i (drop i xs) ≡ scan ok (i + 1) (drop (i + 1) xs)
  unfolding scan
  scan_on h e = rw (add-one, drop-cons xs i d h, e)

  scan_stop : i < length xs → ok (get_or xs i d) ≡ false → scan ok i (drop i xs) ≡ bad_at i
  unfolding scan
  scan_stop h e = rw (drop-cons xs i d h, e)

  scan_end : length xs ≤ i → scan ok i (drop i xs) ≡ Ok tt
  unfolding scan
  scan_end h = rw (drop_of_length-le xs h)

-- the scan finds what the definition's check refuses
module _ {A : Type 0} (ok : A → Bool) (refusal : ℕ → Refusal) where
  pub every_all : (i : ℕ) (xs : List A) → scan ok i xs ≡ Ok tt → every ok refusal i xs ≡ done tt
  unfolding scan every
  every_all i [] e = refl
  every_all i (x ∷ xs) e = by (ok x) e (every_all (suc i) xs)
    where
      by : (b : Bool) → pick b (scan ok (suc i) xs) (bad_at i) ≡ Ok tt → (scan ok (suc i) xs ≡ Ok tt → every ok refusal (suc i) xs ≡ done tt)
          → need b (refusal i) >> every ok refusal (suc i) xs ≡ done tt
      by true e ih = ih e
      by false e ih = cc

  pub every_bad : (i : ℕ) (xs : List A) (j : ℕ) → scan ok i xs ≡ bad_at j → every ok refusal i xs ≡ refused (refusal j)
  unfolding scan every
  every_bad i [] j e = cc
  every_bad i (x ∷ xs) j e = by (ok x) e (every_bad (suc i) xs j)
    where
      by : (b : Bool) → pick b (scan ok (suc i) xs) (bad_at i) ≡ bad_at j → (scan ok (suc i) xs ≡ bad_at j → every ok refusal (suc i) xs ≡ refused (refusal j))
          → need b (refusal i) >> every ok refusal (suc i) xs ≡ refused (refusal j)
      by true e ih = ih e
      by false e ih = let z : ◌≡◌ {A = BadCode} (record { index = i }) (record { index = j }) = cc in ap (λ (b : BadCode). refused (refusal b.index)) z

-- what an answer of `taken` says of the element
module _ {A : Type 0} (ok : A → Bool) (f : A → ℕ) (x : A) where
  of_some : (y : ℕ) → Some y ≡ taken ok f x → (ok x ≡ true) × (y ≡ f x)
  of_some y = by (ok x)
    where
      by : (b : Bool) → Some y ≡ pick b (Some (f x)) None → (b ≡ true) × (y ≡ f x)
      by true e = (refl, (cc))
      by false e = cc

  of_none : None ≡ taken ok f x → ok x ≡ false
  of_none = by (ok x)
    where
      by : (b : Bool) → None ≡ pick b (Some (f x)) None → b ≡ false
      by true e = cc
      by false e = refl

module _ {A : Type 0} (d : A) (ok : A → Bool) (f : A → ℕ) (xs : List A) (old : List ℕ) where
  -- i elements are taken, and the scan is still to find what it is to find
  pub record Walked (i : ℕ) (out : List ℕ) : Type 0 where
    pub changed : Changed d f xs old i out
    pub rest : scan ok i (drop i xs) ≡ scan ok 0 xs

  pub walked_none : length old ≡ length xs → Walked 0 old
  walked_none e = record { changed = changed_none d f xs old e; rest = refl }

  module _ (i : ℕ) (out : List ℕ) (W : Walked i out) where
    -- one that passes the test is stored
    pub walked_more : i < length xs → (x : A) (y : ℕ) → Some y ≡ taken ok f x → x ≡ get_or xs i d → Walked (i + 1) (set out i y)
    walked_more l x y t a =
        let b = of_some ok f x y t in
        record {
          changed = rw (b.1, a) (changed_more d f xs old i out W.changed l);
          rest = sym (scan_on d ok xs i l (ap ok (sym a) ∙ b.0)) ∙ W.rest;
        }

    -- one that does not ends the walk
    pub walked_stop : i < length xs → (x : A) → None ≡ taken ok f x → x ≡ get_or xs i d → Is (taken_to ok f xs old) (bad_at i) out
    walked_stop l x t a =
        let s : scan ok 0 xs ≡ bad_at i = sym W.rest ∙ scan_stop d ok xs i l (ap ok (sym a) ∙ of_none ok f x t) in
        record { answers = sym s; leaves = rw s W.changed.split }

    pub walked_all : length xs ≤ i → Is (taken_to ok f xs old) (Ok tt) out
    walked_all l =
        let s : scan ok 0 xs ≡ Ok tt = sym W.rest ∙ scan_end d ok xs i l in
        record { answers = sym s; leaves = rw s (changed_all d f xs old i out W.changed l) }

-- what an answer of such a walk says
module _ {A : Type 0} (ok : A → Bool) (f : A → ℕ) (xs : List A) (old : List ℕ) (found : Unpacked) (new : List ℕ) (I : Is (taken_to ok f xs old) found new) where
  pub all_taken : found ≡ Ok tt → (scan ok 0 xs ≡ Ok tt) × (new ≡ map f xs)
  all_taken e =
      let s : scan ok 0 xs ≡ Ok tt = sym I.answers ∙ e in
      (s, I.leaves ∙ ap (λ (u : Unpacked). written_to u (map f xs) old) s)

  pub bad_found : (i : ℕ) → found ≡ bad_at i → scan ok 0 xs ≡ bad_at i
  bad_found i e = sym I.answers ∙ e
