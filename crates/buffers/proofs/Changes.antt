-- Every element of a list changed by f, written over another list one after the other.
use mathlib.Core.Path.{◌≡◌, sym, ap, ◌∙◌}
use mathlib.Core.List.{List, ◌++◌, map}
use Prim.Native.Nat.{ℕ, ◌+◌, ◌≤◌, ◌<◌}
use native.Mathlib.Omega.{arith}
use lib.ListN.{length, get_or, take, drop, set, length-map, get_or-map}
use Rattle.buffers.proofs.Copies.{copied_more, copied_all, overlay_all}

module _ {A B : Type 0} (d : A) (f : A → B) (xs : List A) (ys : List B) where
  -- i elements are changed, and the rest of ys is still there
  pub record Changed (i : ℕ) (zs : List B) : Type 0 where
    pub within : i ≤ length xs
    pub same : length ys ≡ length xs
    pub long : length zs ≡ length xs
    pub split : zs ≡ take i (map f xs) ++ drop i ys

  pub changed_none : length ys ≡ length xs → Changed 0 ys
  changed_none e = record { within = omega arith; same = e; long = e; split = λ i. ys }

  pub changed_more : (i : ℕ) (zs : List B) → Changed i zs → i < length xs → Changed (i + 1) (set zs i (f (get_or xs i d)))
  changed_more i zs C l = record {
    within = omega arith;
    same = C.same;
    long = lib.ListN.length-set zs i (f (get_or xs i d)) ∙ C.long;
    split =
        ap (λ (vs : List B). set vs i (f (get_or xs i d))) C.split ∙
        ap (λ (y : B). set (take i (map f xs) ++ drop i ys) i y) (sym (get_or-map f xs i d)) ∙
        copied_more (f d) (map f xs) ys i (omega (arith, m)) (omega (arith, C.same));
  }
    where
      m : length (map f xs) ≡ length xs
      m = length-map xs f

  pub changed_all : (i : ℕ) (zs : List B) → Changed i zs → length xs ≤ i → zs ≡ map f xs
  changed_all i zs C l =
      C.split ∙
      copied_all (f d) (map f xs) ys i (omega (arith, C.within, C.same, length-map xs f)) ∙
      overlay_all (map f xs) ys (C.same ∙ sym (length-map xs f))
