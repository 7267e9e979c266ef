-- A list copied over another, one element after the other.
use mathlib.Core.Path.{◌≡◌, sym, ap, ◌∙◌}
use mathlib.Core.List.{List, [], ◌∷◌, ◌++◌, append-nil}
use Prim.Native.Nat.{ℕ, suc, ◌+◌, ◌≤◌, ◌<◌, min}
use native.Mathlib.Numerals.{add-one}
use native.Mathlib.Omega.{arith}
use mathlib.Core.Logic.{⊎_elim}
use lib.ListN.{length, get_or, take, drop, set, replicate, length-replicate, replicate-append-replicate, drop_of_length-le}
use lib.Seq.{drop-cons, take-suc, set_at, append_snoc, length-take-le, take_all, drop-length}
use Rattle.residues.proofs.Order.{below_or}
use Rattle.buffers.specs.Buffers.{overlay}

module _ {A : Type 0} (d : A) (xs ys : List A) where
  -- i elements of xs, then what is left of ys
  abbrev pub copied : ℕ → List A
  copied i = take i xs ++ drop i ys

  pub copied_more : (i : ℕ) → i < length xs → i < length ys → set (copied i) i (get_or xs i d) ≡ copied (i + 1)
  copied_more i l m =
      ap (λ (zs : List A). set (take i xs ++ zs) i (get_or xs i d)) (drop-cons ys i d m) ∙
      set_at (take i xs) (get_or ys i d) (drop (suc i) ys) (get_or xs i d) i (length-take-le i xs (omega arith)) ∙
      sym (append_snoc (take i xs) (get_or xs i d) (drop (suc i) ys)) ∙
      rest
    where
      rest : take i xs ++ (get_or xs i d ∷ []) ++ drop (suc i) ys ≡ take (i + 1) xs ++ drop (i + 1) ys
      rest = rw (add-one i, take-suc xs i d l)

  -- as far as both reach
  pub copied_all : (i : ℕ) → i ≡ min (length ys) (length xs) → copied i ≡ overlay xs ys
  copied_all i e =
      ⊎_elim
      (λ l.
      let f : i ≡ length xs = omega arith in
      ap (λ (k : ℕ). take k xs ++ drop k ys) f ∙
      ap (λ (zs : List A). zs ++ drop (length xs) ys) (take_all (length xs) xs (omega arith) ∙ sym (take_all (length ys) xs (omega arith))))
      (λ l.
      let f : i ≡ length ys = omega arith in
      ap (λ (k : ℕ). take k xs ++ drop k ys) f ∙
      ap (λ (zs : List A). take (length ys) xs ++ zs) (drop-length ys ∙ sym (drop_of_length-le ys l)))
      (below_or (length xs) (length ys))

-- lists of one length: all of it
pub overlay_all : {A : Type 0} (xs ys : List A) → length ys ≡ length xs → overlay xs ys ≡ xs
overlay_all xs ys e =
    (λ i. take (e i) xs ++ drop (length xs) ys) ∙
    (λ i. take_all (length xs) xs (omega arith) i ++ drop_of_length-le ys {i = length xs} (omega arith) i) ∙ append-nil xs
