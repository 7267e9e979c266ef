-- The first draw that is not past its place, as `find` gives it of pairs of bytes.
use mathlib.Core.Path.{◌≡◌, refl, sym, ap, ◌∙◌}
use mathlib.Core.Bool.{Bool, true, false}
use mathlib.Core.List.{List, [], ◌∷◌, ◌++◌, map, append-nil}
use mathlib.Core.Logic.{⊎_elim}
use Prim.Native.Nat.{ℕ, zero, suc, min, ◌-◌, ◌/◌, ◌%◌, ◌^◌, ◌≤◌, ◌<◌}
use native.Mathlib.Omega.{arith}
use borrow.Author.Tests.{leb-true, leb-false}
use lib.Dec.{leb}
use lib.ListN.{length, get_or, take, drop, length-drop, take-append-drop, drop_of_length-le}
use lib.Seq.{length-take-le, take_all}
use denote.Param.Members.{Mut}
use denote.Ref.{Bor}
use Rattle.std.proofs.lemmas.List.{nil_from_length}
use Rattle.std.specs.Prelude.{Option, Some, None}
use Rattle.std.specs.Fn.{Called, CalledAt}
use Rattle.std.specs.List.{FoldsTo}
use Rattle.std.specs.Simd.{first_chunks}
use Rattle.std.specs.Iterator.{Yields, FindsItem}
use Rattle.std.specs.Iterator.Adapters.{map_steps}
use Rattle.std.specs.Slice.Iter.{iter_rest, iter_steps}
use Rattle.std.specs.declared.slice.Iter.{Iter}
use Rattle.std.specs.declared.iter.Map.{Map}
use Rattle.digits.specs.Digits.{value}
use Rattle.digits.proofs.Numbers.{Below, below_all}
use Rattle.digits.proofs.Windows.{below_drop}
use Rattle.residues.proofs.Order.{below_or}
use Rattle.sampling.specs.Samplers.{groups}
use Rattle.sampling.proofs.Groups.{below_front, below_back, groups_next, groups_none}
use Rattle.sampling.proofs.Placing.{Past}

-- the draws of the pairs that are left
abbrev pub drawn_pairs : ℕ → List (List ℕ) → List ℕ
drawn_pairs power xs = map (λ x. value 256 x % power) xs

-- the pairs of a stream, and its groups of two
pairs_of : (bits k : ℕ) (bs : List ℕ) → Below 256 bs → length bs / 2 ≡ k → drawn_pairs (2 ^ bits) (first_chunks 2 k bs) ≡ map (λ v. v % 2 ^ bits) (groups 2 bs)
pairs_of bits zero bs h e = sym (ap (map (λ v. v % 2 ^ bits)) (groups_none 2 bs (omega arith)))
pairs_of bits (suc k) bs h e =
    let l : length (take 2 bs) ≡ 2 = length-take-le 2 bs (omega arith) in
    let whole : take 2 bs ++ drop 2 bs ≡ bs = take-append-drop 2 bs in
    let b : Below 256 (take 2 bs ++ drop 2 bs) = rw whole h in
    ap (λ (xs : List ℕ). value 256 (take 2 bs) % 2 ^ bits ∷ xs)
    (pairs_of bits k (drop 2 bs) (below_back 256 (take 2 bs) (drop 2 bs) b) (omega (arith, length-drop 2 bs))) ∙
    ap (map (λ v. v % 2 ^ bits))
    (sym (groups_next (take 2 bs) (below_front 256 (take 2 bs) (drop 2 bs) b) (drop 2 bs) 2 (omega arith) l) ∙ ap (groups 2) whole)

-- what stands behind the first eight bytes, where there are so many
behind : (bs : List ℕ) (m : ℕ) → m ≡ min (length bs) 8 → take (length bs - m) (drop m bs) ≡ drop 8 bs
behind bs m e =
    take_all (length bs - m) (drop m bs) (omega (arith, length-drop m bs)) ∙
    ⊎_elim
    (λ l. drop_of_length-le bs {i = m} (omega arith) ∙ sym (drop_of_length-le bs {i = 8} (omega arith)))
    (λ l. ap (λ (k : ℕ). drop k bs) {x = m} {y = 8} (omega arith)) (below_or (length bs) 8)

pub pairs_behind : (bits : ℕ) (bs : List ℕ) (m : ℕ) (xs : List (List ℕ)) → ((k : ℕ) → get_or bs k 0 < 256) → m ≡ min (length bs) 8
    → xs ≡ first_chunks 2 (length (take (length bs - m) (drop m bs)) / 2) (take (length bs - m) (drop m bs))
    → drawn_pairs (2 ^ bits) xs ≡ map (λ v. v % 2 ^ bits) (groups 2 (drop 8 bs))
pairs_behind bits bs m xs small e f =
    rw (f, behind bs m e) (pairs_of bits (length (drop 8 bs) / 2) (drop 8 bs) (below_drop 8 bs (below_all 256 bs small)) refl)

module _ {F P : Type 0} (g : Mut F (Bor (List ℕ) × Unit {0}) ℕ) (h : Mut P (Bor ℕ × Unit {0}) Bool) (f : F) (p : P) (held power place : ℕ) (is : held ≡ power)
    (draws : (x : Bor (List ℕ)) (y : ℕ) (f' : F) → Called g f (x, tt) y f' → (y ≡ value 256 x.now % held) × (f' ≡ f))
    (tests : (y : ℕ) (b : Bool) (p' : P) → CalledAt h p y b p' → (b ≡ leb y place) × (p' ≡ p)) where
  abbrev left : Map (Iter (List ℕ)) F → List ℕ
  left s = drawn_pairs power (iter_rest s.iter)

  one : (s t : Map (Iter (List ℕ)) F) (j : ℕ) → s.f ≡ f → map_steps iter_steps g s (Some j) t → (t.f ≡ f) × (left s ≡ j ∷ left t)
  one s t j e m =
      let d = draws m.0 j t.f (rw e at m.2) in
      (d.1, ap (drawn_pairs power) m.1 ∙ ap (λ (k : ℕ). k ∷ left t) (sym (rw is at d.0)))

  some : (xs : List ℕ) (s t : Map (Iter (List ℕ)) F) → s.f ≡ f → Yields (map_steps iter_steps g) s xs t → (t.f ≡ f) × (left s ≡ xs ++ left t)
  some [] s t e y = (sym (ap (λ u. u.f) y) ∙ e, ap left y)
  some (x ∷ xs) s t e y =
      let a = one s y.0 x e y.1 in
      let b = some xs y.0 t a.0 y.2 in
      (b.0, a.1 ∙ ap (λ (ks : List ℕ). x ∷ ks) b.1)

  past : (xs : List ℕ) (p' : P) → FoldsTo (λ a x b. CalledAt h a x false b) p xs p' → Past place xs × (p' ≡ p)
  past [] p' k = (tt, sym k)
  past (x ∷ xs) p' k =
      let a = tests x false k.0 k.1 in
      let b = past xs p' (rw a.1 at k.2) in
      ((leb-false x place (sym a.0), b.0), b.1)

  -- where there is a draw, it is the first of those that were left and are not past their place
  pub found : (s t : Map (Iter (List ℕ)) F) (r : Option ℕ) (j : ℕ) → s.f ≡ f → r ≡ Some j → FindsItem (map_steps iter_steps g) h s p r t
      → (xs : List ℕ) × Past place xs × (j ≤ place) × (left s ≡ xs ++ (j ∷ left t)) × (t.f ≡ f)
  found s t r j e is-j d =
      let k = rw is-j at d in
      let xs = k.0 in
      let a = some xs s k.2.0 e k.2.1 in
      let b = one k.2.0 t j a.0 k.2.2 in
      let c = past xs k.1 k.3 in
      let u = tests j true k.4.0 (rw c.1 at k.4.1) in
      (xs, c.0, leb-true j place (sym u.0), a.1 ∙ ap (λ (ks : List ℕ). xs ++ ks) b.1, b.0)

  -- and where there is none, all were past it
  pub not_found : (s t : Map (Iter (List ℕ)) F) (r : Option ℕ) → s.f ≡ f → r ≡ None → FindsItem (map_steps iter_steps g) h s p r t → Past place (left s)
  not_found s t r e is-none d =
      let k = rw is-none at d in
      let a = some k.0 s k.2.0 e k.2.1 in
      rw (a.1, nil_from_length (iter_rest k.2.0.iter) k.2.2.0.0, append-nil) (past k.0 k.1 k.3).0
