-- The comparison: `==` on two slices answers what the definition's test does; and the commitment that is compared.
use mathlib.Core.Path.{◌≡◌, refl, ap, ◌∙◌}
use mathlib.Core.Bool.{Bool, ◌&&◌}
use mathlib.Core.List.{List, [], ◌∷◌, ◌++◌, append-nil}
use Prim.Native.Nat.{ℕ}
use lib.Dec.{eqb}
use lib.IntN.{ℤ}
use Rattle.std.specs.Str.{bytes_eq}
use Rattle.sets.specs.Set.{Set, hash_size}
use Rattle.sets.specs.Good.{Trinomial}
use Rattle.answers.specs.declared.Refusal.TheVariants.{Differs}
use Rattle.answers.specs.Result.{need}
use Rattle.streams.specs.Streams.{Hash}
use Rattle.scheme.specs.Keys.{ph_of}
use Rattle.scheme.specs.Try.{commit}
use Rattle.scheme.specs.Sign.{mu}
use Rattle.scheme.specs.Check.{same, mu_for}
use Rattle.workspace.specs.declared.Place.TheVariants as place
use Rattle.workspace.specs.Inner.{Holds, values}
use Rattle.checking.specs.Inner.{Inputs, highs_for, compared}
use Rattle.checking.proofs.Recomputing.{highs_back}

-- ---- the commitment, with μ as the code has hashed it
module _ (p : Set) (H : Hash) (pk M : List ℕ) where
  pub commit_is : {ph μ out : List ℕ} (w1 : List ℤ) → ph ≡ H (pk ++ ([] ++ [])) hash_size → μ ≡ mu H ph M → out ≡ commit p H μ w1
      → out ≡ commit p H (mu_for H pk M) w1
  commit_is w1 e f g = g ∙ ap (λ (x : List ℕ). commit p H x w1) (f ∙ (λ t. mu H ((e ∙ ap (ph_of H) (append-nil pk)) t) M))

-- ---- the comparison
same_is : (xs ys : List ℕ) → same xs ys ≡ bytes_eq xs ys
unfolding same
same_is [] [] = refl
same_is [] (y ∷ ys) = refl
same_is (x ∷ xs) [] = refl
same_is (x ∷ xs) (y ∷ ys) = ap (λ b. eqb x y && b) (same_is xs ys)

-- c̃'s bytes, `first`, are compared with the commitment that the high bits in the memory lead to
pub compared_is : (p : Set) → Trinomial p → (H : Hash) (pk M : List ℕ) (i : Inputs) {work first expected : List ℕ} {r : Bool}
    → Holds p place.W1 (highs_for p i) work → i.signature.c~ ≡ first → expected ≡ commit p H (mu_for H pk M) (values p place.W1 work)
    → r ≡ bytes_eq first expected → compared p H pk M i ≡ need r Differs
compared_is p T H pk M i {first = first} {expected = expected} h O e t =
    let b = (highs_back p T i h).same in
    let s = same_is first expected in
    cc
