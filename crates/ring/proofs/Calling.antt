-- The product's call: its checks in their order.
use mathlib.Core.Path.{◌≡◌, ◌∙◌}
use mathlib.Core.List.{List}
use Prim.Native.Nat.{ℕ}
use lib.Dec.{eqb}
use lib.IntN.{ℤ}
use lib.ListN.{length}
use Rattle.answers.specs.declared.Buffer.TheVariants.{First, Second, Coefficients}
use Rattle.answers.specs.declared.Refusal.TheVariants.{Length}
use Rattle.answers.specs.Result.{Result, done, refused, need, ◌>>◌}
use Rattle.answers.proofs.Outcomes.{equal, unequal}
use Rattle.ring.specs.Profile.{mul}
use Rattle.ring.specs.Calls.{product_call}
use Rattle.sets.specs.Set.{Set}

module _ (p : Set) (a b out : List ℤ) where
  abbrev n : ℕ
  n = p.n

  result : Result (List ℤ)
  result = done (mul p a b)

  third : Result (List ℤ)
  third = need (eqb (length out) n) (Length Coefficients) >> result

  second : Result (List ℤ)
  second = need (eqb (length b) n) (Length Second) >> third

  pub wrong_first : (length a ≡ n → ⊥) → product_call p a b out ≡ refused (Length First)
  unfolding product_call third second result
  wrong_first e = unequal (length a) n (Length First) second e

  pub wrong_second : length a ≡ n → (length b ≡ n → ⊥) → product_call p a b out ≡ refused (Length Second)
  unfolding product_call third second result
  wrong_second e f = equal (length a) n (Length First) second e ∙ unequal (length b) n (Length Second) third f

  pub wrong_out : length a ≡ n → length b ≡ n → (length out ≡ n → ⊥) → product_call p a b out ≡ refused (Length Coefficients)
  unfolding product_call third second result
  wrong_out e f g =
      equal (length a) n (Length First) second e ∙ equal (length b) n (Length Second) third f ∙ unequal (length out) n (Length Coefficients) result g

  pub all_right : length a ≡ n → length b ≡ n → length out ≡ n → product_call p a b out ≡ done (mul p a b)
  unfolding product_call third second result
  all_right e f g =
      equal (length a) n (Length First) second e ∙ equal (length b) n (Length Second) third f ∙ equal (length out) n (Length Coefficients) result g
