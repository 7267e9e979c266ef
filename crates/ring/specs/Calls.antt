-- What the product's call answers (SPEC 2.6).
use Rattle.std.specs.Prelude.{List, eqb, length, ℤ}
use Rattle.answers.specs.declared.Buffer.TheVariants.{First, Second, Coefficients}
use Rattle.answers.specs.declared.Refusal.TheVariants.{Length}
use Rattle.answers.specs.Result.{Result, done, ◌>>◌, need}
use Rattle.ring.specs.Profile.{mul}
use Rattle.sets.specs.Set.{Set}

-- SPEC 2.6
unfoldable pub product_call : Set → List ℤ → List ℤ → List ℤ → Result (List ℤ)
product_call p a b out =
    do
      need (eqb (length a) p.n) (Length First)
      need (eqb (length b) p.n) (Length Second)
      need (eqb (length out) p.n) (Length Coefficients)
      done (mul p a b)
