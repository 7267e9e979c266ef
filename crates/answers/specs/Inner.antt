-- Inner: what functions inside promise of a definition's result. No definition, and no promise of a public entry, rests on this file.
use Rattle.std.specs.Prelude.{◌≡◌, Ok, Err}
use Rattle.answers.specs.declared.Refusal.{Refusal}
use Rattle.answers.specs.Refusals.{Answer}
use Rattle.answers.specs.Result.{Result, done, refused}

-- what the answer r says of the definition's result m: at `Ok` m is a value, and `holds` is so of it; else r is m's refusal
pub record Gives {A : Type 0} (m : Result A) (holds : A → Type 0) (r : Answer) : Type 0 where
  pub well : r ≡ Ok tt → (a : A) × (m ≡ done a) × holds a
  pub ill : (why : Refusal) → r ≡ Err why → m ≡ refused why
