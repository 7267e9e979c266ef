-- The samplers as calls (SPEC 5.6).
use Rattle.std.specs.Prelude.{ℕ, List, eqb, length, ℤ}
use Rattle.sets.specs.Set.{Set}
use Rattle.answers.specs.declared.Buffer.TheVariants.{Coefficients}
use Rattle.answers.specs.declared.Refusal.TheVariants.{Length}
use Rattle.answers.specs.Result.{Result, ◌>>◌, need}
use Rattle.sampling.specs.Samplers.{Drawn, drawn}

unfoldable pub sample_call : Set → (Set → List ℕ → Drawn) → List ℕ → List ℤ → Result (List ℤ)
sample_call p sample stream out = need (eqb (length out) p.n) (Length Coefficients) >> drawn (sample p stream)
