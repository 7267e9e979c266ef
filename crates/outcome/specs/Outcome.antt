-- What a public function promises: what it answers, and what the buffers hold at the end, are those of one definition.
-- The definition gives a pair: the answer, and the buffers (a product of lists where there are several).
use Rattle.std.specs.Prelude.{◌≡◌}

pub record Is {A B : Type 0} (outcome : A × B) (answer : A) (buffers : B) : Type 0 where
  pub answers : answer ≡ outcome.0
  pub leaves : buffers ≡ outcome.1
