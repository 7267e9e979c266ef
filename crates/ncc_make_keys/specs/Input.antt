-- The key-making program (SPEC 11.2): the first bytes of the input, as many as a seed has, are ζ, and all others are ζ'.
use Rattle.std.specs.Prelude.{ℕ, List, take, drop}
use Rattle.sets.specs.Set.{set1, seed_size}
use Rattle.answers.specs.Result.{Result}
use Rattle.shake.specs.Shake.{shake256}
use Rattle.scheme.specs.Keys.{Pair, make_keys}

abbrev pub keys_from : List ℕ → List ℕ → List ℕ → Result Pair
keys_from input public_out secret_out = make_keys set1 shake256 (take seed_size input) (drop seed_size input) public_out secret_out
