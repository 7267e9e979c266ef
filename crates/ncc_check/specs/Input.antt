-- The checking program (SPEC 11.1): public key, signature and message without separators, and the number of the answer.
use Rattle.std.specs.Prelude.{ℕ, ◌+◌, List, take, drop}
use Rattle.sets.specs.Set.{set1}
use Rattle.answers.specs.Result.{told}
use Rattle.shake.specs.Shake.{shake256}
use Rattle.packing.specs.Parts.{public_size, signature_size}
use Rattle.scheme.specs.Check.{check}

abbrev pub key_in : List ℕ → List ℕ
key_in input = take (public_size set1) input

abbrev pub signature_in : List ℕ → List ℕ
signature_in input = take (signature_size set1) (drop (public_size set1) input)

abbrev pub message_in : List ℕ → List ℕ
message_in input = drop (public_size set1 + signature_size set1) input

abbrev pub number_from : List ℕ → ℕ
number_from input = (told (check set1 shake256 (key_in input) (signature_in input) (message_in input))).number
