-- The signing program (SPEC 11.3): the secret key, the limit in four bytes, and the message. An input that ends before the message has no whole key
-- to sign with.
use Rattle.std.specs.Prelude.{ℕ, ◌+◌, List, leb, length, take, drop}
use Rattle.sets.specs.Set.{set1}
use Rattle.digits.specs.Digits.{value}
use Rattle.answers.specs.declared.Buffer.TheVariants.{SecretKey}
use Rattle.answers.specs.declared.Refusal.TheVariants.{Length}
use Rattle.answers.specs.Result.{Result, ◌>>◌, need}
use Rattle.shake.specs.Shake.{shake256}
use Rattle.packing.specs.Parts.{secret_size}
use Rattle.scheme.specs.Sign.{Signed, sign}

abbrev pub limit_in : List ℕ → ℕ
limit_in input = value 256 (take 4 (drop (secret_size set1) input))

abbrev pub signature_from : List ℕ → List ℕ → Result Signed
signature_from input out =
    do
      need (leb (secret_size set1 + 4) (length input)) (Length SecretKey)
      sign set1 shake256 (take (secret_size set1) input) (drop (secret_size set1 + 4) input) (limit_in input) out
