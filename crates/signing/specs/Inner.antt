-- Inner: what signing reads around its tries. No definition, and no promise of a public entry, rests on this file.
use Rattle.std.specs.Prelude.{◌≡◌, List, length, ℕ, eqb, leb, ◌&&◌}
use Rattle.sets.specs.Set.{Set, message_max, try_max}
use Rattle.answers.specs.declared.Buffer.TheVariants.{SecretKey as SecretBuffer, Signature as SignatureBuffer}
use Rattle.answers.specs.declared.Refusal.TheVariants.{Length, LongMessage, TryLimit}
use Rattle.answers.specs.Result.{Result, ◌>>=◌, ◌>>◌, need}
use Rattle.shake.specs.Shake.{shake256}
use Rattle.packing.specs.Parts.{secret_size, signature_size}
use Rattle.scheme.specs.Try.{try}
use Rattle.scheme.specs.Sign.{Signed, Key, read_key, signer_with, first_pass}
use Rattle.workspace.specs.declared.Place.TheVariants as place
use Rattle.workspace.specs.Inner.{Ready}
use Rattle.tries.specs.Inner.{key_in}

-- the definition's key lies in the memory
pub record KeyHeld (p : Set) (k : Key) (work : List ℕ) : Type 0 where
  pub is : k ≡ key_in p work
  pub ready : Ready p place.T0 work

-- the definition's checks of a call, in their order
abbrev pub checks : Set → List ℕ → List ℕ → ℕ → List ℕ → Result (Unit {0})
checks p sk M limit out =
    do
      need (eqb (length sk) (secret_size p)) (Length SecretBuffer)
      need (eqb (length out) (signature_size p)) (Length SignatureBuffer)
      need (leb (length M) message_max) LongMessage
      need (leb 1 limit && leb limit try_max) TryLimit

-- the definition's signing once its checks have passed, with μ and ρ given
abbrev pub signed_from : Set → List ℕ → List ℕ → List ℕ → ℕ → Result Signed
signed_from p sk μ ρ limit = read_key p shake256 sk >>= λ (k : Key). first_pass (try p shake256 (signer_with k μ ρ)) 0 limit
