-- Demand 3 (SPEC 12.1), over the definitions of demand 2 only.
use Rattle.std.specs.Prelude.{◌≡◌, List, ◌⊎◌, ℕ, ◌≤◌, ◌<◌, length}
use Rattle.sets.specs.Set.{message_max, try_max, Set}
use Rattle.answers.specs.declared.Refusal.TheVariants.{Spent}
use Rattle.answers.specs.Result.{done, refused}
use Rattle.packing.specs.Parts.{signature_size}
use Rattle.streams.specs.Streams.{Hash}
use Rattle.scheme.specs.Keys.{Pair, make_keys}
use Rattle.scheme.specs.Try.{Reason, fails, Signer, try}
use Rattle.scheme.specs.Sign.{Signed, rho_of, read_signer, sign_with, sign}
use Rattle.scheme.specs.Check.{check}

-- two seeds, and the keys that key making made from them
pub record Keys (p : Set) (H : Hash) : Type 0 where
  pub zeta : List ℕ
  pub zeta_prime : List ℕ
  pub public_out : List ℕ
  pub secret_out : List ℕ
  pub pair : Pair
  pub made : make_keys p H zeta zeta_prime public_out secret_out ≡ done pair

-- every try below the limit fails for one of the reasons 1 to 5: the tries are those of the signer that the secret key, the message and ρ give
pub record AllFail (p : Set) (H : Hash) (sk M ρ : List ℕ) (limit : ℕ) : Type 0 where
  pub signer : Signer
  pub read : read_signer p H sk M ρ ≡ done signer
  pub each : (κ : ℕ) → κ < limit → (r : Reason) × (try p H signer κ ≡ fails r)

-- SPEC 12.1: the demand, for the ρ of SPEC 8.2 and for every ρ that is given (SPEC 8.11)
pub record Demand3 (p : Set) (H : Hash) : Type 0 where
  pub accepted : (K : Keys p H) (M : List ℕ) (limit : ℕ) (out : List ℕ) (s : Signed) → length M ≤ message_max
      → sign p H K.pair.secret M limit out ≡ done s → check p H K.pair.public s.bytes M ≡ done tt
  pub spent : (K : Keys p H) (M : List ℕ) (limit : ℕ) (out : List ℕ)
      → sign p H K.pair.secret M limit out ≡ refused Spent → AllFail p H K.pair.secret M (rho_of p H K.pair.secret M) limit
  pub lent_accepted : (K : Keys p H) (M : List ℕ) (limit : ℕ) (out ρ : List ℕ) (s : Signed) → length M ≤ message_max
      → sign_with p H K.pair.secret M limit out ρ ≡ done s → check p H K.pair.public s.bytes M ≡ done tt
  pub lent_spent : (K : Keys p H) (M : List ℕ) (limit : ℕ) (out ρ : List ℕ)
      → sign_with p H K.pair.secret M limit out ρ ≡ refused Spent → AllFail p H K.pair.secret M ρ limit
  -- and there is no third answer: within the limits a key that was made is refused for no other cause than 8
  pub answers : (K : Keys p H) (M : List ℕ) (limit : ℕ) (out : List ℕ)
      → length out ≡ signature_size p → length M ≤ message_max → 1 ≤ limit → limit ≤ try_max
      → ((s : Signed) × (sign p H K.pair.secret M limit out ≡ done s)) ⊎ (sign p H K.pair.secret M limit out ≡ refused Spent)
