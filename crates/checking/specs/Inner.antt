-- Inner: what checking reads and draws before it compares. No definition, and no promise of a public entry, rests on this file.
use Rattle.std.specs.Prelude.{◌≡◌, List, ℕ, ℤ}
use Rattle.sets.specs.Set.{Set}
use Rattle.answers.specs.declared.Refusal.TheVariants.{Differs}
use Rattle.answers.specs.Result.{Result, done, ◌>>=◌, need}
use Rattle.packing.specs.declared.parts.Part.TheVariants as part
use Rattle.packing.specs.Parts.{PublicKey, Signature, bytes_of, read_public, read_signature}
use Rattle.sampling.specs.Samplers.{drawn}
use Rattle.streams.specs.Streams.{Hash, expand_a, expand_c}
use Rattle.scheme.specs.Elements.{use_hints}
use Rattle.scheme.specs.Try.{commit}
use Rattle.scheme.specs.Check.{same, recomputed, mu_for}
use Rattle.workspace.specs.declared.Place.TheVariants as place
use Rattle.workspace.specs.Inner.{Holds, Bits}

pub record Inputs : Type 0 where
  pub key : PublicKey
  pub signature : Signature
  pub a : List ℤ
  pub c : List ℤ

-- the definition's checking up to the comparison
unfoldable pub inputs : Set → Hash → List ℕ → List ℕ → Result Inputs
inputs p H pk σ =
    do
      k ← read_public p pk
      s ← read_signature p σ
      a ← expand_a p H k.zeta
      c ← drawn (expand_c p H s.c~)
      done record { key = k; signature = s; a = a; c = c }

-- the high bits that the hints give
abbrev pub highs_for : Set → Inputs → List ℤ
highs_for p i = use_hints p i.signature.h (recomputed p i.a i.signature.z i.c i.key.t1)

-- the comparison
abbrev pub compared : Set → Hash → List ℕ → List ℕ → Inputs → Result (Unit {0})
compared p H pk M i = need (same i.signature.c~ (commit p H (mu_for H pk M) (highs_for p i))) Differs

-- c̃ stands in the signature's bytes
abbrev pub Opens : Set → List ℕ → Inputs → Type 0
Opens p σ i = i.signature.c~ ≡ bytes_of p part.Commitment σ

-- the others at their places
pub record Loaded (p : Set) (i : Inputs) (work : List ℕ) : Type 0 where
  pub a : Holds p place.A i.a work
  pub z : Holds p place.Z i.signature.z work
  pub t1 : Holds p place.T1 i.key.t1 work
  pub hints : Holds p place.Hints i.signature.h work
  pub c : Holds p place.C i.c work
  pub bits : Bits i.signature.h
