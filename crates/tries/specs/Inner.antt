-- Inner: the memory of signing, from stage to stage of a try. No definition, and no promise of a public entry, rests on this file.
use Rattle.std.specs.Prelude.{◌≡◌, List, [], ◌∷◌, map, ℕ, ◌+◌, ◌-◌, ◌≤◌, ◌<◌, ℤ, pos, get_or, Option, Some, None}
use Rattle.sets.specs.Set.{Set}
use Rattle.answers.specs.declared.Refusal.TheVariants.{Spent}
use Rattle.answers.specs.Result.{done, refused}
use Rattle.rounding.specs.Rounding.{norm}
use Rattle.shake.specs.Shake.{shake256}
use Rattle.packing.specs.Parts.{pack_signature}
use Rattle.ring.specs.Profile.{mul}
use Rattle.streams.specs.Streams.{expand_y}
use Rattle.scheme.specs.Elements.{plus}
use Rattle.scheme.specs.Try.{Signer, response, masked, hints, try}
use Rattle.scheme.specs.Sign.{Key, signer_with, first_pass}
use Rattle.workspace.specs.declared.Place.{Place}
use Rattle.workspace.specs.declared.Place.TheVariants as place
use Rattle.workspace.specs.Inner.{at, slot, Holds, values}

-- the key that lies in the memory: a as it is, s1, s2 and t0 centred
abbrev pub key_in : Set → List ℕ → Key
key_in p work = record {
  a = map pos (slot p place.A work);
  s1 = values p place.S1 work;
  s2 = values p place.S2 work;
  t0 = values p place.T0 work;
}

abbrev pub signer_in : Set → List ℕ → List ℕ → List ℕ → Signer
signer_in p work μ ρ = signer_with (key_in p work) μ ρ

-- y and w of try κ
abbrev pub y_of : Set → Signer → ℕ → List ℤ
y_of p S κ = expand_y p shake256 S.rho κ

abbrev pub w_of : Set → Signer → ℕ → List ℤ
w_of p S κ = mul p S.a (y_of p S κ)

-- what the places stand for in try κ with challenge c, in their order: a, s1, s2, t0, y, w, c, z before it is centred, w - c·s2, c·t0, the hints
abbrev pub elements : Set → Signer → ℕ → List ℤ → List (List ℤ)
elements p S κ c =
    S.a ∷ S.s1 ∷ S.s2 ∷ S.t0 ∷ y_of p S κ ∷ w_of p S κ ∷ c ∷ plus p (y_of p S κ) (mul p c S.s1) ∷
    masked p S (w_of p S κ) c ∷ mul p c S.t0 ∷ hints p S (w_of p S κ) c ∷ []

abbrev pub element_at : Set → Signer → ℕ → List ℤ → Place → List ℤ
element_at p S κ c k = get_or (elements p S κ c) (at k) []

-- all places up to k hold it
abbrev pub Through : Set → Signer → ℕ → List ℤ → Place → List ℕ → Type 0
Through p S κ c k work = (j : Place) → at j ≤ at k → Holds p j (element_at p S κ c j) work

-- the try that the answer names: all its places are filled, its z is small, and its signature is the definition's
pub record Passes (p : Set) (S : Signer) (limit κ : ℕ) (work c~ : List ℕ) : Type 0 where
  pub below : κ < limit
  pub c : List ℤ
  pub held : Through p S κ c place.Hints work
  pub small : norm p.q (response p S (y_of p S κ) c) < p.gamma1 - p.beta
  pub found : first_pass (try p shake256 S) 0 limit ≡ done record {
    count = κ + 1;
    bytes = pack_signature p record { c~ = c~; z = response p S (y_of p S κ) c; h = hints p S (w_of p S κ) c };
  }

-- what the tries answer: the try that passed, if one did
abbrev pub Found : Set → Signer → ℕ → Option ℕ → List ℕ → List ℕ → Type 0
Found p S limit (Some κ) work c~ = Passes p S limit κ work c~
Found p S limit None work c~ = first_pass (try p shake256 S) 0 limit ≡ refused Spent
