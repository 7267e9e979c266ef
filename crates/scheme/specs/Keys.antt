-- Key making (SPEC 7). H is the hash: H x b is its first b bytes on x (SPEC 4.11).
use Rattle.std.specs.Prelude.{ℕ, List, eqb, length, ℤ}
use Rattle.sets.specs.Set.{Set, seed_size, hash_size}
use Rattle.answers.specs.declared.Buffer.TheVariants.{PublicKey as PublicBuffer, SecretKey as SecretBuffer, Zeta, ZetaPrime}
use Rattle.answers.specs.declared.Refusal.TheVariants.{Length}
use Rattle.answers.specs.Result.{Result, done, ◌>>=◌, ◌>>◌, need}
use Rattle.ring.specs.Profile.{mul}
use Rattle.packing.specs.declared.parts.Part.TheVariants as part
use Rattle.packing.specs.Parts.{pack_public, pack_secret, bytes_of, public_size, secret_size, seeds_size}
use Rattle.streams.specs.Streams.{Hash, expand_a, expand_s}
use Rattle.scheme.specs.Elements.{plus, power_highs, power_lows}

-- the two keys as bytes
pub record Pair : Type 0 where
  pub public : List ℕ
  pub secret : List ℕ

-- SPEC 7.3: t = a·s1 + s2
abbrev pub key_t : Set → List ℤ → List ℤ → List ℤ → List ℤ
key_t p a s1 s2 = plus p (mul p a s1) s2

-- SPEC 7.4: the public key is ζ and t1
abbrev pub public_key : Set → List ℕ → List ℤ → List ℕ
public_key p ζ t = pack_public p record { zeta = ζ; t1 = power_highs p t }

-- SPEC 7.4: ph is the hash of the public key
abbrev pub ph_of : Hash → List ℕ → List ℕ
ph_of H pk = H pk hash_size

-- SPEC 7.4: the secret key
abbrev pub secret_key : Set → Hash → List ℕ → List ℕ → List ℤ → List ℤ → List ℤ → List ℕ
secret_key p H ζ K s1 s2 t =
    pack_secret p record { zeta = ζ; ph = ph_of H (public_key p ζ t); k = K; s1 = s1; s2 = s2; t0 = power_lows p t }

-- SPEC 7.1: ξ1, ξ2 and K
abbrev pub seeds_of : Hash → List ℕ → List ℕ
seeds_of H ζ' = H ζ' seeds_size

-- SPEC 7.2 to 7.4: the keys, with those given
unfoldable pub pair_from : Set → Hash → List ℕ → List ℕ → Result Pair
pair_from p H ζ seeds =
    do
      a ← expand_a p H ζ
      s1 ← expand_s p H (bytes_of p part.Xi1 seeds)
      s2 ← expand_s p H (bytes_of p part.Xi2 seeds)
      done record {
        public = public_key p ζ (key_t p a s1 s2);
        secret = secret_key p H ζ (bytes_of p part.NewK seeds) s1 s2 (key_t p a s1 s2);
      }

unfoldable pub make_pair : Set → Hash → List ℕ → List ℕ → Result Pair
make_pair p H ζ ζ' = pair_from p H ζ (seeds_of H ζ')

-- SPEC 7.5: the call
unfoldable pub make_keys : Set → Hash → List ℕ → List ℕ → List ℕ → List ℕ → Result Pair
make_keys p H ζ ζ' public_out secret_out =
    do
      need (eqb (length ζ) seed_size) (Length Zeta)
      need (eqb (length ζ') seed_size) (Length ZetaPrime)
      need (eqb (length public_out) (public_size p)) (Length PublicBuffer)
      need (eqb (length secret_out) (secret_size p)) (Length SecretBuffer)
      make_pair p H ζ ζ'
