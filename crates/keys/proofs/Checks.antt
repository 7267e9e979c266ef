-- The checks of lengths, in their order (SPEC 7.5).
use mathlib.Core.Path.{◌≡◌, ◌∙◌}
use mathlib.Core.List.{List}
use Prim.Native.Nat.{ℕ}
use lib.Dec.{eqb}
use lib.ListN.{length}
use Rattle.sets.specs.Set.{Set, seed_size}
use Rattle.answers.specs.declared.Buffer.TheVariants.{PublicKey as PublicBuffer, SecretKey as SecretBuffer, Zeta, ZetaPrime}
use Rattle.answers.specs.declared.Refusal.TheVariants.{Length}
use Rattle.answers.specs.Result.{Result, refused, need, ◌>>◌}
use Rattle.answers.proofs.Outcomes.{equal, unequal}
use Rattle.shake.specs.Shake.{shake256}
use Rattle.packing.specs.Parts.{public_size, secret_size}
use Rattle.scheme.specs.Keys.{Pair, seeds_of, pair_from, make_pair, make_keys}

module _ (p : Set) (ζ ζ' pk sk : List ℕ) where
  abbrev keys : Result Pair
  keys = make_keys p shake256 ζ ζ' pk sk

  abbrev after_public : Result Pair
  after_public = need (eqb (length sk) (secret_size p)) (Length SecretBuffer) >> make_pair p shake256 ζ ζ'

  abbrev after_prime : Result Pair
  after_prime = need (eqb (length pk) (public_size p)) (Length PublicBuffer) >> after_public

  abbrev after_zeta : Result Pair
  after_zeta = need (eqb (length ζ') seed_size) (Length ZetaPrime) >> after_prime

  pub wrong_zeta : (length ζ ≡ seed_size → ⊥) → make_keys p shake256 ζ ζ' pk sk ≡ refused (Length Zeta)
  unfolding make_keys
  wrong_zeta e = unequal (length ζ) seed_size (Length Zeta) after_zeta e

  module _ (a : length ζ ≡ seed_size) where
    go_zeta : keys ≡ after_zeta
    unfolding make_keys
    go_zeta = equal (length ζ) seed_size (Length Zeta) after_zeta a

    pub wrong_prime : (length ζ' ≡ seed_size → ⊥) → make_keys p shake256 ζ ζ' pk sk ≡ refused (Length ZetaPrime)
    wrong_prime e = go_zeta ∙ unequal (length ζ') seed_size (Length ZetaPrime) after_prime e

    module _ (b : length ζ' ≡ seed_size) where
      go_prime : keys ≡ after_prime
      go_prime = go_zeta ∙ equal (length ζ') seed_size (Length ZetaPrime) after_prime b

      pub wrong_public : (length pk ≡ public_size p → ⊥) → make_keys p shake256 ζ ζ' pk sk ≡ refused (Length PublicBuffer)
      wrong_public e = go_prime ∙ unequal (length pk) (public_size p) (Length PublicBuffer) after_public e

      module _ (c : length pk ≡ public_size p) where
        go_public : keys ≡ after_public
        go_public = go_prime ∙ equal (length pk) (public_size p) (Length PublicBuffer) after_public c

        pub wrong_secret : (length sk ≡ secret_size p → ⊥) → make_keys p shake256 ζ ζ' pk sk ≡ refused (Length SecretBuffer)
        wrong_secret e = go_public ∙ unequal (length sk) (secret_size p) (Length SecretBuffer) (make_pair p shake256 ζ ζ') e

        pub all_right : length sk ≡ secret_size p → make_keys p shake256 ζ ζ' pk sk ≡ pair_from p shake256 ζ (seeds_of shake256 ζ')
        unfolding make_pair
        all_right d = go_public ∙ equal (length sk) (secret_size p) (Length SecretBuffer) (make_pair p shake256 ζ ζ') d
