-- Keys that were made: what they hold, and that signing and checking read it back.
use mathlib.Core.Path.{◌≡◌, refl, sym, ap, ◌∙◌}
use mathlib.Core.List.{List, [], ◌∷◌}
use Prim.Native.Nat.{ℕ}
use borrow.Author.Tests.{eqb-true}
use lib.Dec.{eqb}
use lib.ListN.{length}
use lib.IntN.{ℤ, pos}
use Rattle.sets.specs.Set.{seed_size, hash_size, Set}
use Rattle.answers.specs.declared.Buffer.TheVariants.{PublicKey as PublicBuffer, SecretKey as SecretBuffer, Zeta, ZetaPrime}
use Rattle.answers.specs.declared.Refusal.TheVariants.{Length}
use Rattle.answers.specs.Result.{Result, done, refused}
use Rattle.answers.proofs.Results.{bind_done, bind_inv, need_inv}
use Rattle.rounding.specs.Rounding.{power2_round}
use Rattle.ring.specs.Ring.{at}
use Rattle.ring.proofs.Lists.{length_tab, at_tab}
use Rattle.ring.proofs.Rings.{Fits}
use Rattle.layouts.specs.Layouts.{t1_layout, t0_layout, s_layout, pack}
use Rattle.packing.specs.declared.parts.Part.TheVariants as part
use Rattle.packing.specs.Parts.{PublicKey, SecretKey, read_public, read_secret, bytes_of, public_parts, secret_parts, public_size, secret_size, seeds_size}
use Rattle.layouts.proofs.Elements.{Element, length_pack}
use Rattle.packing.proofs.Standing.{part_long}
use Rattle.packing.proofs.Joins.{Sizes, length_join, part_join}
use Rattle.packing.proofs.Wholes.{RightPublic, RightSecret, read_public_lem, read_secret_lem}
use Rattle.streams.specs.Streams.{Hash, expand_a, expand_s}
use Rattle.streams.proofs.Drawn.{expanded_s}
use Rattle.sampling.proofs.Drawing.{Each, Small}
use Rattle.scheme.specs.Elements.{power_highs, power_lows}
use Rattle.scheme.specs.Keys.{Pair, key_t, public_key, ph_of, secret_key, seeds_of, pair_from, make_pair, make_keys}
use Rattle.scheme.specs.Try.{Signer}
use Rattle.scheme.specs.Sign.{read_key, read_signer, mu_of}
use Rattle.scheme.proofs.Allowed.{kept_s, kept_t1, kept_t0}

-- a hash gives as many bytes as it is asked for: all that the laws ask of it
abbrev pub Sized : Hash → Type 0
Sized H = (x : List ℕ) (b : ℕ) → length (H x b) ≡ b

pub record Made (p : Set) (H : Hash) (ζ ζ' : List ℕ) (keys : Pair) : Type 0 where
  pub zeta_long : length ζ ≡ seed_size
  pub a : List ℤ
  pub s1 : List ℤ
  pub s2 : List ℤ
  pub a_is : expand_a p H ζ ≡ done a
  pub s1_small : Each (Small p.eta) p.n s1
  pub s2_small : Each (Small p.eta) p.n s2
  pub public_is : keys.public ≡ public_key p ζ (key_t p a s1 s2)
  pub secret_is : keys.secret ≡ secret_key p H ζ (bytes_of p part.NewK (seeds_of H ζ')) s1 s2 (key_t p a s1 s2)

module _ (p : Set) (F : Fits p) (H : Hash) (ζ ζ' : List ℕ) (keys : Pair) where
  of_pair : length ζ ≡ seed_size → make_pair p H ζ ζ' ≡ done keys → Made p H ζ ζ' keys
  unfolding make_pair pair_from
  of_pair l e =
      let x = bind_inv (expand_a p H ζ) _ keys e in
      let y = bind_inv (expand_s p H (bytes_of p part.Xi1 (seeds_of H ζ'))) _ keys x.2 in
      let w = bind_inv (expand_s p H (bytes_of p part.Xi2 (seeds_of H ζ'))) _ keys y.2 in
      record {
        zeta_long = l;
        a = x.0;
        s1 = y.0;
        s2 = w.0;
        a_is = x.1;
        s1_small = expanded_s p H (bytes_of p part.Xi1 (seeds_of H ζ')) y.0 y.1;
        s2_small = expanded_s p H (bytes_of p part.Xi2 (seeds_of H ζ')) w.0 w.1;
        public_is = sym (ap public_of w.2);
        secret_is = sym (ap secret_of w.2);
      }
    where
      public_of : Result Pair → List ℕ
      public_of (done p) = p.public
      public_of (refused r) = []

      secret_of : Result Pair → List ℕ
      secret_of (done p) = p.secret
      secret_of (refused r) = []

  -- a call that made keys had a ζ of its size
  pub made_of : (public_out secret_out : List ℕ) → make_keys p H ζ ζ' public_out secret_out ≡ done keys → Made p H ζ ζ' keys
  unfolding make_keys
  made_of public_out secret_out e =
      let x = need_inv (eqb (length ζ) seed_size) (Length Zeta) _ keys e in
      let y = need_inv (eqb (length ζ') seed_size) (Length ZetaPrime) _ keys x.1 in
      let z = need_inv (eqb (length public_out) (public_size p)) (Length PublicBuffer) _ keys y.1 in
      let w = need_inv (eqb (length secret_out) (secret_size p)) (Length SecretBuffer) _ keys z.1 in
      of_pair (eqb-true (length ζ) seed_size x.0) w.1

module _ (p : Set) (F : Fits p) (H : Hash) (sized : Sized H) (ζ ζ' : List ℕ) (keys : Pair) (K : Made p H ζ ζ' keys) where
  abbrev pub keys_t : List ℤ
  keys_t = key_t p K.a K.s1 K.s2

  -- what the two keys hold
  abbrev pub public_of : PublicKey
  public_of = record { zeta = ζ; t1 = power_highs p keys_t }

  abbrev pub secret_of : SecretKey
  secret_of = record {
    zeta = ζ;
    ph = ph_of H (public_key p ζ keys_t);
    k = bytes_of p part.NewK (seeds_of H ζ');
    s1 = K.s1;
    s2 = K.s2;
    t0 = power_lows p keys_t;
  }

  element_s : (s : List ℤ) → Each (Small p.eta) p.n s → Element (s_layout p) p.n s
  element_s s E = record { long = E.long; kept = λ k l. kept_s p F.good (at s k) (E.each k l) }

  right_public : RightPublic p public_of
  right_public = record {
    zeta = K.zeta_long;
    t1 = record {
      long = length_tab p.n (λ k. pos (power2_round p (at keys_t k)).high);
      kept = λ k l. rw (at_tab (pos 0) p.n (λ k. pos (power2_round p (at keys_t k)).high) k l) (kept_t1 p F.good (at keys_t k));
    };
  }

  right_secret : RightSecret p secret_of
  right_secret = record {
    zeta = K.zeta_long;
    ph = sized (public_key p ζ keys_t) hash_size;
    k = part_long p part.NewK (seeds_of H ζ') (sized ζ' seeds_size);
    s1 = element_s K.s1 K.s1_small;
    s2 = element_s K.s2 K.s2_small;
    t0 = record {
      long = length_tab p.n (λ k. (power2_round p (at keys_t k)).low);
      kept = λ k l. rw (at_tab (pos 0) p.n (λ k. (power2_round p (at keys_t k)).low) k l) (kept_t0 p F.good (at keys_t k));
    };
  }

  pub public_back : read_public p keys.public ≡ done public_of
  public_back = ap (read_public p) K.public_is ∙ read_public_lem p public_of right_public

  pub secret_back : read_secret p keys.secret ≡ done secret_of
  secret_back = ap (read_secret p) K.secret_is ∙ read_secret_lem p secret_of right_secret

  -- the parts, by place
  abbrev secret_list : List (List ℕ)
  secret_list =
      ζ ∷ secret_of.ph ∷ secret_of.k ∷
      pack (s_layout p) p.n K.s1 ∷ pack (s_layout p) p.n K.s2 ∷ pack (t0_layout p) p.n (power_lows p keys_t) ∷ []

  secret_sizes : Sizes (secret_parts p) secret_list
  secret_sizes = (
    K.zeta_long,
    (
      right_secret.ph,
      (
        right_secret.k,
        (
          length_pack (s_layout p) p.n K.s1,
          (length_pack (s_layout p) p.n K.s2, (length_pack (t0_layout p) p.n (power_lows p keys_t), tt)),
        ),
      ),
    ),
  )

  pub public_length : length keys.public ≡ public_size p
  public_length =
      ap length K.public_is ∙
      length_join (public_parts p) (ζ ∷ pack (t1_layout p) p.n (power_highs p keys_t) ∷ [])
      (K.zeta_long, (length_pack (t1_layout p) p.n (power_highs p keys_t), tt))

  pub secret_length : length keys.secret ≡ secret_size p
  secret_length = ap length K.secret_is ∙ length_join (secret_parts p) secret_list secret_sizes

  -- ph in the secret key is the hash of the public key
  pub ph_is : bytes_of p part.Ph keys.secret ≡ ph_of H keys.public
  ph_is =
      ap (bytes_of p part.Ph) K.secret_is ∙ part_join (secret_parts p) secret_list 1 secret_sizes ∙
      ap (ph_of H) (sym K.public_is)

  abbrev pub signer_of : List ℕ → List ℕ → Signer
  signer_of M ρ = record { a = K.a; s1 = K.s1; s2 = K.s2; t0 = power_lows p keys_t; mu = mu_of p H keys.secret M; rho = ρ }

  pub signer_read : (M ρ : List ℕ) → read_signer p H keys.secret M ρ ≡ done (signer_of M ρ)
  unfolding read_signer read_key
  signer_read M ρ = bind_done _ (bind_done _ secret_back (bind_done _ K.a_is refl)) refl
