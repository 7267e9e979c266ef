-- The index that a definition's refusal names is below 2^16: it is that of a coefficient.
use mathlib.Core.Path.{◌≡◌, refl}
use mathlib.Core.Bool.{Bool, true, false, ◌&&◌}
use mathlib.Core.List.{List, [], ◌∷◌, ◌++◌}
use Prim.Native.Nat.{ℕ, zero, suc, ◌+◌, ◌≤◌, ◌<◌}
use native.Mathlib.Omega.{arith}
use borrow.Author.Tests.{eqb-true}
use lib.Dec.{eqb, leb}
use lib.IntN.{ℤ}
use lib.ListN.{length}
use Rattle.sets.specs.Set.{Set, seed_size, message_max, try_max}
use Rattle.answers.specs.declared.Buffer.TheVariants.{PublicKey, SecretKey, Zeta, ZetaPrime, Signature, First, Second, Coefficients, Packed}
use Rattle.answers.specs.declared.Field.{Field}
use Rattle.answers.specs.declared.Field.TheVariants.{T1, T0, S1, S2, Z}
use Rattle.answers.specs.declared.Refusal.{Refusal}
use Rattle.answers.specs.declared.Refusal.TheVariants.{Length, LongMessage, TryLimit, Coefficient, Hint, Differs}
use Rattle.answers.specs.Refusals.{refusal_index}
use Rattle.answers.specs.Result.{Result, done, refused, ◌>>=◌, ◌>>◌, need, told}
use Rattle.digits.specs.Digits.{codes, two_bytes}
use Rattle.layouts.specs.declared.layout.Layout.{Layout}
use Rattle.packing.specs.declared.parts.Part.{Part}
use Rattle.packing.specs.declared.parts.Part.TheVariants as part
use Rattle.layouts.specs.Layouts.{layout_of, hint_layout, every, holds, allowed, size, unpack}
use Rattle.layouts.specs.Hints.{ones, any_hint, read_hints}
use Rattle.packing.specs.Parts.{public_size, secret_size, signature_size, bytes_of, field_in, read_public, read_secret, read_signature}
use Rattle.rounding.specs.Used.{used_hint}
use Rattle.packing.specs.Calls.{pack_call, unpack_call}
use Rattle.layouts.proofs.Elements.{length_codes}
use Rattle.sampling.specs.Samplers.{Drawn, dry, drew, drawn, sample_a, sample_s}
use Rattle.streams.specs.Streams.{Hash, expand_a, expand_s, expand_c}
use Rattle.sampling.specs.Calls.{sample_call}
use Rattle.ring.specs.Calls.{product_call}
use Rattle.scheme.specs.Elements.{use_hints}
use Rattle.scheme.specs.Keys.{seeds_of, pair_from, make_pair, make_keys}
use Rattle.scheme.specs.Try.{Try, passes, fails, try, commit}
use Rattle.scheme.specs.Sign.{Signed, or_next, first_pass, rho_of, read_key, read_signer, sign_with, sign}
use Rattle.scheme.specs.Check.{same, recomputed, mu_for, check}

pub record Small {A : Type 0} (m : Result A) : Type 0 where
  pub index : (told m).index < 65536

-- ---- the ways in which definitions are made

of_done : {A : Type 0} {a : A} → Small (done a)
of_done = record { index = omega arith }

of_bind : {A B : Type 0} (m : Result A) {f : A → Result B} → Small m → ((a : A) → Small (f a)) → Small (m >>= f)
of_bind (done a) s k = k a
of_bind (refused r) s k = record { index = s.index }

of_then : {A B : Type 0} (m : Result A) {k : Result B} → Small m → Small k → Small (m >> k)
of_then (done a) s t = t
of_then (refused r) s t = record { index = s.index }

-- a check; what follows may count on it
of_need : {A : Type 0} (b : Bool) (r : Refusal) {m : Result A} → refusal_index r < 65536 → (b ≡ true → Small m) → Small (need b r >> m)
of_need true r i k = k refl
of_need false r i k = record { index = i }

-- one that names no coefficient
of_check : {A : Type 0} (b : Bool) (r : Refusal) {m : Result A} → refusal_index r ≡ 0 → Small m → Small (need b r >> m)
of_check b r e s = of_need b r (omega arith) (λ _. s)

of_last : (b : Bool) (r : Refusal) → refusal_index r ≡ 0 → Small (need b r)
of_last true r e = record { index = omega arith }
of_last false r e = record { index = omega arith }

-- the elements of a list, each with its own index
module _ {A : Type 0} (ok : A → Bool) (refusal : ℕ → Refusal) (names : (k : ℕ) → refusal_index (refusal k) ≤ k) where
  of_every : (i : ℕ) (xs : List A) → i + length xs ≤ 65536 → Small (every ok refusal i xs)
  unfolding every
  of_every i [] h = of_done
  of_every i (x ∷ xs) h = of_need (ok x) (refusal i) (omega (arith, names i)) (λ _. of_every (suc i) xs (omega arith))

-- ---- layouts

module _ (L : Layout) (refusal : ℕ → Refusal) (names : (k : ℕ) → refusal_index (refusal k) ≤ k) (n : ℕ) (few : n ≤ 65536) where
  of_unpack : (bs : List ℕ) → Small (unpack L refusal n bs)
  unfolding unpack
  of_unpack bs =
      let cs = codes L.bits n bs in
      of_then (every (allowed L) refusal 0 cs) (of_every (allowed L) refusal names 0 cs (omega (arith, length_codes L.bits n bs))) of_done

-- ---- samplers

of_drawn : (d : Drawn) → Small (drawn d)
of_drawn dry = record { index = omega arith }
of_drawn (drew xs) = of_done

pub of_sample_call : (p : Set) (sample : Set → List ℕ → Drawn) (stream : List ℕ) (out : List ℤ) → Small (sample_call p sample stream out)
unfolding sample_call
of_sample_call p sample stream out =
    of_check (eqb (length out) p.n) (Length Coefficients) refl (of_drawn (sample p stream))

-- ---- the ring and the hints

pub of_product_call : (p : Set) (a b out : List ℤ) → Small (product_call p a b out)
unfolding product_call
of_product_call p a b out =
    of_check (eqb (length a) p.n) (Length First) refl
    (of_check (eqb (length b) p.n) (Length Second) refl
    (of_check (eqb (length out) p.n) (Length Coefficients) refl of_done))

pub of_used_hint : (p : Set) (h : ℕ) (r : ℤ) → Small (used_hint p h r)
unfolding used_hint
of_used_hint p h r = of_check (leb h 1) Hint refl of_done

-- ---- keys and signatures that are read

module _ (p : Set) (few : p.n ≤ 65536) where
  -- a field of a key or of a signature, and what follows it
  of_field : {B : Type 0} (f : Field) (x : Part) (bs : List ℕ) {k : List ℤ → Result B} → ((zs : List ℤ) → Small (k zs)) → Small (field_in p f x bs >>= k)
  of_field f x bs = of_bind (field_in p f x bs) (of_unpack (layout_of p f) (Coefficient f) (λ k. omega arith) p.n few (bytes_of p x bs))

  of_public : (bs : List ℕ) → Small (read_public p bs)
  unfolding read_public
  of_public bs = of_field T1 part.T1 bs (λ t1. of_done)

  of_secret : (bs : List ℕ) → Small (read_secret p bs)
  unfolding read_secret
  of_secret bs = of_field S1 part.S1 bs (λ s1. of_field S2 part.S2 bs (λ s2. of_field T0 part.T0 bs (λ t0. of_done)))

  of_hints : (bs : List ℕ) → Small (read_hints p bs)
  unfolding read_hints
  of_hints bs =
      of_bind (unpack hint_layout any_hint p.n bs) (of_unpack hint_layout any_hint (λ k. omega arith) p.n few bs)
      (λ h. of_check (leb (ones h) p.omega) Hint refl of_done)

  of_signature : (bs : List ℕ) → Small (read_signature p bs)
  unfolding read_signature
  of_signature bs =
      let hs = bytes_of p part.Hints bs in
      of_field Z part.Z bs (λ z. of_bind (read_hints p hs) (of_hints hs) (λ h. of_done))

  -- what packing and unpacking answer
  pub of_pack_call : (f : Field) (values : List ℤ) (out : List ℕ) → Small (pack_call p f values out)
  unfolding pack_call
  of_pack_call f values out =
      let L = layout_of p f in
      of_need (eqb (length values) p.n) (Length Coefficients) (omega arith)
      (λ e. of_check (eqb (length out) (size L p.n)) (Length Packed) refl
      (of_then (every (holds L) (Coefficient f) 0 values)
      (of_every (holds L) (Coefficient f) (λ k. omega arith) 0 values (omega (arith, few, eqb-true (length values) p.n e))) of_done))

  pub of_unpack_call : (f : Field) (packed : List ℕ) (out : List ℤ) → Small (unpack_call p f packed out)
  unfolding unpack_call
  of_unpack_call f packed out =
      of_check (eqb (length packed) (size (layout_of p f) p.n)) (Length Packed) refl
      (of_check (eqb (length out) p.n) (Length Coefficients) refl
      (of_unpack (layout_of p f) (Coefficient f) (λ k. omega arith) p.n few packed))

-- ---- the scheme

of_first_pass : (t : ℕ → Try) (κ m : ℕ) → Small (first_pass t κ m)
unfolding first_pass
of_first_pass t κ zero = record { index = omega arith }
of_first_pass t κ (suc m) = of_next (t κ) (first_pass t (suc κ) m) (of_first_pass t (suc κ) m)
  where
    of_next : (u : Try) (next : Result Signed) → Small next → Small (or_next u κ next)
    of_next (passes σ) next s = of_done
    of_next (fails r) next s = s

module _ (p : Set) (few : p.n ≤ 65536) (H : Hash) where
  drawn_a_lem : (ζ : List ℕ) → Small (expand_a p H ζ)
  unfolding expand_a
  drawn_a_lem ζ = of_drawn (sample_a p (H (ζ ++ two_bytes 0) p.astream))

  drawn_s_lem : (ξ : List ℕ) → Small (expand_s p H ξ)
  unfolding expand_s
  drawn_s_lem ξ = of_drawn (sample_s p (H ξ p.sstream))

  -- an element that is drawn, and what follows it
  of_a : {B : Type 0} (ζ : List ℕ) {k : List ℤ → Result B} → ((zs : List ℤ) → Small (k zs)) → Small (expand_a p H ζ >>= k)
  of_a ζ = of_bind (expand_a p H ζ) (drawn_a_lem ζ)

  of_s : {B : Type 0} (ξ : List ℕ) {k : List ℤ → Result B} → ((zs : List ℤ) → Small (k zs)) → Small (expand_s p H ξ >>= k)
  of_s ξ = of_bind (expand_s p H ξ) (drawn_s_lem ξ)

  of_key : (sk : List ℕ) → Small (read_key p H sk)
  unfolding read_key
  of_key sk = of_bind (read_secret p sk) (of_secret p few sk) (λ k. of_a k.zeta (λ a. of_done))

  of_signer : (sk M ρ : List ℕ) → Small (read_signer p H sk M ρ)
  unfolding read_signer
  of_signer sk M ρ = of_bind (read_key p H sk) (of_key sk) (λ k. of_done)

  of_sign_with : (sk M : List ℕ) (limit : ℕ) (out ρ : List ℕ) → Small (sign_with p H sk M limit out ρ)
  unfolding sign_with
  of_sign_with sk M limit out ρ =
      of_check (eqb (length sk) (secret_size p)) (Length SecretKey) refl
      (of_check (eqb (length out) (signature_size p)) (Length Signature) refl
      (of_check (leb (length M) message_max) LongMessage refl
      (of_check (leb 1 limit && leb limit try_max) TryLimit refl
      (of_bind (read_signer p H sk M ρ) (of_signer sk M ρ) (λ S. of_first_pass (try p H S) 0 limit)))))

  pub of_sign : (sk M : List ℕ) (limit : ℕ) (out : List ℕ) → Small (sign p H sk M limit out)
  unfolding sign
  of_sign sk M limit out = of_sign_with sk M limit out (rho_of p H sk M)

  of_pair : (ζ ζ' : List ℕ) → Small (make_pair p H ζ ζ')
  unfolding make_pair pair_from
  of_pair ζ ζ' =
      let seeds = seeds_of H ζ' in
      of_a ζ (λ a. of_s (bytes_of p part.Xi1 seeds) (λ s1. of_s (bytes_of p part.Xi2 seeds) (λ s2. of_done)))

  pub of_make_keys : (ζ ζ' public_out secret_out : List ℕ) → Small (make_keys p H ζ ζ' public_out secret_out)
  unfolding make_keys
  of_make_keys ζ ζ' public_out secret_out =
      of_check (eqb (length ζ) seed_size) (Length Zeta) refl
      (of_check (eqb (length ζ') seed_size) (Length ZetaPrime) refl
      (of_check (eqb (length public_out) (public_size p)) (Length PublicKey) refl
      (of_check (eqb (length secret_out) (secret_size p)) (Length SecretKey) refl (of_pair ζ ζ'))))

  pub of_checking : (pk σ M : List ℕ) → Small (check p H pk σ M)
  unfolding check
  of_checking pk σ M =
      of_check (eqb (length pk) (public_size p)) (Length PublicKey) refl
      (of_check (eqb (length σ) (signature_size p)) (Length Signature) refl
      (of_check (leb (length M) message_max) LongMessage refl
      (of_bind (read_public p pk) (of_public p few pk)
      (λ k. of_bind (read_signature p σ) (of_signature p few σ)
      (λ s. of_a k.zeta
      (λ a. of_bind (drawn (expand_c p H s.c~)) (of_drawn (expand_c p H s.c~))
      (λ c. of_last (same s.c~ (commit p H (mu_for H pk M) (use_hints p s.h (recomputed p a s.z c k.t1)))) Differs refl)))))))
