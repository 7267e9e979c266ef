-- Checking (SPEC 9), on raw bytes.
use Rattle.std.specs.Prelude.{ℕ, ◌^◌, Bool, true, false, ◌&&◌, List, [], ◌∷◌, eqb, leb, length, ℤ, pos}
use Rattle.sets.specs.Set.{message_max, Set}
use Rattle.answers.specs.declared.Buffer.TheVariants.{PublicKey as PublicBuffer, Signature as SignatureBuffer}
use Rattle.answers.specs.declared.Refusal.TheVariants.{Length, LongMessage, Differs}
use Rattle.answers.specs.Result.{Result, ◌>>=◌, ◌>>◌, need}
use Rattle.ring.specs.Profile.{mul}
use Rattle.packing.specs.Parts.{read_public, read_signature, public_size, signature_size}
use Rattle.sampling.specs.Samplers.{drawn}
use Rattle.streams.specs.Streams.{Hash, expand_a, expand_c}
use Rattle.scheme.specs.Elements.{minus, scaled, use_hints}
use Rattle.scheme.specs.Keys.{ph_of}
use Rattle.scheme.specs.Try.{commit}
use Rattle.scheme.specs.Sign.{mu}

-- the same bytes
unfoldable pub same : List ℕ → List ℕ → Bool
same [] [] = true
same [] (y ∷ ys) = false
same (x ∷ xs) [] = false
same (x ∷ xs) (y ∷ ys) = eqb x y && same xs ys

-- SPEC 9.3: a·z - c·t1·2^d
abbrev pub recomputed : Set → List ℤ → List ℤ → List ℤ → List ℤ → List ℤ
recomputed p a z c t1 = minus p (mul p a z) (scaled p (pos (2 ^ p.d)) (mul p c t1))

-- SPEC 9.2: μ, with ph from the public key's bytes
abbrev pub mu_for : Hash → List ℕ → List ℕ → List ℕ
mu_for H pk M = mu H (ph_of H pk) M

-- SPEC 9.1, 9.4, 9.5: checks in the order of their numbers, and the comparison last
unfoldable pub check : Set → Hash → List ℕ → List ℕ → List ℕ → Result (Unit {0})
check p H pk σ M =
    do
      need (eqb (length pk) (public_size p)) (Length PublicBuffer)
      need (eqb (length σ) (signature_size p)) (Length SignatureBuffer)
      need (leb (length M) message_max) LongMessage
      k ← read_public p pk
      s ← read_signature p σ
      a ← expand_a p H k.zeta
      c ← drawn (expand_c p H s.c~)
      need (same s.c~ (commit p H (mu_for H pk M) (use_hints p s.h (recomputed p a s.z c k.t1)))) Differs
