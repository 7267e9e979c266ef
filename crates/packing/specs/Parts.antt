-- Keys and signatures as wholes: parts one after the other (SPEC 6.7 to 6.10).
use Rattle.std.specs.Prelude.{ℕ, ◌+◌, List, [], ◌∷◌, ◌++◌, take, drop, get_or, ℤ}
use Rattle.sets.specs.Set.{Set, seed_size, hash_size}
use Rattle.answers.specs.declared.Field.{Field}
use Rattle.answers.specs.declared.Field.TheVariants as field
use Rattle.answers.specs.declared.Refusal.TheVariants.{Coefficient}
use Rattle.answers.specs.Result.{Result, done, ◌>>=◌}
use Rattle.layouts.specs.Layouts.{t1_layout, t0_layout, s_layout, z_layout, hint_layout, layout_of, size, pack, unpack}
use Rattle.layouts.specs.Hints.{read_hints}
use Rattle.packing.specs.declared.parts.Whole.{Whole}
use Rattle.packing.specs.declared.parts.Whole.TheVariants as whole
use Rattle.packing.specs.declared.parts.Part.{Part}
use Rattle.packing.specs.declared.parts.Part.TheVariants.{PublicZeta, T1, SecretZeta, Ph, K, S1, S2, T0, Commitment, Z, Hints, Xi1, Xi2, NewK}

-- parts of given lengths, one after the other, and back
unfoldable pub cut : List ℕ → List ℕ → List (List ℕ)
cut [] bs = []
cut (m ∷ ms) bs = take m bs ∷ cut ms (drop m bs)

unfoldable pub join : List (List ℕ) → List ℕ
join [] = []
join (p ∷ ps) = p ++ join ps

unfoldable pub total : List ℕ → ℕ
total [] = 0
total (m ∷ ms) = m + total ms

-- part i
abbrev pub part : List ℕ → ℕ → List ℕ → List ℕ
part ms i bs = get_or (cut ms bs) i []

-- SPEC 6.7: ζ, t1
abbrev pub public_parts : Set → List ℕ
public_parts p = seed_size ∷ size (t1_layout p) p.n ∷ []

-- SPEC 6.8: ζ, ph, K, s1, s2, t0
abbrev pub secret_parts : Set → List ℕ
secret_parts p = seed_size ∷ hash_size ∷ seed_size ∷ size (s_layout p) p.n ∷ size (s_layout p) p.n ∷ size (t0_layout p) p.n ∷ []

-- SPEC 6.9: c̃, z, the hints
abbrev pub signature_parts : Set → List ℕ
signature_parts p = hash_size ∷ size (z_layout p) p.n ∷ size hint_layout p.n ∷ []

-- SPEC 7.1: ξ1, ξ2, K, as ζ' gives them
abbrev pub seed_parts : List ℕ
seed_parts = seed_size ∷ seed_size ∷ seed_size ∷ []

-- how long each of them is
abbrev pub public_size : Set → ℕ
public_size p = total (public_parts p)

abbrev pub secret_size : Set → ℕ
secret_size p = total (secret_parts p)

abbrev pub signature_size : Set → ℕ
signature_size p = total (signature_parts p)

abbrev pub seeds_size : ℕ
seeds_size = total seed_parts

-- the parts by name: the whole that each belongs to, and which of its parts it is
abbrev pub whole_of : Part → Whole
whole_of PublicZeta = whole.PublicKey
whole_of T1 = whole.PublicKey
whole_of SecretZeta = whole.SecretKey
whole_of Ph = whole.SecretKey
whole_of K = whole.SecretKey
whole_of S1 = whole.SecretKey
whole_of S2 = whole.SecretKey
whole_of T0 = whole.SecretKey
whole_of Commitment = whole.Signature
whole_of Z = whole.Signature
whole_of Hints = whole.Signature
whole_of Xi1 = whole.Seeds
whole_of Xi2 = whole.Seeds
whole_of NewK = whole.Seeds

abbrev pub rank : Part → ℕ
rank PublicZeta = 0
rank T1 = 1
rank SecretZeta = 0
rank Ph = 1
rank K = 2
rank S1 = 3
rank S2 = 4
rank T0 = 5
rank Commitment = 0
rank Z = 1
rank Hints = 2
rank Xi1 = 0
rank Xi2 = 1
rank NewK = 2

abbrev pub parts_in : Set → Whole → List ℕ
parts_in p whole.PublicKey = public_parts p
parts_in p whole.SecretKey = secret_parts p
parts_in p whole.Signature = signature_parts p
parts_in p whole.Seeds = seed_parts

abbrev pub parts_of : Set → Part → List ℕ
parts_of p x = parts_in p (whole_of x)

-- the bytes of a part in its whole
abbrev pub bytes_of : Set → Part → List ℕ → List ℕ
bytes_of p x bs = part (parts_of p x) (rank x) bs

-- a field of coefficients, read from its part
abbrev pub field_in : Set → Field → Part → List ℕ → Result (List ℤ)
field_in p f x bs = unpack (layout_of p f) (Coefficient f) p.n (bytes_of p x bs)

pub record PublicKey : Type 0 where
  pub zeta : List ℕ
  pub t1 : List ℤ

pub record SecretKey : Type 0 where
  pub zeta : List ℕ
  pub ph : List ℕ
  pub k : List ℕ
  pub s1 : List ℤ
  pub s2 : List ℤ
  pub t0 : List ℤ

pub record Signature : Type 0 where
  pub c~ : List ℕ
  pub z : List ℤ
  pub h : List ℤ

abbrev pub pack_public : Set → PublicKey → List ℕ
pack_public p k = join (k.zeta ∷ pack (t1_layout p) p.n k.t1 ∷ [])

abbrev pub pack_secret : Set → SecretKey → List ℕ
pack_secret p k =
    join
    (k.zeta ∷ k.ph ∷ k.k ∷
    pack (s_layout p) p.n k.s1 ∷ pack (s_layout p) p.n k.s2 ∷ pack (t0_layout p) p.n k.t0 ∷ [])

abbrev pub pack_signature : Set → Signature → List ℕ
pack_signature p σ = join (σ.c~ ∷ pack (z_layout p) p.n σ.z ∷ pack hint_layout p.n σ.h ∷ [])

unfoldable pub read_public : Set → List ℕ → Result PublicKey
read_public p bs =
    do
      t1 ← field_in p field.T1 T1 bs
      done record { zeta = bytes_of p PublicZeta bs; t1 = t1 }

-- SPEC 6.10: s1 is read before s2 and s2 before t0
unfoldable pub read_secret : Set → List ℕ → Result SecretKey
read_secret p bs =
    do
      s1 ← field_in p field.S1 S1 bs
      s2 ← field_in p field.S2 S2 bs
      t0 ← field_in p field.T0 T0 bs
      done record {
        zeta = bytes_of p SecretZeta bs;
        ph = bytes_of p Ph bs;
        k = bytes_of p K bs;
        s1 = s1;
        s2 = s2;
        t0 = t0;
      }

unfoldable pub read_signature : Set → List ℕ → Result Signature
read_signature p bs =
    do
      z ← field_in p field.Z Z bs
      h ← read_hints p (bytes_of p Hints bs)
      done record { c~ = bytes_of p Commitment bs; z = z; h = h }
