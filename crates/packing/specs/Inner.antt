-- Inner: lengths and places of parts as the functions inside count them. No definition, and no promise of a public entry, rests on this file.
use Rattle.std.specs.Prelude.{List, [], ◌∷◌, ◌++◌, ℕ, ◌+◌, length, get_or, take, drop}
use Rattle.sets.specs.Set.{Set, seed_size, hash_size}
use Rattle.layouts.specs.Layouts.{t1_layout, t0_layout, s_layout, z_layout, hint_layout, size}
use Rattle.packing.specs.declared.parts.Part.{Part}
use Rattle.packing.specs.declared.parts.Whole.{Whole}
use Rattle.packing.specs.declared.parts.Whole.TheVariants.{PublicKey, SecretKey, Signature, Seeds}
use Rattle.packing.specs.Parts.{total, parts_of, rank}

-- the lengths of a whole's parts, six of them, with 0 past the last
abbrev pub lengths : Set → Whole → List ℕ
lengths p PublicKey = seed_size ∷ size (t1_layout p) p.n ∷ 0 ∷ 0 ∷ 0 ∷ 0 ∷ []
lengths p SecretKey = seed_size ∷ hash_size ∷ seed_size ∷ size (s_layout p) p.n ∷ size (s_layout p) p.n ∷ size (t0_layout p) p.n ∷ []
lengths p Signature = hash_size ∷ size (z_layout p) p.n ∷ size hint_layout p.n ∷ 0 ∷ 0 ∷ 0 ∷ []
lengths p Seeds = seed_size ∷ seed_size ∷ seed_size ∷ 0 ∷ 0 ∷ 0 ∷ []

-- how long a part is, and where it starts
abbrev pub size_in : Set → Part → ℕ
size_in p x = get_or (parts_of p x) (rank x) 0

abbrev pub start_in : Set → Part → ℕ
start_in p x = total (take (rank x) (parts_of p x))

-- old, with new from place `at` on
abbrev pub put : ℕ → List ℕ → List ℕ → List ℕ
put at new old = take at old ++ (new ++ drop (at + length new) old)
