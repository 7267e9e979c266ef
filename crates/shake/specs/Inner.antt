-- Inner: what the functions inside make and leave. No definition, and no promise of a public entry, rests on this file.
use Rattle.std.specs.Prelude.{ℕ, ◌+◌, ◌*◌, ◌/◌, List, [], ◌∷◌, ◌++◌, get_or, drop, length}
use Rattle.std.specs.Int.{to_le_bytes, w64}
use Rattle.std.specs.Int.Bits.{bit_xor}
use Rattle.shake.specs.Shake.{rate, absorbed, word}

-- the lane at x, y of a state with the block p xored in, where row y of the state is r
abbrev pub mixed : List ℕ → List ℕ → ℕ → ℕ → ℕ
mixed r p x y = bit_xor (get_or r x 0) (word p (8 * (5 * y + x)))

-- the bytes of each lane of a row
abbrev pub lanes_bytes : List ℕ → List (List ℕ)
lanes_bytes r =
    to_le_bytes w64 (get_or r 0 0) ∷ to_le_bytes w64 (get_or r 1 0) ∷ to_le_bytes w64 (get_or r 2 0) ∷ to_le_bytes w64 (get_or r 3 0) ∷ to_le_bytes w64 (get_or r 4 0) ∷ []

-- the state after every whole block of p, and the bytes after them
unfoldable pub whole : List ℕ → List (List ℕ) → List (List ℕ)
whole p s = absorbed (length p / rate) p s

unfoldable pub left : List ℕ → List ℕ
left p = drop (length p / rate * rate) p

-- the sponge s, which is a state and the bytes that wait to fill a block, after it has taken in m
unfoldable pub taken : List (List ℕ) × List ℕ → List ℕ → List (List ℕ) × List ℕ
taken s m = (whole (s.1 ++ m) s.0, left (s.1 ++ m))
