-- SHAKE256 of FIPS 202 (SPEC 4.8 to 4.11) on strings of whole bytes, lists of numbers below 256: bit 8 i + j of the string is the bit of byte i
-- that is worth 2 ^ j (FIPS 202, B.1).
use Rattle.std.specs.Prelude.{ℕ, zero, suc, ◌+◌, ◌*◌, ◌/◌, ◌%◌, ◌-◌, ◌^◌, List, [], ◌∷◌, ◌++◌, get_or, take, drop, length, replicate}
use Rattle.std.specs.Int.Bits.{bit_xor}
use Rattle.keccak.specs.Keccak.{keccak, state, lane}

-- SPEC 4.9: the rate in bytes: 1600 bits of state less a capacity of 512 (FIPS 202, 5.2, 6.2)
abbrev pub rate : ℕ
rate = (1600 - 512) / 8

-- ---- the message, padded

-- SPEC 4.9: the suffix and the padding in the q bytes that are left of a block, 1 ≤ q ≤ rate (FIPS 202, B.2). `padding_right` in Padding ties them to
-- the bits
abbrev pub pad : ℕ → List ℕ
pad zero = []
pad (suc zero) = 0x9f ∷ []
pad (suc (suc k)) = 0x1f ∷ replicate k 0 ++ (0x80 ∷ [])

-- SPEC 4.9: the message, padded
unfoldable pub padded : List ℕ → List ℕ
padded m = m ++ pad (rate - length m % rate)

-- ---- strings as states and states as strings (SPEC 4.8; FIPS 202, 3.1.2, 3.1.3)

-- SPEC 4.8: the lane that starts at byte i of p, which has zeros after it
unfoldable pub word : List ℕ → ℕ → ℕ
word p i =
    get_or p i 0 + get_or p (i + 1) 0 * 2 ^ 8 + get_or p (i + 2) 0 * 2 ^ 16 + get_or p (i + 3) 0 * 2 ^ 24 +
    get_or p (i + 4) 0 * 2 ^ 32 + get_or p (i + 5) 0 * 2 ^ 40 + get_or p (i + 6) 0 * 2 ^ 48 + get_or p (i + 7) 0 * 2 ^ 56

-- SPEC 4.8: byte i of a state
abbrev pub byte_at : List (List ℕ) → ℕ → ℕ
byte_at s i = lane s (i / 8 % 5) (i / 8 / 5) / 2 ^ (8 * (i % 8)) % 256

-- SPEC 4.8: n bytes of a state, from byte i on
unfoldable pub bytes : ℕ → ℕ → List (List ℕ) → List ℕ
bytes zero i s = []
bytes (suc n) i s = byte_at s i ∷ bytes n (i + 1) s

-- ---- the sponge (SPEC 4.10; FIPS 202, section 4)

-- SPEC 4.10: the state with the block p xored into its first 136 bytes
unfoldable pub xored : List (List ℕ) → List ℕ → List (List ℕ)
xored s p = state (λ x y. bit_xor (lane s x y) (word p (8 * (5 * y + x))))

-- SPEC 4.10: the state after n blocks of p
unfoldable pub absorbed : ℕ → List ℕ → List (List ℕ) → List (List ℕ)
absorbed zero p s = s
absorbed (suc n) p s = absorbed n (drop rate p) (keccak (xored s (take rate p)))

-- SPEC 4.10: n blocks of output, with a permutation after each
unfoldable pub squeezed : ℕ → List (List ℕ) → List ℕ
squeezed zero s = []
squeezed (suc n) s = bytes rate 0 s ++ squeezed n (keccak s)

-- SPEC 4.10: the zero state
abbrev pub zeros : List (List ℕ)
zeros = state (λ x y. 0)

-- SPEC 4.11: the first n bytes of SHAKE256 on m (FIPS 202, 6.2)
unfoldable pub shake256 : List ℕ → ℕ → List ℕ
shake256 m n = take n (squeezed (n / rate + 1) (absorbed (length m / rate + 1) (padded m) zeros))
