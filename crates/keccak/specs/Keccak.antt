-- KECCAK-p[1600, 24] of FIPS 202 (SPEC 4.1 to 4.7). Bit z of the lane A[x, y], worth 2 ^ z, is A[x, y, z] (FIPS 202, 3.1.2).
use Rattle.std.specs.Prelude.{ℕ, zero, suc, ◌+◌, ◌*◌, ◌/◌, ◌%◌, ◌-◌, ◌^◌, List, [], ◌∷◌, get_or}
use Rattle.std.specs.Int.Bits.{bit_xor, bit_and, bit_or}

-- SPEC 4.1: row y of what f gives
abbrev pub row : (ℕ → ℕ → ℕ) → ℕ → List ℕ
row f y = f 0 y ∷ f 1 y ∷ f 2 y ∷ f 3 y ∷ f 4 y ∷ []

-- SPEC 4.1: the state whose lane at x, y is f x y
abbrev pub state : (ℕ → ℕ → ℕ) → List (List ℕ)
state f = row f 0 ∷ row f 1 ∷ row f 2 ∷ row f 3 ∷ row f 4 ∷ []

-- SPEC 4.1: the lane A[x, y], places taken modulo 5
abbrev pub lane : List (List ℕ) → ℕ → ℕ → ℕ
lane a x y = get_or (get_or a (y % 5) []) (x % 5) 0

-- the lane x turned left by n, n below 64: its bit z is bit z - n modulo 64 of x (SPEC 4.2, 4.3)
abbrev pub rot : ℕ → ℕ → ℕ
rot zero x = x
rot (suc n) x = bit_or ((x * 2 ^ suc n) % 2 ^ 64) (x / 2 ^ (64 - suc n))

-- SPEC 4.2: C[x] of θ, the parity of a column, and D[x], what is xored into column x (FIPS 202, 3.2.1); x - 1 is x + 4 modulo 5
abbrev pub parity : List (List ℕ) → ℕ → ℕ
parity a x = bit_xor (bit_xor (bit_xor (bit_xor (lane a x 0) (lane a x 1)) (lane a x 2)) (lane a x 3)) (lane a x 4)

abbrev pub effect : List (List ℕ) → ℕ → ℕ
effect a x = bit_xor (parity a (x + 4)) (rot 1 (parity a (x + 1)))

unfoldable pub theta : List (List ℕ) → List (List ℕ)
theta a = state (λ x y. bit_xor (lane a x y) (effect a x))

-- SPEC 4.3: the offsets of ρ (FIPS 202, 3.2.2). `offsets_right` in Tables ties them to the walk
abbrev pub offsets : List (List ℕ)
offsets =
    (0 ∷ 1 ∷ 62 ∷ 28 ∷ 27 ∷ []) ∷
    (36 ∷ 44 ∷ 6 ∷ 55 ∷ 20 ∷ []) ∷
    (3 ∷ 10 ∷ 43 ∷ 25 ∷ 39 ∷ []) ∷
    (41 ∷ 45 ∷ 15 ∷ 21 ∷ 8 ∷ []) ∷
    (18 ∷ 2 ∷ 61 ∷ 56 ∷ 14 ∷ []) ∷ []

unfoldable pub rho : List (List ℕ) → List (List ℕ)
rho a = state (λ x y. rot (lane offsets x y) (lane a x y))

-- SPEC 4.4: π (FIPS 202, 3.2.3)
unfoldable pub pi : List (List ℕ) → List (List ℕ)
pi a = state (λ x y. lane a (x + 3 * y) x)

-- SPEC 4.5: χ (FIPS 202, 3.2.4)
unfoldable pub chi : List (List ℕ) → List (List ℕ)
chi a = state (λ x y. bit_xor (lane a x y) (bit_and ((2 ^ 64 - 1) - lane a (x + 1) y) (lane a (x + 2) y)))

-- SPEC 4.6: ι (FIPS 202, 3.2.5): the round's constant goes into the lane at 0, 0
abbrev pub at_origin : ℕ → ℕ → ℕ → ℕ → ℕ
at_origin rc v zero zero = bit_xor v rc
at_origin rc v zero (suc y) = v
at_origin rc v (suc x) y = v

unfoldable pub iota : ℕ → List (List ℕ) → List (List ℕ)
iota rc a = state (λ x y. at_origin rc (lane a x y) x y)

-- SPEC 4.7: a round (FIPS 202, 3.3)
unfoldable pub round : ℕ → List (List ℕ) → List (List ℕ)
round rc a = iota rc (chi (pi (rho (theta a))))

-- SPEC 4.6: the constants of the rounds 0 to 23 (FIPS 202, 3.2.5). `constants_right` in Tables ties them to the shift register
unfoldable pub constants : List ℕ
constants =
    0x0000000000000001 ∷ 0x0000000000008082 ∷ 0x800000000000808a ∷ 0x8000000080008000 ∷
    0x000000000000808b ∷ 0x0000000080000001 ∷ 0x8000000080008081 ∷ 0x8000000000008009 ∷
    0x000000000000008a ∷ 0x0000000000000088 ∷ 0x0000000080008009 ∷ 0x000000008000000a ∷
    0x000000008000808b ∷ 0x800000000000008b ∷ 0x8000000000008089 ∷ 0x8000000000008003 ∷
    0x8000000000008002 ∷ 0x8000000000000080 ∷ 0x000000000000800a ∷ 0x800000008000000a ∷
    0x8000000080008081 ∷ 0x8000000000008080 ∷ 0x0000000080000001 ∷ 0x8000000080008008 ∷ []

-- SPEC 4.7: a round for each constant, in order
unfoldable pub rounds : List ℕ → List (List ℕ) → List (List ℕ)
rounds [] a = a
rounds (rc ∷ rcs) a = rounds rcs (round rc a)

-- SPEC 4.7: the permutation (FIPS 202, 3.3, 3.4)
unfoldable pub keccak : List (List ℕ) → List (List ℕ)
keccak a = rounds constants a
