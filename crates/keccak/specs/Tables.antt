-- The tables of Keccak are those that their rules give: the round constants by the shift register (SPEC 4.6), the offsets by the walk (SPEC 4.3).
use Rattle.std.specs.Prelude.{ℕ, zero, suc, ◌+◌, ◌*◌, ◌/◌, ◌%◌, ◌-◌, ◌^◌, ◌≡◌, refl, Bool, true, false, ◌&&◌, List, [], ◌∷◌, ltb, eqb}
use Rattle.std.specs.Int.Bits.{bit_xor}
use Rattle.keccak.specs.Keccak.{constants, offsets, lane}

-- SPEC 4.6: the register is shifted, and has 0x171 xored in where it overflows eight bits, which takes 256 off and xors 0x71 in
abbrev reduced : Bool → ℕ → ℕ
reduced true r = r
reduced false r = bit_xor (r - 256) 0x71

abbrev lfsr : ℕ → ℕ
lfsr zero = 1
lfsr (suc t) = reduced (ltb (lfsr t * 2) 256) (lfsr t * 2)

-- SPEC 4.6: rc(t). The register comes back to 1 after 255 steps (FIPS 202, 3.2.5)
abbrev rc : ℕ → ℕ
rc t = lfsr (t % 255) % 2

-- SPEC 4.6: the constant of round i
abbrev constant : ℕ → ℕ
constant i =
    rc (0 + 7 * i) * 2 ^ 0 + rc (1 + 7 * i) * 2 ^ 1 + rc (2 + 7 * i) * 2 ^ 3 + rc (3 + 7 * i) * 2 ^ 7 +
    rc (4 + 7 * i) * 2 ^ 15 + rc (5 + 7 * i) * 2 ^ 31 + rc (6 + 7 * i) * 2 ^ 63

abbrev from : ℕ → ℕ → List ℕ
from zero i = []
from (suc n) i = constant i ∷ from n (i + 1)

pub constants_right : from 24 0 ≡ constants
unfolding constants
constants_right = refl

-- SPEC 4.3: n steps of the walk, from step t at x, y
abbrev walk : ℕ → ℕ → ℕ → ℕ → Bool
walk zero t x y = true
walk (suc n) t x y = eqb (lane offsets x y) ((t + 1) * (t + 2) / 2 % 64) && walk n (t + 1) y ((2 * x + 3 * y) % 5)

pub offsets_right : walk 24 0 1 0 ≡ true
offsets_right = refl
