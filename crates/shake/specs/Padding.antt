-- The padding bytes of Shake are the bits of SPEC 4.9: the suffix 1111 (FIPS 202, 6.2) and then pad10*1 (FIPS 202, 5.1).
use Rattle.std.specs.Prelude.{ℕ, zero, suc, ◌+◌, ◌*◌, ◌/◌, ◌%◌, ◌-◌, ◌≡◌, refl, Bool, true, false, ◌&&◌, List, [], ◌∷◌, ◌++◌, eqb, replicate}
use Rattle.shake.specs.Shake.{rate, pad}

-- the n low bits of a number, lowest first
abbrev low_bits : ℕ → ℕ → List ℕ
low_bits zero v = []
low_bits (suc n) v = v % 2 ∷ low_bits n (v / 2)

-- a string of bytes in bits (FIPS 202, B.1)
abbrev bits : List ℕ → List ℕ
bits [] = []
bits (b ∷ p) = low_bits 8 b ++ bits p

-- pad10*1 (x, m), for m from 0 to x: j = (- m - 2) mod x
abbrev pad10*1 : ℕ → ℕ → List ℕ
pad10*1 x m = 1 ∷ replicate ((2 * x - m - 2) % x) 0 ++ (1 ∷ [])

abbrev equal : List ℕ → List ℕ → Bool
equal [] [] = true
equal [] (b ∷ q) = false
equal (a ∷ p) [] = false
equal (a ∷ p) (b ∷ q) = eqb a b && equal p q

-- where q bytes of a block are left, the message has the other bytes and the suffix four bits
abbrev right : ℕ → Bool
right zero = true
right (suc q) = equal (bits (pad (suc q))) (1 ∷ 1 ∷ 1 ∷ 1 ∷ pad10*1 (8 * rate) (8 * (rate - suc q) + 4)) && right q

pub padding_right : right rate ≡ true
padding_right = refl
