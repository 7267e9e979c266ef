-- Inner: how the code holds the state, six lanes complemented. No definition, and no promise of a public entry, rests on this file.
-- proofs/Complement shows that its rounds are those of SPEC 4.7.
use Rattle.std.specs.Prelude.{ℕ, ◌+◌, ◌*◌, ◌-◌, ◌^◌, ◌%◌, Bool, true, false, not, List, [], ◌∷◌, eqb, get_or}
use Rattle.std.specs.Int.Bits.{bit_xor, bit_and, bit_or}
use Rattle.keccak.specs.Keccak.{state, lane, rot, effect, offsets, at_origin}

-- a lane, complemented or not
abbrev pub signed : Bool → ℕ → ℕ
signed true v = (2 ^ 64 - 1) - v
signed false v = v

-- 1 at the lanes that are held complemented
abbrev pub held : List (List ℕ)
held =
    (0 ∷ 1 ∷ 1 ∷ 0 ∷ 0 ∷ []) ∷
    (0 ∷ 0 ∷ 0 ∷ 1 ∷ 0 ∷ []) ∷
    (0 ∷ 0 ∷ 1 ∷ 0 ∷ 0 ∷ []) ∷
    (0 ∷ 0 ∷ 1 ∷ 0 ∷ 0 ∷ []) ∷
    (1 ∷ 0 ∷ 0 ∷ 0 ∷ 0 ∷ []) ∷ []

abbrev pub sign : ℕ → ℕ → Bool
sign x y = eqb (lane held x y) 1

abbrev pub flipped : List (List ℕ) → List (List ℕ)
flipped a = state (λ x y. signed (sign x y) (lane a x y))

-- D of θ for each column
abbrev pub effects : List (List ℕ) → List ℕ
effects a = effect a 0 ∷ effect a 1 ∷ effect a 2 ∷ effect a 3 ∷ effect a 4 ∷ []

-- the exclusive or of two lanes is complemented where one of the two is
abbrev pub differs : Bool → Bool → Bool
differs true s = not s
differs false s = s

abbrev pub parity_sign : ℕ → Bool
parity_sign x = differs (differs (differs (differs (sign x 0) (sign x 1)) (sign x 2)) (sign x 3)) (sign x 4)

abbrev pub effect_sign : ℕ → Bool
effect_sign x = differs (parity_sign (x + 4)) (parity_sign (x + 1))

-- the lane that θ, with the effects d, ρ and π put at x, y, and whether it is complemented
abbrev pub moved : List ℕ → List (List ℕ) → ℕ → ℕ → ℕ
moved d a x y = rot (lane offsets (x + 3 * y) x) (bit_xor (lane a (x + 3 * y) x) (get_or d ((x + 3 * y) % 5) 0))

abbrev pub moved_sign : ℕ → ℕ → Bool
moved_sign x y = differs (sign (x + 3 * y) x) (effect_sign ((x + 3 * y) % 5))

-- χ's and of the complement of u with v, from the two as they are held, which s and t say. The first argument says whether it is to be held complemented: then it is an or
abbrev pub gate : Bool → Bool → Bool → ℕ → ℕ → ℕ
gate false s t u v = bit_and (signed (not s) u) (signed t v)
gate true s t u v = bit_or (signed s u) (signed (not t) v)

-- the lane at x, y after a round, as it is held
abbrev pub held_lane : ℕ → List ℕ → List (List ℕ) → ℕ → ℕ → ℕ
held_lane rc d a x y =
    at_origin rc
    (bit_xor (moved d a x y)
    (gate (differs (moved_sign x y) (sign x y)) (moved_sign (x + 1) y) (moved_sign (x + 2) y) (moved d a (x + 1) y) (moved d a (x + 2) y)))
    x
    y

unfoldable pub held_round : ℕ → List (List ℕ) → List (List ℕ)
held_round rc a = state (held_lane rc (effects a) a)
