-- A few bytes of a number's bytes are a part of its bits.
use mathlib.Core.Path.{◌≡◌, refl, sym, ap, ◌∙◌}
use mathlib.Core.List.{List, [], ◌∷◌, ◌++◌}
use Prim.Native.Nat.{ℕ, zero, suc, ◌+◌, ◌-◌, ◌*◌, ◌/◌, ◌%◌, ◌^◌, ◌≤◌, ◌<◌, min}
use native.Mathlib.Nat.{div-one, mod-one, add-mul-div_left, add-mul-mod_self_left, div-eq_of_lt, mod-eq_of_lt, zero-add, zero-div, zero-mod, div-add-mod}
use native.Mathlib.Numerals.{add-one}
use native.Mathlib.Omega.{arith}
use lib.Dec.{lit<}
use lib.Pow.{shr-shr, field, mod-mod-pow, mod-pow-add, pow_mono}
use lib.ListN.{get_or, length, take, drop}
use Rattle.std.proofs.lemmas.List.{drop_min, take-take}
use Rattle.std.proofs.lemmas.Slice.{between_to_end}
use Rattle.std.specs.Int.{w32, from_le_bytes}
use Rattle.digits.specs.Digits.{value}
use Rattle.digits.proofs.Numbers.{Below, below_all}

tail_value : (x v : ℕ) → x < 256 → (x + 256 * v) / 2 ^ 8 ≡ v
tail_value x v h = add-mul-div_left x v {y = 256} (lit< tt) ∙ ap (λ (q : ℕ). q + v) (div-eq_of_lt h) ∙ zero-add v

pub value_drop : (j : ℕ) (bs : List ℕ) → Below 256 bs → value 256 bs / 2 ^ (8 * j) ≡ value 256 (drop j bs)
unfolding value
value_drop zero bs h = div-one (value 256 bs)
value_drop (suc j) [] h = zero-div (2 ^ (8 * suc j))
value_drop (suc j) (x ∷ xs) h =
    ap (λ (e : ℕ). (x + 256 * value 256 xs) / 2 ^ e) {x = 8 * suc j} {y = 8 + 8 * j} (omega arith) ∙
    sym (shr-shr (x + 256 * value 256 xs) 8 (8 * j)) ∙
    ap (λ (y : ℕ). y / 2 ^ (8 * j)) (tail_value x (value 256 xs) h.0) ∙
    value_drop j xs h.1

pub value_take : (g : ℕ) (bs : List ℕ) → Below 256 bs → value 256 bs % 2 ^ (8 * g) ≡ value 256 (take g bs)
unfolding value
value_take zero bs h = mod-one (value 256 bs)
value_take (suc g) [] h = zero-mod (2 ^ (8 * suc g))
value_take (suc g) (x ∷ xs) h =
    let r : (x + 256 * value 256 xs) % 2 ^ 8 ≡ x = add-mul-mod_self_left x 256 (value 256 xs) ∙ mod-eq_of_lt h.0 in
    let t = tail_value x (value 256 xs) h.0 in
    let i = value_take g xs h.1 in
    ap (λ (e : ℕ). (x + 256 * value 256 xs) % 2 ^ e) {x = 8 * suc g} {y = 8 * g + 8} (omega arith) ∙
    mod-pow-add (x + 256 * value 256 xs) (8 * g) 8 ∙
    rw (t, i, r) (omega arith)

pub below_drop : (j : ℕ) (bs : List ℕ) → Below 256 bs → Below 256 (drop j bs)
below_drop zero bs h = h
below_drop (suc j) [] h = tt
below_drop (suc j) (x ∷ xs) h = below_drop j xs h.1

-- the byte at a place, and those that follow
no_bytes : (g : ℕ) → value 256 (take g []) ≡ 0
unfolding value
no_bytes zero = refl
no_bytes (suc g) = refl

first_byte : (g j : ℕ) (bs : List ℕ) → value 256 (take (suc g) (drop j bs)) ≡ get_or bs j 0 + 256 * value 256 (take g (drop (suc j) bs))
unfolding value
first_byte g zero [] = omega (arith, no_bytes g)
first_byte g zero (x ∷ xs) = refl
first_byte g (suc j) [] = omega (arith, no_bytes g)
first_byte g (suc j) (x ∷ xs) = first_byte g j xs

pub four_bytes : (bs : List ℕ) (j : ℕ)
    → value 256 (take 4 (drop j bs)) ≡ get_or bs j 0 + 256 * (get_or bs (j + 1) 0 + 256 * (get_or bs (j + 2) 0 + 256 * get_or bs (j + 3) 0))
unfolding value
four_bytes bs j =
    let d = last (suc (suc (suc j))) in
    let c = first_byte 1 (suc (suc j)) bs in
    let b = first_byte 2 (suc j) bs in
    let a = first_byte 3 j bs in
    rw (add-one j, add_two j, add_three j) (omega (arith, a, b, c, d))
  where
    last : (k : ℕ) → value 256 (take 1 (drop k bs)) ≡ get_or bs k 0
    last k = first_byte 0 k bs ∙ omega arith

    add_two : (j : ℕ) → j + 2 ≡ suc (suc j)
    add_two j = omega arith

    add_three : (j : ℕ) → j + 3 ≡ suc (suc (suc j))
    add_three j = omega arith

-- what `u32::from_le_bytes` reads of the four bytes from a place on
pub le_value_at : (bs : List ℕ) (j : ℕ)
    → from_le_bytes w32 (get_or bs j 0 ∷ get_or bs (j + 1) 0 ∷ get_or bs (j + 2) 0 ∷ get_or bs (j + 3) 0 ∷ []) ≡ value 256 (take 4 (drop j bs))
le_value_at bs j = omega (arith, four_bytes bs j)

-- what `u32::from_le_bytes` reads, of the first four bytes, or of fewer with zeros behind them
le_value : (bs : List ℕ) → from_le_bytes w32 bs ≡ value 256 (take 4 bs)
le_value bs = omega (arith, four_bytes bs 0)

pub le_value_first : (bs : List ℕ) → from_le_bytes w32 (take 4 bs) ≡ value 256 (take 4 bs)
le_value_first bs = le_value (take 4 bs) ∙ ap (value 256) (take-take 4 4 bs (omega arith))

pub le_value_filled : (bs : List ℕ) → length bs < 4 → from_le_bytes w32 (bs ++ drop (length bs) (0 ∷ 0 ∷ 0 ∷ 0 ∷ [])) ≡ value 256 (take 4 bs)
le_value_filled [] h = le_value []
le_value_filled (a ∷ []) h = le_value (a ∷ [])
le_value_filled (a ∷ b ∷ []) h = le_value (a ∷ b ∷ [])
le_value_filled (a ∷ b ∷ c ∷ []) h = le_value (a ∷ b ∷ c ∷ [])
le_value_filled (a ∷ b ∷ c ∷ d ∷ bs) h = absurd (omega arith)

-- 1 << w, of a word of b numbers that has room for it
pub one_shifted_in : (b m w : ℕ) → 2 ^ m < b → w ≤ m → 1 * 2 ^ w % b ≡ 2 ^ w
one_shifted_in b m w h l =
    let k : 2 ^ w ≤ 2 ^ m = pow_mono l in
    ap (λ (x : ℕ). x % b) {x = 1 * 2 ^ w} {y = 2 ^ w} (omega arith) ∙ mod-eq_of_lt (omega arith)

-- of a 32-bit word
pub one_shifted : (w : ℕ) → w ≤ 25 → 1 * 2 ^ w % 4294967296 ≡ 2 ^ w
one_shifted w l = one_shifted_in 4294967296 25 w (omega arith) l

-- a field of w bits from bit p on, found in the four bytes from byte p / 8 on
pub field_in_window : (bs : List ℕ) (w p : ℕ) → w ≤ 25 → ((k : ℕ) → get_or bs k 0 < 256)
    → value 256 (take 4 (drop (p / 8) bs)) / 2 ^ (p % 8) % 2 ^ w ≡ value 256 bs / 2 ^ p % 2 ^ w
field_in_window bs w p l small =
    ap (λ (y : ℕ). y / 2 ^ r % 2 ^ w) (sym (value_take 4 (drop j bs) (below_drop j bs b)) ∙ ap (λ (y : ℕ). y % 2 ^ 32) (sym (value_drop j bs b))) ∙
    ap (λ (e : ℕ). X % 2 ^ e / 2 ^ r % 2 ^ w) {x = 32} {y = (32 - r - w) + w + r} (omega arith) ∙
    ap (λ (y : ℕ). y % 2 ^ w) (field X ((32 - r - w) + w) r) ∙
    mod-mod-pow (X / 2 ^ r) (32 - r - w) w ∙
    ap (λ (y : ℕ). y % 2 ^ w) (shr-shr (value 256 bs) (8 * j) r ∙ ap (λ (e : ℕ). value 256 bs / 2 ^ e) {x = 8 * j + r} {y = p} (div-add-mod p 8))
  where
    j : ℕ
    j = p / 8

    r : ℕ
    r = p % 8

    X : ℕ
    X = value 256 bs / 2 ^ (8 * j)

    b : Below 256 bs
    b = below_all 256 bs small
