-- Bitwise operations on lanes, and on their complements. Assumes nothing.
use Prim.Native.Nat.{ℕ, zero, suc, ◌+◌, ◌*◌, ◌/◌, ◌%◌, ◌-◌, ◌^◌, ◌≤◌, ◌<◌}
use mathlib.Core.Path.{◌≡◌, refl, ◌∙◌, sym, ap, subst}
use native.Mathlib.Omega.{arith}
use native.Mathlib.Nat.{add_comm, add-mul, add-zero, mod-lt, mul-mod_left}
use lib.Bits.{bit_xor, bit_and, bit_or, xor_assoc, xor_comm, xor_lt, or_lt, and_mask, xor_add_and, or_add_and, or_shifted}
use lib.Pow.{mod-pow-add, shl-shr, shr_lt, shr_le, low, high, split, ones_split, pow_pos}
use Rattle.keccak.specs.Keccak.{rot}

-- ---- the complement of 64 bits

not_xor : (v : ℕ) → v < 2 ^ 64 → (2 ^ 64 - 1) - v ≡ bit_xor v (2 ^ 64 - 1)
not_xor v h = omega (arith, xor_add_and v (2 ^ 64 - 1), and_mask v 64)

pub xor_not_l : (v w : ℕ) → v < 2 ^ 64 → w < 2 ^ 64 → bit_xor ((2 ^ 64 - 1) - v) w ≡ (2 ^ 64 - 1) - bit_xor v w
xor_not_l v w hv hw =
    ap (λ (n : ℕ). bit_xor n w) (not_xor v hv) ∙ xor_assoc v (2 ^ 64 - 1) w ∙
    ap (bit_xor v) (xor_comm (2 ^ 64 - 1) w) ∙ sym (xor_assoc v w (2 ^ 64 - 1)) ∙ sym (not_xor (bit_xor v w) (xor_lt 64 v w hv hw))

pub xor_not_r : (v w : ℕ) → v < 2 ^ 64 → w < 2 ^ 64 → bit_xor v ((2 ^ 64 - 1) - w) ≡ (2 ^ 64 - 1) - bit_xor v w
xor_not_r v w hv hw =
    xor_comm v ((2 ^ 64 - 1) - w) ∙ xor_not_l w v hw hv ∙ ap (λ (n : ℕ). (2 ^ 64 - 1) - n) (xor_comm w v)

-- De Morgan's law, by counting: or and and make the sum, and so do exclusive or and twice and
pub or_not : (v w : ℕ) → v < 2 ^ 64 → w < 2 ^ 64 → bit_or v ((2 ^ 64 - 1) - w) ≡ (2 ^ 64 - 1) - bit_and ((2 ^ 64 - 1) - v) w
or_not v w hv hw =
    omega (
      arith,
      or_add_and v ((2 ^ 64 - 1) - w),
      xor_add_and v ((2 ^ 64 - 1) - w),
      xor_add_and ((2 ^ 64 - 1) - v) w,
      xor_not_l v w hv hw,
      xor_not_r v w hv hw,
      xor_lt 64 v w hv hw,
    )

-- ---- turning by k bits, of k + j

-- the parts of a complement
not_parts : (k j hi lo : ℕ) → hi < 2 ^ k → lo < 2 ^ j → (2 ^ (k + j) - 1) - (hi * 2 ^ j + lo) ≡ ((2 ^ k - 1) - hi) * 2 ^ j + ((2 ^ j - 1) - lo)
not_parts k j hi lo hh hl =
    let e : (2 ^ k - 1) - hi + hi ≡ 2 ^ k - 1 = omega arith in
    let f : ((2 ^ k - 1) - hi) * 2 ^ j + hi * 2 ^ j ≡ (2 ^ k - 1) * 2 ^ j = sym (add-mul ((2 ^ k - 1) - hi) hi (2 ^ j)) ∙ ap (λ (n : ℕ). n * 2 ^ j) e in
    omega (arith, ones_split k j, f)

turn : ℕ → ℕ → ℕ → ℕ
turn k j v = bit_or ((v * 2 ^ k) % 2 ^ (k + j)) (v / 2 ^ j)

turn_parts : (k j v : ℕ) → v < 2 ^ (k + j) → turn k j v ≡ (v % 2 ^ j) * 2 ^ k + v / 2 ^ j
unfolding turn
turn_parts k j v h =
    let e : (v * 2 ^ k) % 2 ^ (k + j) ≡ (v % 2 ^ j) * 2 ^ k =
    ap (λ (n : ℕ). (v * 2 ^ k) % 2 ^ n) (add_comm k j) ∙ mod-pow-add (v * 2 ^ k) j k ∙
    ap (λ (n : ℕ). (n % 2 ^ j) * 2 ^ k + v * 2 ^ k % 2 ^ k) (shl-shr v k) ∙
    ap (λ (n : ℕ). (v % 2 ^ j) * 2 ^ k + n) (mul-mod_left v (2 ^ k)) ∙ add-zero ((v % 2 ^ j) * 2 ^ k) in
    ap (λ (n : ℕ). bit_or n (v / 2 ^ j)) e ∙ or_shifted (v % 2 ^ j) k (v / 2 ^ j) (shr_lt k j h)

turn_not : (k j v : ℕ) → v < 2 ^ (k + j) → turn k j ((2 ^ (k + j) - 1) - v) ≡ (2 ^ (k + j) - 1) - turn k j v
turn_not k j v h =
    let hi = v / 2 ^ j in
    let lo = v % 2 ^ j in
    let hh : hi < 2 ^ k = shr_lt k j h in
    let hl : lo < 2 ^ j = mod-lt v (pow_pos j) in
    let hh' : (2 ^ k - 1) - hi < 2 ^ k = omega (arith, pow_pos k) in
    let hl' : (2 ^ j - 1) - lo < 2 ^ j = omega (arith, pow_pos j) in
    let e : (2 ^ (k + j) - 1) - v ≡ ((2 ^ k - 1) - hi) * 2 ^ j + ((2 ^ j - 1) - lo) =
    ap (λ (n : ℕ). (2 ^ (k + j) - 1) - n) (sym (split v j)) ∙ not_parts k j hi lo hh hl in
    let m : (2 ^ (k + j) - 1) - v < 2 ^ (k + j) = omega (arith, pow_pos (k + j)) in
    turn_parts k j ((2 ^ (k + j) - 1) - v) m ∙
    ap (λ (n : ℕ). (n % 2 ^ j) * 2 ^ k + n / 2 ^ j) e ∙
    ap (λ (n : ℕ). n * 2 ^ k + (((2 ^ k - 1) - hi) * 2 ^ j + ((2 ^ j - 1) - lo)) / 2 ^ j) (low ((2 ^ k - 1) - hi) j hl') ∙
    ap (λ (n : ℕ). ((2 ^ j - 1) - lo) * 2 ^ k + n) (high ((2 ^ k - 1) - hi) j hl') ∙
    sym (not_parts j k lo hi hl hh) ∙ ap (λ (n : ℕ). (2 ^ n - 1) - (lo * 2 ^ k + hi)) (add_comm j k) ∙
    ap (λ (n : ℕ). (2 ^ (k + j) - 1) - n) (sym (turn_parts k j v h))

rot_turn : (n : ℕ) → suc n ≤ 64 → (v : ℕ) → rot (suc n) v ≡ turn (suc n) (64 - suc n) v
unfolding turn
rot_turn n h v =
    let e : 64 ≡ suc n + (64 - suc n) = omega arith in
    ap (λ (w : ℕ). bit_or ((v * 2 ^ suc n) % 2 ^ w) (v / 2 ^ (64 - suc n))) e

pub rot_not : (n v : ℕ) → n ≤ 64 → v < 2 ^ 64 → rot n ((2 ^ 64 - 1) - v) ≡ (2 ^ 64 - 1) - rot n v
rot_not zero v h hv = refl
rot_not (suc n) v h hv =
    let e : suc n + (64 - suc n) ≡ 64 = omega arith in
    rot_turn n h ((2 ^ 64 - 1) - v) ∙
    subst (λ (w : ℕ). v < 2 ^ w → turn (suc n) (64 - suc n) ((2 ^ w - 1) - v) ≡ (2 ^ w - 1) - turn (suc n) (64 - suc n) v) e (turn_not (suc n) (64 - suc n) v) hv ∙
    ap (λ (w : ℕ). (2 ^ 64 - 1) - w) (sym (rot_turn n h v))

pub rot_lt : (n v : ℕ) → v < 2 ^ 64 → rot n v < 2 ^ 64
rot_lt zero v hv = hv
rot_lt (suc n) v hv = or_lt 64 ((v * 2 ^ suc n) % 2 ^ 64) (v / 2 ^ (64 - suc n)) (mod-lt (v * 2 ^ suc n) (pow_pos 64)) (omega (arith, shr_le v (64 - suc n)))
