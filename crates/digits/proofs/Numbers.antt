-- Digits and values are inverse, over the base; packing and unpacking are inverse, over the width. Assumes nothing.
use mathlib.Core.Path.{◌≡◌, refl, sym, ap, ap₂, ◌∙◌}
use mathlib.Core.List.{List, [], ◌∷◌}
use Prim.Native.Nat.{ℕ, zero, suc, ◌+◌, ◌*◌, ◌/◌, ◌%◌, ◌^◌, ◌≤◌, ◌<◌}
use native.Mathlib.Nat.{lt_of_lt_of_le, mod-add-div, mod-lt, mod-eq_of_lt, div-eq_of_lt, div-one, div-lt_iff_lt-mul, div-div-eq-div-mul, add-mul-mod_self_left}
use native.Mathlib.Nat.{add-mul-div_left, zero-add, add_comm, mul_comm, pow-zero, pow-suc, pow-succ', mul-zero, mul-suc}
use native.Mathlib.Omega.{arith}
use lib.Arith.{lt-one, digits_lt}
use lib.Pow.{pow_pos, pow_mono, pow-add}
use lib.Dec.{lit<}
use lib.ListN.{length, get_or}
use Rattle.digits.specs.Digits.{value, digits, codes, bytes}

-- every element is below b
abbrev pub Below : ℕ → List ℕ → Type 0
Below b [] = Unit {0}
Below b (x ∷ xs) = (x < b) × Below b xs

pub length_digits : (b n x : ℕ) → length (digits b n x) ≡ n
unfolding digits
length_digits b zero x = refl
length_digits b (suc n) x = ap suc (length_digits b n (x / b))

pub digits_below : (b n x : ℕ) → 0 < b → Below b (digits b n x)
unfolding digits
digits_below b zero x h = tt
digits_below b (suc n) x h = (mod-lt x h, digits_below b n (x / b) h)

pub value_lt : (b : ℕ) (xs : List ℕ) → Below b xs → value b xs < b ^ length xs
unfolding value
value_lt b [] h = rw pow-zero (omega arith)
value_lt b (x ∷ xs) h =
    rw (pow-suc, add_comm, mul_comm b (value b xs)) (digits_lt (value_lt b xs h.1) h.0)

-- the digits of a number that n digits hold have it for their value
pub value_digits : (b n x : ℕ) → 0 < b → x < b ^ n → value b (digits b n x) ≡ x
unfolding value digits
value_digits b zero x p h = sym (lt-one (rw pow-zero at h))
value_digits b (suc n) x p h =
    ap (λ (v : ℕ). x % b + b * v) (value_digits b n (x / b) p ((div-lt_iff_lt-mul p).1 (rw pow-suc at h))) ∙ mod-add-div x b

-- the value of a list of digits has them for its digits
pub digits_value : (b : ℕ) (xs : List ℕ) → Below b xs → digits b (length xs) (value b xs) ≡ xs
unfolding value digits
digits_value b [] h = refl
digits_value b (x ∷ xs) h =
    ap₂ ◌∷◌ (add-mul-mod_self_left x b (value b xs) ∙ mod-eq_of_lt h.0)
    (ap (digits b (length xs)) (add-mul-div_left x (value b xs) (lt_of_le_of_lt' h.0) ∙ ap (λ (q : ℕ). q + value b xs) (div-eq_of_lt h.0) ∙ zero-add (value b xs))
    ∙ digits_value b xs h.1)
  where
    lt_of_le_of_lt' : x < b → 0 < b
    lt_of_le_of_lt' l = omega arith

-- packing and unpacking, both ways at once: from digits to the base b, through digits to the base c, and back
pub regroup : (b c m : ℕ) (xs : List ℕ) → Below b xs → 0 < c → b ^ length xs ≤ c ^ m → digits b (length xs) (value c (digits c m (value b xs))) ≡ xs
regroup b c m xs h p l =
    ap (digits b (length xs)) (value_digits c m (value b xs) p (lt_of_lt_of_le (value_lt b xs h) l)) ∙ digits_value b xs h

pub pow_mul : (a i j : ℕ) → (a ^ i) ^ j ≡ a ^ (i * j)
pow_mul a i zero = pow-zero (a ^ i) ∙ sym (ap (λ (x : ℕ). a ^ x) (mul-zero i) ∙ pow-zero a)
pow_mul a i (suc j) =
    pow-suc (a ^ i) j ∙ ap (λ (x : ℕ). x * a ^ i) (pow_mul a i j) ∙ sym (pow-add a (i * j) i) ∙ ap (λ (x : ℕ). a ^ x) (sym (mul-suc i j))

pub get_or_digits : (b n x i : ℕ) → i < n → get_or (digits b n x) i 0 ≡ x / b ^ i % b
unfolding digits
get_or_digits b zero x i h = absurd (omega arith)
get_or_digits b (suc n) x zero h = rw (pow-zero, div-one)
get_or_digits b (suc n) x (suc i) h =
    get_or_digits b n (x / b) i (omega arith) ∙ ap (λ (y : ℕ). y % b) (div-div-eq-div-mul x b (b ^ i) ∙ ap (λ (y : ℕ). x / y) (sym (pow-succ' b i)))

pub below_all : (b : ℕ) (xs : List ℕ) → ((i : ℕ) → get_or xs i 0 < b) → Below b xs
below_all b [] h = tt
below_all b (x ∷ xs) h = (h 0, below_all b xs (λ i. h (suc i)))

-- the two ways round, at bytes and codes of w bits: n codes fill m bytes, with or without spare bits at the top
pub unpack_pack : (w n m : ℕ) (cs : List ℕ) → Below (2 ^ w) cs → length cs ≡ n → w * n ≤ 8 * m → codes w n (bytes w m cs) ≡ cs
unfolding codes bytes
unpack_pack w n m cs h e l = rw (← e) (regroup (2 ^ w) 256 m cs h (lit< tt) (rw (pow_mul, pow_mul 2 8 m, e) (pow_mono l)))

pub length_bytes : (w m : ℕ) (cs : List ℕ) → length (bytes w m cs) ≡ m
unfolding bytes
length_bytes w m cs = length_digits 256 m (value (2 ^ w) cs)

pub place_lt : (p w n : ℕ) → 0 < w → p < w * n → p / w < n
place_lt p w n h l = (div-lt_iff_lt-mul h).1 (rw (mul_comm n w) l)

-- with spare bits at the top that are zero, as their number says
pub pack_unpack_filled : (w n m : ℕ) (bs : List ℕ) → Below 256 bs → length bs ≡ m → value 256 bs < 2 ^ (w * n) → bytes w m (codes w n bs) ≡ bs
unfolding codes bytes
pack_unpack_filled w n m bs h e l =
    ap (digits 256 m) (value_digits (2 ^ w) n (value 256 bs) (pow_pos w) (rw (pow_mul 2 w n) l)) ∙ rw (← e) (digits_value 256 bs h)
