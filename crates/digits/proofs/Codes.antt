-- The codes of bytes, one by one.
use mathlib.Core.Path.{◌≡◌, ap, ◌∙◌}
use mathlib.Core.List.{List, [], ◌∷◌}
use Prim.Native.Nat.{ℕ, zero, suc, ◌*◌, ◌/◌, ◌%◌, ◌^◌, ◌<◌}
use lib.Pow.{pow_pos}
use lib.ListN.{length, get_or}
use Rattle.digits.specs.Digits.{value, digits, codes}
use Rattle.digits.proofs.Numbers.{Below, length_digits, digits_below, get_or_digits, pow_mul}

pub below_at : (b : ℕ) (xs : List ℕ) → 0 < b → Below b xs → (k : ℕ) → get_or xs k 0 < b
below_at b [] p h k = p
below_at b (x ∷ xs) p h zero = h.0
below_at b (x ∷ xs) p h (suc k) = below_at b xs p h.1 k

module _ (w n : ℕ) (bs : List ℕ) where
  pub length_codes : length (codes w n bs) ≡ n
  unfolding codes
  length_codes = length_digits (2 ^ w) n (value 256 bs)

  pub codes_at : (k : ℕ) → k < n → get_or (codes w n bs) k 0 ≡ value 256 bs / 2 ^ (w * k) % 2 ^ w
  unfolding codes
  codes_at k l = get_or_digits (2 ^ w) n (value 256 bs) k l ∙ ap (λ (e : ℕ). value 256 bs / e % 2 ^ w) (pow_mul 2 w k)

  pub codes_below : (k : ℕ) → get_or (codes w n bs) k 0 < 2 ^ w
  unfolding codes
  codes_below = below_at (2 ^ w) (digits (2 ^ w) n (value 256 bs)) (pow_pos w) (digits_below (2 ^ w) n (value 256 bs) (pow_pos w))
