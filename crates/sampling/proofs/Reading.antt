-- What is read of a stream: the group that stands first, a draw of two bytes, eight bytes of signs.
use mathlib.Core.Path.{◌≡◌, sym, ap, ◌∙◌}
use mathlib.Core.List.{List, [], ◌∷◌}
use Prim.Native.Nat.{ℕ, ◌+◌, ◌-◌, ◌*◌, ◌/◌, ◌%◌, ◌^◌, ◌≤◌, ◌<◌}
use native.Mathlib.Omega.{arith}
use lib.Pow.{mod-mod-pow, mod-pow-add}
use lib.ListN.{length, get_or, take, drop}
use Rattle.std.specs.Int.{w16, w64, from_le_bytes}
use Rattle.digits.specs.Digits.{value}
use Rattle.digits.proofs.Numbers.{Below, below_all}
use Rattle.digits.proofs.Windows.{value_take, value_drop, below_drop, four_bytes, one_shifted_in}

-- the low bits of g bytes are those of four
pub group_in_window : (bs : List ℕ) (w g : ℕ) → ((k : ℕ) → get_or bs k 0 < 256) → w ≤ 8 * g → g ≤ 4 → value 256 (take 4 bs) % 2 ^ w ≡ value 256 (take g bs) % 2 ^ w
group_in_window bs w g small l m = low 4 (omega arith) ∙ sym (low g l)
  where
    low : (h : ℕ) → w ≤ 8 * h → value 256 (take h bs) % 2 ^ w ≡ value 256 bs % 2 ^ w
    low h k =
        ap (λ (x : ℕ). x % 2 ^ w) (sym (value_take h bs (below_all 256 bs small)) ∙ ap (λ (e : ℕ). value 256 bs % 2 ^ e) {x = 8 * h} {y = (8 * h - w) + w} (omega arith)) ∙
        mod-mod-pow (value 256 bs) (8 * h - w) w

-- 1 << w, of a 64-bit word
pub one_shifted : (w : ℕ) → w ≤ 32 → 1 * 2 ^ w % 18446744073709551616 ≡ 2 ^ w
one_shifted w l = one_shifted_in 18446744073709551616 32 w (omega arith) l

-- two bytes of a stream, and eight
module _ (bs : List ℕ) (small : (k : ℕ) → get_or bs k 0 < 256) where
  below : Below 256 bs
  below = below_all 256 bs small

  pub two_bytes_at : (j : ℕ) → value 256 (take 2 (drop j bs)) ≡ get_or bs j 0 + 256 * get_or bs (j + 1) 0
  two_bytes_at j =
      sym (value_take 2 (drop j bs) (below_drop j bs below)) ∙
      sym (mod-mod-pow (value 256 (drop j bs)) 16 16) ∙
      ap (λ (x : ℕ). x % 65536) (value_take 4 (drop j bs) (below_drop j bs below) ∙ four_bytes bs j) ∙
      low (get_or bs j 0) (get_or bs (j + 1) 0) (get_or bs (j + 2) 0 + 256 * get_or bs (j + 3) 0) (small j) (small (j + 1))
    where
      low : (a b c : ℕ) → a < 256 → b < 256 → (a + 256 * (b + 256 * c)) % 65536 ≡ a + 256 * b
      low a b c h k = omega arith

  -- eight bytes are twice four
  pub eight_bytes_as_fours : value 256 (take 8 bs) ≡ value 256 (take 4 (drop 0 bs)) + 4294967296 * value 256 (take 4 (drop 4 bs))
  eight_bytes_as_fours =
      let a = value_take 4 bs below in
      let b = ap (λ (x : ℕ). x % 4294967296) (value_drop 4 bs below) ∙ value_take 4 (drop 4 bs) (below_drop 4 bs below) in
      sym (value_take 8 bs below) ∙ mod-pow-add (value 256 bs) 32 32 ∙ omega (arith, a, b)

-- a number's bytes, lowest first
pub two_bytes : (bs : List ℕ) → length bs ≡ 2 → from_le_bytes w16 bs ≡ value 256 bs
unfolding value
two_bytes (a ∷ b ∷ []) l = omega arith
two_bytes [] l = absurd (omega arith)
two_bytes (a ∷ []) l = absurd (omega arith)
two_bytes (a ∷ b ∷ c ∷ xs) l = absurd (omega arith)

pub eight_bytes : (bs : List ℕ) → length bs ≡ 8 → from_le_bytes w64 bs ≡ value 256 bs
unfolding value
eight_bytes (a ∷ b ∷ c ∷ d ∷ e ∷ f ∷ g ∷ h ∷ []) l = omega arith
eight_bytes [] l = absurd (omega arith)
eight_bytes (a ∷ []) l = absurd (omega arith)
eight_bytes (a ∷ b ∷ []) l = absurd (omega arith)
eight_bytes (a ∷ b ∷ c ∷ []) l = absurd (omega arith)
eight_bytes (a ∷ b ∷ c ∷ d ∷ []) l = absurd (omega arith)
eight_bytes (a ∷ b ∷ c ∷ d ∷ e ∷ []) l = absurd (omega arith)
eight_bytes (a ∷ b ∷ c ∷ d ∷ e ∷ f ∷ []) l = absurd (omega arith)
eight_bytes (a ∷ b ∷ c ∷ d ∷ e ∷ f ∷ g ∷ []) l = absurd (omega arith)
eight_bytes (a ∷ b ∷ c ∷ d ∷ e ∷ f ∷ g ∷ h ∷ x ∷ xs) l = absurd (omega arith)
