-- Layouts as the code makes them, with shifts of a 32-bit word.
use mathlib.Core.Path.{◌≡◌, ap}
use Prim.Native.Nat.{ℕ, ◌-◌, ◌*◌, ◌%◌, ◌^◌, ◌≤◌}
use native.Mathlib.Omega.{arith}
use lib.Pow.{pow_pos}
use Rattle.digits.proofs.Windows.{one_shifted}
use Rattle.layouts.specs.Layouts.{down}

-- 1 << w is not 0
pub shifted_some : (w : ℕ) → w ≤ 25 → 1 ≤ 1 * 2 ^ w % 4294967296
shifted_some w l = rw (one_shifted w l) (pow_pos w)

-- every code of w bits
pub every_code : (w base : ℕ) → w ≤ 25 → down w base 0 (1 * 2 ^ w % 4294967296 - 1) ≡ down w base 0 (2 ^ w - 1)
every_code w base l = ap (λ (x : ℕ). down w base 0 (x - 1)) (one_shifted w l)

-- half of them on either side
pub half_code : (w most : ℕ) → w ≤ 25 → down w (1 * 2 ^ (w - 1) % 4294967296) 0 most ≡ down w (2 ^ (w - 1)) 0 most
half_code w most l = ap (λ (x : ℕ). down w x 0 most) (one_shifted (w - 1) (omega arith))
