-- What key making and signing pack is allowed: every value has a code, and the code is read back as the value.
use mathlib.Core.Path.{◌≡◌}
use Prim.Native.Nat.{ℕ, ◌+◌, ◌-◌, ◌*◌, ◌^◌, ◌≤◌, ◌<◌}
use native.Mathlib.Omega.{arith}
use lib.Dec.{lit<}
use lib.Pow.{pow_pos}
use lib.IntN.{ℤ, pos, negsuc, nat_abs}
use Rattle.sets.specs.Set.{Set, steps}
use Rattle.sets.specs.Good.{Good}
use Rattle.rounding.specs.Rounding.{high_bits, make_hint, power2_round}
use Rattle.rounding.proofs.Hints.{bit, high_lt}
use Rattle.rounding.proofs.Halves.{Half, power_high_le, power_low_in}
use Rattle.layouts.specs.Layouts.{t1_layout, t0_layout, s_layout, z_layout, w1_layout, hint_layout}
use Rattle.layouts.proofs.Kept.{Kept, Within, kept_plain, kept_down}

within_abs : (b e m : ℕ) (z : ℤ) → nat_abs z + e ≤ b → 2 * b ≤ m + e → Within b e m z
within_abs b e m (pos a) h l = (omega arith, omega arith)
within_abs b e m (negsuc a) h l = (omega arith, omega arith)

within_half : (g m : ℕ) (z : ℤ) → Half g z → m ≡ 2 * g - 1 → Within g 0 m z
within_half g m (pos a) h e = (omega arith, omega arith)
within_half g m (negsuc a) h e = (omega arith, omega arith)

module _ (p : Set) (G : Good p) where
  pub kept_s : (z : ℤ) → nat_abs z ≤ p.eta → Kept (s_layout p) z
  kept_s z h = kept_down p.sbits p.eta 0 (2 * p.eta) z G.s_fits (within_abs p.eta 0 (2 * p.eta) z (omega arith) (omega arith))

  pub kept_z : (z : ℤ) → nat_abs z < p.gamma1 - p.beta → Kept (z_layout p) z
  kept_z z h =
      kept_down p.zbits p.gamma1 (p.beta + 1) (2 * p.gamma1 - (p.beta + 1)) z (omega (arith, G.z_fits))
      (within_abs p.gamma1 (p.beta + 1) (2 * p.gamma1 - (p.beta + 1)) z (omega arith) (omega arith))

  pub kept_t1 : (x : ℤ) → Kept (t1_layout p) (pos (power2_round p x).high)
  kept_t1 x = kept_plain p.t1bits p.t1top (power2_round p x).high G.t1_fits (power_high_le p G x)

  pub kept_t0 : (x : ℤ) → Kept (t0_layout p) (power2_round p x).low
  kept_t0 x =
      kept_down p.d (2 ^ (p.d - 1)) 0 (2 ^ p.d - 1) (power2_round p x).low (let l = pow_pos p.d in omega arith)
      (within_half (2 ^ (p.d - 1)) (2 ^ p.d - 1) (power2_round p x).low (power_low_in p G x) (omega (arith, G.halves)))

  pub kept_w1 : (x : ℤ) → Kept (w1_layout p) (pos (high_bits p x))
  kept_w1 x = let l = high_lt p G x in kept_plain p.w1bits (steps p - 1) (high_bits p x) (omega (arith, G.w1_fits)) (omega arith)

  pub kept_hint : (z r : ℤ) → Kept hint_layout (pos (make_hint p z r))
  kept_hint z r = kept_plain 1 1 (make_hint p z r) (lit< tt) (bit p z r)
