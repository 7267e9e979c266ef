-- Two natural numbers, one way or the other.
use mathlib.Core.Logic.{◌⊎◌, inl, inr}
use Prim.Native.Nat.{ℕ, ◌≤◌, ◌<◌}
use native.Mathlib.Decide.{dec_lt}
use native.Mathlib.Omega.{arith}

pub below_or : (a b : ℕ) → (a < b) ⊎ (b ≤ a)
below_or a b = by (dec_lt a b)
  where
    by : Dec (a < b) → (a < b) ⊎ (b ≤ a)
    by (yes h) = inl h
    by (no h) = inr (omega arith)
