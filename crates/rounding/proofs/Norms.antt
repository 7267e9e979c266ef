-- Each coefficient against the norm.
use mathlib.Core.List.{List, [], ◌∷◌}
use Prim.Native.Nat.{ℕ, zero, suc, ◌≤◌, ◌<◌}
use native.Mathlib.Omega.{arith}
use lib.ListN.{length, get_or}
use lib.IntN.{ℤ, pos}
use Rattle.residues.specs.Remainder.{magnitude}
use Rattle.rounding.specs.Rounding.{norm}

-- each coefficient is at most the norm
pub norm_each : (q : ℕ) (xs : List ℤ) (k : ℕ) → k < length xs → magnitude q (get_or xs k (pos 0)) ≤ norm q xs
unfolding norm
norm_each q [] k l = absurd (omega arith)
norm_each q (x ∷ xs) zero l = omega arith
norm_each q (x ∷ xs) (suc k) l = let i = norm_each q xs k (omega arith) in omega arith
