-- The memory of a call is what the calls for any set ask for, once its numbers are set 1's.
use mathlib.Core.Path.{◌≡◌, sym, subst}
use Prim.Native.Nat.{◌*◌, ◌≤◌}
use native.Mathlib.Omega.{arith}
use Rattle.sets.specs.Set.{Set, set1}
use Rattle.sets.specs.Good.{Trinomial}
use Rattle.sets.proofs.Five.{ready_set1}

pub suits : (p : Set) → p ≡ set1 → Trinomial p × (11 * p.n ≤ 11 * set1.n)
suits p e = subst (λ (p : Set). Trinomial p × (11 * p.n ≤ 11 * set1.n)) (sym e) (ready_set1, omega arith)
