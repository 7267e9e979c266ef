-- Bounds that the conditions on a set give.
use Prim.Native.Nat.{◌^◌, ◌≤◌, ◌<◌}
use mathlib.Core.Logic.{⊎_elim}
use native.Mathlib.Omega.{arith}
use lib.Pow.{pow_pos, pow_mono}
use Rattle.residues.proofs.Order.{below_or}
use Rattle.sets.specs.Set.{Set}
use Rattle.sets.specs.Good.{Good}

module _ (p : Set) (good : Good p) where
  pub q_most : 2 < p.q
  q_most = omega (arith, pow_pos p.d, good.t0_half)

  -- a group of a has a byte at least
  pub some_bytes : 0 < p.abytes
  some_bytes = ⊎_elim (λ l. l) none (below_or 0 p.abytes)
    where
      none : p.abytes ≤ 0 → 0 < p.abytes
      none l =
          let m : 2 ^ p.abits ≤ 2 ^ 0 = pow_mono {i = p.abits} {j = 0} (omega (arith, good.a_bytes)) in
          absurd (omega (arith, good.a_fits, q_most))
