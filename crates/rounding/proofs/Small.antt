-- Decompose of a number that is reduced already.
use mathlib.Core.Path.{◌≡◌, ap, ◌∙◌}
use Prim.Native.Nat.{ℕ, ◌+◌, ◌%◌, ◌<◌}
use native.Mathlib.Nat.{div-eq_of_lt}
use native.Mathlib.Omega.{arith}
use lib.IntN.{pos}
use Rattle.sets.specs.Set.{Set, steps}
use Rattle.sets.specs.Good.{Good}
use Rattle.residues.proofs.Remainders.{residue_small}
use Rattle.rounding.specs.Rounding.{parts, decompose, high_bits}
use Rattle.rounding.proofs.Closed.{closed}
use Rattle.rounding.proofs.Hints.{high_lt}

module _ (p : Set) (good : Good p) (x : ℕ) (l : x < p.q) where
  pub parts_small : decompose p (pos x) ≡ parts p x
  unfolding decompose
  parts_small = ap (parts p) (residue_small p.q (omega arith) x l)

  pub parts_high : (parts p x).high < steps p
  parts_high = rw (ap (λ s. s.high) parts_small) at (high_lt p good (pos x))

  -- the top half step and the first half of step 0 have the high bits 0; must-fail/top_half_step_is_32 gives it to the check
  pub top_half_step_high : (x + p.gamma2) % p.q < p.gamma2 → high_bits p (pos x) ≡ 0
  top_half_step_high h =
      ap (λ s. s.high) parts_small ∙ (closed p good x l).high_is ∙
      div-eq_of_lt (omega arith)
