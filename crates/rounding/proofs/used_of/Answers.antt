-- The sign of the low bits says which way the hint moves.
use Rattle.std.proofs.Common.{arith}
use Rattle.std.proofs.lemmas.Grind.{common_steps}
use Rattle.std.proofs.lemmas.Int.{to_z-of_z}
use Rattle.rounding.specs.Rounding.{moved, use_hint}
use Rattle.rounding.proofs.Small.{parts_small, parts_high}
use Rattle.rounding.proofs.used_of.Goals as goal

pub returns-then-h-eq0 : goal.returns-then-h-eq0
unfolding use_hint
returns-then-h-eq0 c = grind (arith, common_steps, parts_small)

pub overflow_add-high : goal.overflow_add-high
overflow_add-high c = grind (arith, parts_high)

pub wrap-requires : goal.wrap-requires
wrap-requires c = grind (arith, parts_high)

pub returns : goal.returns
unfolding use_hint moved
returns c = grind (arith, common_steps, to_z-of_z, parts_small)
