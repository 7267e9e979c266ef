-- A refusal of a hint names no coefficient.
use Rattle.std.proofs.Common.{arith}
use Rattle.std.proofs.lemmas.Grind.{common_steps}
use Rattle.rounding.specs.Used.{used_hint}
use Rattle.ncc_c.proofs.round.ncc_use_hint.Goals as goal

pub answer-requires-in-Err : goal.answer-requires-in-Err
unfolding used_hint
answer-requires-in-Err c = grind (arith, common_steps)
