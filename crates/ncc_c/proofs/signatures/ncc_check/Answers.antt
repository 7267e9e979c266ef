use mathlib.Core.Path.{ap, ◌∙◌}
use Rattle.ncc_c.specs.Answer.{encoded}
use Rattle.ncc_c.proofs.Coding.{answer_index}
use Rattle.ncc_c.proofs.Small.{of_checking}
use Rattle.shake.specs.Shake.{shake256}
use native.Mathlib.Omega.{arith}
use Rattle.sets.specs.Set.{set1}
use Rattle.ncc_c.proofs.signatures.ncc_check.Goals as goal

pub answer-requires : goal.answer-requires
answer-requires c = answer_index c.check.result (of_checking set1 (omega arith) shake256 c.args.public.now c.args.signature.now c.args.message.now) c.check.ensures

pub returns : goal.returns
returns c = c.answer.ensures ∙ ap encoded c.check.ensures
