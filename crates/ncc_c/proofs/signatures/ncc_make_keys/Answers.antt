use Rattle.ncc_c.proofs.Coding.{answer_index, to_number}
use Rattle.ncc_c.proofs.Small.{of_make_keys}
use Rattle.shake.specs.Shake.{shake256}
use Rattle.sets.specs.Set.{set1}
use native.Mathlib.Omega.{arith}
use Rattle.ncc_c.proofs.signatures.ncc_make_keys.Goals as goal

pub answer-requires : goal.answer-requires
answer-requires c =
    answer_index c.make_keys.result
    (of_make_keys set1 (omega arith) shake256 c.args.zeta.now c.args.prime.now c.args.public.now c.args.secret.now) c.make_keys.ensures.answers

pub returns : goal.returns
returns c = to_number c.make_keys.ensures c.answer.ensures
