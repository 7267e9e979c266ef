use Rattle.ncc_c.proofs.Coding.{sign_index, to_number}
use Rattle.ncc_c.proofs.Small.{of_sign}
use Rattle.shake.specs.Shake.{shake256}
use Rattle.sets.specs.Set.{set1}
use native.Mathlib.Omega.{arith}
use Rattle.ncc_c.proofs.signatures.ncc_sign.Goals as goal

pub signed-requires : goal.signed-requires
signed-requires c =
    sign_index c.args.limit c.sign.result (of_sign set1 (omega arith) shake256 c.args.key.now c.args.message.now c.args.limit c.args.signature.now)
    c.sign.ensures.answers

pub returns : goal.returns
returns c = to_number c.sign.ensures c.signed.ensures
