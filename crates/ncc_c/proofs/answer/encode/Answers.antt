use native.Mathlib.Omega.{arith}
use Rattle.ncc_c.specs.Answer.{encoded}
use Rattle.ncc_c.proofs.answer.encode.Goals as goal

pub returns : goal.returns
unfolding encoded
returns c = omega arith
