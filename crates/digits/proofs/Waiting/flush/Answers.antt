-- `Waiting::flush`: a byte that goes out leaves the number as it is, with eight bits fewer that wait.
use Rattle.std.proofs.Common.{◌∙◌, arith}
use Rattle.digits.proofs.Written.{byte_out, fewer}
use Rattle.digits.proofs.Waiting.flush.Goals as goal

pub loop-self-preserved : goal.loop-self-preserved
loop-self-preserved c =
    let l = c.loop-self in
    record {
      same = byte_out l.out l.self.at l.self.held (omega arith) ∙ l.invariant.same;
      place = omega arith;
      below = fewer l.self.held l.self.bits c.loop-self-test.true l.invariant.below;
    }
