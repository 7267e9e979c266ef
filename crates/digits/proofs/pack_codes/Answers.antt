-- `digits::pack_codes`: each code comes in above the bits that wait, and none are left at the end.
use Rattle.std.proofs.Common.{arith}
use Rattle.digits.specs.Digits.{value}
use Rattle.digits.proofs.Written.{can_flush, gathered_more, gathered_last, gathered_all}
use Rattle.digits.proofs.pack_codes.Goals as goal

pub loop-code-init : goal.loop-code-init
unfolding value
loop-code-init c = record {
  long = c.requires.out_len;
  same = omega arith;
  place = omega arith;
  few = omega arith;
  below = omega arith;
  each = λ k. omega (arith, c.type_inv.out k);
}

pub flush-requires : goal.flush-requires
flush-requires c =
    can_flush c.loop-code.invariant c.push.ensures c.loop-code-test.true (omega arith) (c.requires.w_nonzero.3 c.loop-code.code-index)

pub loop-code-preserved : goal.loop-code-preserved
loop-code-preserved c =
    gathered_more c.loop-code.invariant c.push.ensures c.loop-code-test.true c.flush.ensures (λ k. omega (arith, c.type_inv.out k))

pub returns-then-waiting-gt0 : goal.returns-then-waiting-gt0
returns-then-waiting-gt0 c =
    gathered_last c.loop-code.invariant (omega arith) c.if-waiting-gt0.true

pub returns-else-waiting-gt0 : goal.returns-else-waiting-gt0
returns-else-waiting-gt0 c =
    gathered_all c.loop-code.invariant (omega arith) c.if-waiting-gt0.false
