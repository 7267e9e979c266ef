-- The number is the same, written in part, and so is the place among its bits.
use Rattle.std.proofs.Common.{◌≡◌, ◌+◌, ◌*◌, ◌^◌, ◌<◌}
use Rattle.digits.specs.Inner.{number}
use Rattle.digits.proofs.Waiting.flush.Given as goal

abbrev pub invariant-loop-self : goal.invariant-loop-self
invariant-loop-self l = record {
  same : number l.out l.self ≡ number l.initial.out l.initial.self;
  place : 8 * l.self.at + l.self.bits ≡ 8 * l.initial.self.at + l.initial.self.bits;
  below : l.self.held < 2 ^ l.self.bits;
}

abbrev pub decreases-loop-self : goal.decreases-loop-self
decreases-loop-self l = l.self.bits
