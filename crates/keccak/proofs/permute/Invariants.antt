-- The rounds that are left, of the held state so far, are all rounds of the first one.
use Rattle.std.proofs.Common.{◌≡◌, drop}
use Rattle.keccak.specs.Keccak.{constants}
use Rattle.keccak.proofs.Complement.{held_rounds, in_turn}
use Rattle.keccak.proofs.permute.Given as goal

abbrev pub invariant-loop-even : goal.invariant-loop-even
invariant-loop-even l = held_rounds (in_turn (drop l.even-index l.pairs)) l.s ≡ held_rounds constants l.initial.s
