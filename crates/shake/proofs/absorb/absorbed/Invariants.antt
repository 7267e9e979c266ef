use Rattle.std.proofs.Common.{◌≡◌, take}
use Rattle.std.specs.List.{fold}
use Rattle.keccak.specs.Keccak.{keccak}
use Rattle.shake.specs.Shake.{xored}
use Rattle.shake.proofs.absorb.absorbed.Given as goal

abbrev pub invariant-loop-block : goal.invariant-loop-block
invariant-loop-block l = l.s ≡ fold (λ s p. keccak (xored s p)) l.initial.s (take l.block-index l.blocks)
