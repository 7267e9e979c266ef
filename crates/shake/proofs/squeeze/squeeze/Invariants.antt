use Rattle.std.proofs.Common.{◌≡◌, ◌++◌, ◌*◌, ◌-◌, length, take}
use Rattle.keccak.specs.Keccak.{keccak}
use Rattle.shake.proofs.Squeezed.{stream}
use Rattle.shake.proofs.squeeze.squeeze.Given as goal

-- what is written, with all that is to come
abbrev pub invariant-loop-k : goal.invariant-loop-k
invariant-loop-k l = take (l.k * 136) l.out ++ stream (length l.initial.out - l.k * 136) (keccak l.s) ≡ stream (length l.initial.out) (keccak l.initial.s)
