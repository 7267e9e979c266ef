use Rattle.std.proofs.Common.{◌≡◌, take, replicate}
use Rattle.buffers.proofs.clear.Given as goal

abbrev pub invariant-loop-x : goal.invariant-loop-x
invariant-loop-x g l = take l.x-index l.dst ≡ replicate l.x-index l.zero
