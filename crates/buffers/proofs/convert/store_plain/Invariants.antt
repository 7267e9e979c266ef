use Rattle.std.proofs.Common.{◌≡◌, map, take, pos}
use Rattle.buffers.proofs.convert.store_plain.Given as goal

abbrev pub invariant-loop-i : goal.invariant-loop-i
invariant-loop-i l = take l.i l.to ≡ map pos (take l.i l.from)
