use Rattle.std.proofs.Common.{◌≡◌, map, take}
use Rattle.residues.specs.Remainder.{signed}
use Rattle.buffers.proofs.convert.store_centred.Given as goal

abbrev pub invariant-loop-i : goal.invariant-loop-i
invariant-loop-i l = take l.i l.to ≡ map (signed l.q) (take l.i l.from)
