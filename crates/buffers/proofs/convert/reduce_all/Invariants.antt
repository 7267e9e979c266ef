use Rattle.std.proofs.Common.{◌≡◌, map, take}
use Rattle.residues.specs.Remainder.{residue}
use Rattle.buffers.proofs.convert.reduce_all.Given as goal

abbrev pub invariant-loop-i : goal.invariant-loop-i
invariant-loop-i l = take l.i l.to ≡ map (residue l.q) (take l.i l.from)
