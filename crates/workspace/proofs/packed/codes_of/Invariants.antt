use Rattle.std.proofs.Common.{◌≡◌, map, take}
use Rattle.residues.specs.Remainder.{signed}
use Rattle.layouts.specs.Layouts.{code}
use Rattle.workspace.proofs.packed.codes_of.Given as goal

abbrev pub invariant-loop-i : goal.invariant-loop-i
invariant-loop-i l = take l.i l.codes ≡ map (code l.l) (map (signed l.q) (take l.i l.xs))
