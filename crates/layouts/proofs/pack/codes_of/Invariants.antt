use Rattle.std.proofs.Common.{pos}
use Rattle.layouts.specs.Layouts.{code, holds}
use Rattle.layouts.proofs.Scans.{Walked}
use Rattle.layouts.proofs.pack.codes_of.Given as goal

abbrev pub invariant-loop-i : goal.invariant-loop-i
invariant-loop-i l = Walked (pos 0) (holds l.l) (code l.l) l.values l.initial.out l.i l.out
