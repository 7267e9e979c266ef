use Rattle.std.proofs.Common.{length}
use Rattle.digits.specs.Digits.{codes}
use Rattle.layouts.specs.Layouts.{allowed}
use Rattle.layouts.specs.Inner.{remainder}
use Rattle.layouts.proofs.Scans.{Walked}
use Rattle.layouts.proofs.unpack.unpack.Given as goal

abbrev pub invariant-loop-i : goal.invariant-loop-i
invariant-loop-i l =
    Walked 0 (allowed l.l) (remainder l.l l.q) (codes l.l.bits (length l.initial.out) l.packed) l.initial.out l.i l.out
