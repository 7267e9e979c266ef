-- The codes so far are gathered.
use Rattle.digits.proofs.Written.{Gathered}
use Rattle.digits.proofs.pack_codes.Given as goal

abbrev pub invariant-loop-code : goal.invariant-loop-code
invariant-loop-code l = Gathered l.codes l.w l.out l.waiting l.code-index
