-- A short input is number 1, and of any other checking is lent the parts.
use Rattle.packing.proofs.WholesOfSet1.{public_size_lem, signature_size_lem}
use Rattle.answers.specs.Refusals.{report_of}
use Rattle.ncc_check.proofs.Lengths.{short_is_1, whole}
use mathlib.Core.Path.{sym}
use native.Mathlib.Omega.{arith}
use lib.Seq.{length-take-le}
use Rattle.ncc_check.proofs.checked.Goals as goal

pub returns-then-input-lt-HEAD : goal.returns-then-input-lt-HEAD
returns-then-input-lt-HEAD c = sym (short_is_1 c.args.input.now _ _ (sym public_size_lem) (sym signature_size_lem) c.if-input-lt-HEAD.true)

pub slice_bounds-check-end : goal.slice_bounds-check-end
slice_bounds-check-end c = sym (length-take-le _ c.args.input.now (omega arith))

pub returns : goal.returns
returns c =
    whole c.args.input.now _ _ (sym public_size_lem) (sym signature_size_lem) (report_of c.check.result) c.check.ensures
