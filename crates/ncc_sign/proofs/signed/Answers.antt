-- A short input is refused, and of any other signing is lent the parts.
use Rattle.packing.proofs.WholesOfSet1.{secret_size_lem}
use Rattle.answers.specs.Refusals.{signing_report}
use Rattle.ncc_sign.proofs.Cut.{cut_short, whole}
use mathlib.Core.Path.{sym}
use native.Mathlib.Omega.{arith}
use lib.Seq.{length-take-le}
use Rattle.ncc_sign.proofs.signed.Goals as goal

pub returns-then-input-lt-HEAD : goal.returns-then-input-lt-HEAD
returns-then-input-lt-HEAD c = rw c.from.ensures (cut_short c.args.input.now c.args.signature.now _ (sym secret_size_lem) c.if-input-lt-HEAD.true)

pub slice_bounds-sign-end : goal.slice_bounds-sign-end
slice_bounds-sign-end c = sym (length-take-le _ c.args.input.now (omega arith))

pub returns : goal.returns
returns c =
    whole c.args.input.now c.args.signature.now _ (sym secret_size_lem) (signing_report c.sign.result) c.sign.new.signature c.window-limit.result
    c.window-limit.ensures (omega arith) c.sign.ensures
