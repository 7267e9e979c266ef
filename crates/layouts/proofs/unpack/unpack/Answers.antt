use Rattle.std.proofs.Common.{sym, ◌∙◌, arith}
use Rattle.std.proofs.lemmas.List.{set-get_or}
use Rattle.digits.proofs.Codes.{length_codes, codes_at}
use Rattle.layouts.proofs.Scans.{walked_none, walked_more, walked_stop, walked_all}
use Rattle.layouts.proofs.unpack.unpack.Goals as goal

pub loop-i-init : goal.loop-i-init
loop-i-init c = walked_none 0 _ _ _ _ (sym (length_codes _ _ _))

pub returns-in_default : goal.returns-in_default
returns-in_default c =
    rw set-get_or
    (walked_stop 0 _ _ _ _ _ _ c.loop-i.invariant (omega arith) _ c.in_default.ensures (c.code_at.ensures ∙ sym (codes_at _ _ _ _ (omega arith))))

pub loop-i-preserved : goal.loop-i-preserved
loop-i-preserved c = walked_more 0 _ _ _ _ _ _ c.loop-i.invariant (omega arith) _ _ c.in-Some.ensures (c.code_at.ensures ∙ sym (codes_at _ _ _ _ (omega arith)))

pub returns : goal.returns
returns c = walked_all 0 _ _ _ _ _ _ c.loop-i.invariant (omega arith)
