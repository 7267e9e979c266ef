use Rattle.std.proofs.Common.{pos, rules}
use Rattle.layouts.proofs.Scans.{walked_more, walked_stop, walked_all}
use Rattle.layouts.proofs.pack.codes_of.Goals as goal

pub returns-in_default : goal.returns-in_default
returns-in_default c = walked_stop (pos 0) _ _ _ _ _ _ c.loop-i.invariant c.loop-i-test.true _ c.in_default.ensures (search rules)

pub loop-i-preserved : goal.loop-i-preserved
loop-i-preserved c = walked_more (pos 0) _ _ _ _ _ _ c.loop-i.invariant c.loop-i-test.true _ _ c.in-Some.ensures (search rules)

pub returns : goal.returns
returns c = walked_all (pos 0) _ _ _ _ _ _ c.loop-i.invariant c.loop-i-test.false
