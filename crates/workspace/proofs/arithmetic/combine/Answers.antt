use Rattle.workspace.proofs.Writing.{unwritten_lt}
use Rattle.workspace.proofs.Making.{made_more, made_all}
use Rattle.workspace.proofs.arithmetic.combine.Goals as goal

pub combined-requires-clause-x_lt_q : goal.combined-requires-clause-x_lt_q
combined-requires-clause-x_lt_q c = (
  unwritten_lt c.span-first.ensures c.span-to.ensures c.loop-t.invariant c.loop-t-test.true c.requires.residues.0,
  unwritten_lt c.span-second.ensures c.span-to.ensures c.loop-t.invariant c.loop-t-test.true c.requires.residues.1,
)

pub loop-t-preserved : goal.loop-t-preserved
loop-t-preserved c =
    made_more c.requires.trinomial.1 c.span-first.ensures c.span-second.ensures c.span-to.ensures c.args.op c.loop-t.invariant
    c.loop-t-test.true c.combined.ensures

pub returns : goal.returns
returns c =
    made_all c.requires.trinomial.1 c.span-first.ensures c.span-second.ensures c.span-to.ensures c.args.op c.loop-t.invariant
    c.requires.trinomial.0 c.loop-t-test.false
