use Rattle.std.proofs.Common.{◌∙◌, sym, rules}
use Rattle.checking.proofs.Recomputing.{highs_back}
use Rattle.checking.proofs.Comparing.{compared_is}
use Rattle.checking.proofs.compare.Goals as goal

pub commit-requires-clause-trinomial : goal.commit-requires-clause-trinomial
commit-requires-clause-trinomial c =
    let i = c.requires.signature_len.1.0 in
    let h = c.recompute.ensures i c.requires.signature_len.1.1 in
    (c.requires.trinomial.0, search rules, (highs_back c.args.p c.requires.trinomial.0 i h).packable)

pub returns-then-eq : goal.returns-then-eq
returns-then-eq c = λ i O L.
    let e =
    compared_is c.args.p c.requires.trinomial.0 _ _ _ i (c.recompute.ensures i L) (O ∙ sym c.of.ensures)
    (c.as_slice.ensures ∙ c.commit.ensures) c.eq.ensures in
    rw (e, c.if-eq.true)

pub returns-else-eq : goal.returns-else-eq
returns-else-eq c = λ i O L.
    let e =
    compared_is c.args.p c.requires.trinomial.0 _ _ _ i (c.recompute.ensures i L) (O ∙ sym c.of.ensures)
    (c.as_slice.ensures ∙ c.commit.ensures) c.eq.ensures in
    rw (e, c.if-eq.false)
