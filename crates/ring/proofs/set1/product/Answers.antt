-- The product of set 1: its refusals in their order, and what it stores.
use Rattle.std.proofs.Common.{sym, ◌∙◌}
use Rattle.answers.proofs.Outcomes.{refusing, doing}
use Rattle.sets.specs.Set.{set1}
use Rattle.ring.proofs.Calling.{wrong_first, wrong_second, wrong_out, all_right}
use Rattle.ring.proofs.OfSet1.{can_multiply, can_store, stored}
use Rattle.ring.proofs.set1.product.Goals as goal

pub returns-then-first-ne-N : goal.returns-then-first-ne-N
returns-then-first-ne-N c = refusing _ _ _ (wrong_first set1 _ _ _ c.if-first-ne-N.true)

pub returns-then-second-ne-N : goal.returns-then-second-ne-N
returns-then-second-ne-N c = refusing _ _ _ (wrong_second set1 _ _ _ c.if-first-ne-N.false c.if-second-ne-N.true)

pub returns-then-out-ne-N : goal.returns-then-out-ne-N
returns-then-out-ne-N c = refusing _ _ _ (wrong_out set1 _ _ _ c.if-first-ne-N.false c.if-second-ne-N.false c.if-out-ne-N.true)

pub multiply-requires-clause-residues : goal.multiply-requires-clause-residues
multiply-requires-clause-residues c =
    (can_multiply _ c.numbers.ensures c.args.first.now c.args.second.now _ _ c.if-first-ne-N.false c.if-second-ne-N.false c.reduce_all.ensures c.reduce_all-2.ensures).1

pub store_plain-requires : goal.store_plain-requires
store_plain-requires c =
    let s = can_store _ c.numbers.ensures c.args.first.now c.args.second.now _ _ c.if-first-ne-N.false c.if-second-ne-N.false c.reduce_all.ensures c.reduce_all-2.ensures
    _ c.multiply.ensures in
    (s.1, c.if-out-ne-N.false ∙ sym s.0)

pub returns : goal.returns
returns c =
    let a = c.args.first.now in
    let b = c.args.second.now in
    let is_product = stored _ c.numbers.ensures a b _ _ c.if-first-ne-N.false c.if-second-ne-N.false c.reduce_all.ensures c.reduce_all-2.ensures _ c.multiply.ensures in
    doing _ _ _ _ (all_right set1 a b _ c.if-first-ne-N.false c.if-second-ne-N.false c.if-out-ne-N.false) (c.store_plain.ensures ∙ is_product)
