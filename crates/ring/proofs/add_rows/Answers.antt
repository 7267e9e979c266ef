-- A pass: place by place the rows' products are added up, and their sum goes into the sums.
use Rattle.std.proofs.Common.{◌+◌, ◌^◌, ◌<◌, arith}
use Rattle.std.proofs.lemmas.Grind.{common_steps}
use Rattle.ring.proofs.Adding.{small, adding_more, adding_all, late}
use Rattle.ring.proofs.add_rows.Given.{Over}
use Rattle.ring.proofs.add_rows.Goals as goal
use Rattle.ring.proofs.add_rows.Goals.{After-times-more}

-- the product of a row's number fits 50 bits
term : (g : Over) (c : After-times-more g) → c.times-more.result < 2 ^ 50
term g c =
    let near = c.requires.near.1 c.loop-row.row-index _ (omega arith) in
    rw c.times-more.ensures (small near.small (c.requires.room.each _))

pub overflow_add-more : goal.overflow_add-more
overflow_add-more g c = let t = term g c in omega (arith, c.loop-row.invariant.small, c.requires.near.0)

pub overflow_add-sums-in-loop-k : goal.overflow_add-sums-in-loop-k
overflow_add-sums-in-loop-k g c =
    let e = c.args.i + c.loop-k.k in
    omega (arith, c.loop-row.invariant.small, c.loop-k.invariant.ahead e (omega arith), c.requires.room.sofar e, c.requires.room.few, c.requires.near.0)

pub loop-row-preserved : goal.loop-row-preserved
loop-row-preserved g c = record {
  added = grind (arith, common_steps);
  small = let t = term g c in omega (arith, c.loop-row.invariant.small);
}

pub loop-k-preserved : goal.loop-k-preserved
loop-k-preserved g c =
    adding_more _ _ _ _ _ c.loop-k.invariant _ (grind (arith, common_steps))
    (omega (arith, c.loop-k.auto.sums, c.requires.room.wide, c.requires.room.some))

pub returns : goal.returns
returns g c = adding_all _ _ _ _ _ c.loop-k.invariant (λ x n. late _ c.args.rows x (λ s. c.requires.room.zeros (x + s) (omega arith)))
