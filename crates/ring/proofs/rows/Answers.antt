-- The rows of the places that the loop passes: four of them, one, or none.
use Rattle.std.proofs.Common.{[], ◌∷◌, arith}
use Rattle.std.proofs.lemmas.List.Elements.{All-from_recursion}
use Rattle.ring.specs.Inner.{Near}
use Rattle.ring.proofs.Rowing.{near, sofar_none, room, sofar_four, sofar_one, sofar_skip, sofar_all}
use Rattle.ring.proofs.rows.Goals as goal

pub loop-next-init : goal.loop-next-init
loop-next-init c = sofar_none _ _ _ c.requires

pub loop-next-preserved : goal.loop-next-preserved
loop-next-preserved c = sofar_skip _ _ _ c.requires _ _ c.loop-next.invariant (omega (arith, c.if-a-i-ne0.false))

pub add_rows-requires : goal.add_rows-requires
add_rows-requires c =
    let rows = c.of-r0.result ∷ c.of-r1.result ∷ c.of-r2.result ∷ c.of-r3.result ∷ [] in
    let near_0 = near _ _ _ c.requires c.loop-next.next _ _ (omega arith) c.of-r0.ensures in
    let near_1 = near _ _ _ c.requires c.loop-next.next _ _ (omega arith) c.of-r1.ensures in
    let near_2 = near _ _ _ c.requires c.loop-next.next _ _ (omega arith) c.of-r2.ensures in
    let near_3 = near _ _ _ c.requires c.loop-next.next _ _ (omega arith) c.of-r3.ensures in (
      omega arith,
      (
        room _ _ _ c.requires _ _ c.loop-next.invariant c.loop-next-test.true,
        (omega arith, All-from_recursion Near rows (near_0, (near_1, (near_2, (near_3, tt))))),
      ),
    )

pub loop-next-preserved-then-r1-r2-gt0 : goal.loop-next-preserved-then-r1-r2-gt0
loop-next-preserved-then-r1-r2-gt0 c =
    sofar_four _ _ _ c.requires _ _ _ _ c.past_zeros-i1.ensures c.past_zeros-i2.ensures c.past_zeros-i3.ensures c.loop-next.sums _ c.loop-next.invariant
    (rw (c.of-r0.ensures, c.of-r1.ensures, c.of-r2.ensures, c.of-r3.ensures) at c.add_rows.ensures)

pub add_rows-requires-else-r1-r2-gt0 : goal.add_rows-requires-else-r1-r2-gt0
add_rows-requires-else-r1-r2-gt0 c = (
  omega arith,
  (
    room _ _ _ c.requires _ _ c.loop-next.invariant c.loop-next-test.true,
    (omega arith, All-from_recursion Near (c.of-r0.result ∷ []) (near _ _ _ c.requires c.loop-next.next _ _ (omega arith) c.of-r0.ensures, tt)),
  ),
)

pub loop-next-preserved-else-r1-r2-gt0 : goal.loop-next-preserved-else-r1-r2-gt0
loop-next-preserved-else-r1-r2-gt0 c =
    sofar_one _ _ _ c.requires _ _ _ _ c.past_zeros-i1.ensures c.past_zeros-i2.ensures c.past_zeros-i3.ensures c.loop-next.sums _ c.loop-next.invariant
    (grind arith) (grind arith) (grind arith) (rw c.of-r0.ensures at c.add_rows-else-r1-r2-gt0.ensures)

pub returns : goal.returns
returns c = sofar_all _ _ _ c.requires _ _ c.loop-next.invariant c.loop-next-test.false
