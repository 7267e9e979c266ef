use Rattle.std.proofs.Common.{ap, ◌∙◌, [], take, lit≤}
use Rattle.std.specs.List.{flat_map}
use Rattle.shake.specs.Inner.{lanes_bytes}
use Rattle.shake.proofs.Mapped.{map_of_five}
use Rattle.shake.proofs.Squeezed.{take-bytes, flat_rows}
use Rattle.shake.proofs.squeeze.block.Goals as goal

pub returns : goal.returns
returns c =
    let rows = map_of_five _ lanes_bytes c.map-rows.ensures.items (λ x y p q called. called.met) [] in
    let flat = c.as_flattened.ensures.value ∙ ap (flat_map (λ l. l)) (c.as_flattened-lanes.ensures.value ∙ ap (flat_map (λ r. r)) rows) ∙ flat_rows c.args.a.now in
    let first = rw c.unwrap.ensures at c.first_chunk.ensures.cases in
    first.same ∙ ap (take 136) flat ∙ take-bytes 136 200 0 c.args.a.now (lit≤ tt)
