use Rattle.std.proofs.Common.{◌≡◌, ◌∙◌, rules}
use Rattle.shake.proofs.Words.{lane_of, lane_of_block}
use Rattle.shake.proofs.absorb.lane.Goals as goal

pub returns : goal.returns
returns c =
    let e : c.map_or.result ≡ lane_of c.as_chunks.result.0.now c.args.i = search rules in
    e ∙ lane_of_block c.args.block.now c.args.i c.told-block c.as_chunks.ensures.front
