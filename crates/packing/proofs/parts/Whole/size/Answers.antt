use Rattle.std.proofs.Common.{◌≡◌, ◌<◌, ◌^◌, ◌∙◌, arith}
use Rattle.std.specs.Prelude.{sum}
use Rattle.std.proofs.lemmas.Grind.{common_steps}
use Rattle.packing.proofs.Standing.{few_bytes, whole_sum}
use Rattle.packing.proofs.parts.Whole.size.Goals as goal

pub sum-requires-clause-fits : goal.sum-requires-clause-fits
sum-requires-clause-fits c =
    let few : sum c.lengths.result < 2 ^ 64 = rw c.lengths.ensures (omega (arith, few_bytes c.args.p c.requires c.args.self)) in
    grind (arith, common_steps)

pub returns : goal.returns
returns c =
    let s : c.sum.result ≡ sum c.lengths.result = grind (arith, common_steps) in
    s ∙ rw c.lengths.ensures (whole_sum c.args.p c.args.self)
