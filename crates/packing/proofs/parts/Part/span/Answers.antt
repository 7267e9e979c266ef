use Rattle.std.proofs.Common.{◌≡◌, ◌<◌, ◌^◌, ◌∙◌, take, get_or, arith}
use Rattle.std.specs.Prelude.{sum}
use Rattle.std.proofs.lemmas.Grind.{common_steps}
use Rattle.packing.specs.Inner.{start_in, size_in}
use Rattle.packing.proofs.Standing.{start_is, size_is, end_few}
use Rattle.packing.proofs.parts.Part.span.Goals as goal

-- the lengths before the part, and its own
before : (c : goal.After-sum-start) → sum (take c.seat-whole.result.1 c.lengths-lengths.result) ≡ start_in c.args.p c.args.self
before c = rw (c.lengths-lengths.ensures, c.seat-whole.ensures) (start_is c.args.p c.args.self)

own : (c : goal.After-sum-start) → get_or c.lengths-lengths.result c.seat-whole.result.1 0 ≡ size_in c.args.p c.args.self
own c = rw (c.lengths-lengths.ensures, c.seat-whole.ensures) (size_is c.args.p c.args.self)

pub sum-start-requires-clause-fits : goal.sum-start-requires-clause-fits
sum-start-requires-clause-fits c =
    let few : sum (take c.seat-whole.result.1 c.lengths-lengths.result) < 2 ^ 64 =
    rw (c.lengths-lengths.ensures, c.seat-whole.ensures, start_is c.args.p c.args.self) (omega (arith, end_few c.args.p c.args.self c.requires)) in
    grind (arith, common_steps)

starts : (c : goal.After-sum-start) → c.sum-start.result ≡ start_in c.args.p c.args.self
starts c =
    let s : c.sum-start.result ≡ sum (take c.seat-whole.result.1 c.lengths-lengths.result) = grind (arith, common_steps) in
    s ∙ before c

pub overflow_add-result : goal.overflow_add-result
overflow_add-result c = rw (starts c, own c) (record { fits = omega (arith, end_few c.args.p c.args.self c.requires) })

pub returns : goal.returns
returns c = (starts c, rw (starts c, own c))
