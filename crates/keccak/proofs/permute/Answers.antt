-- `keccak::permute`: two rounds take the next two constants, and the rounds between two flips are those of SPEC 4.7.
use Rattle.std.proofs.Common.{arith, ap, ◌∙◌, ◌≡◌}
use Rattle.keccak.specs.Keccak.{constants}
use Rattle.keccak.specs.Inner.{flipped}
use Rattle.keccak.proofs.Shape.{lanes_below}
use Rattle.keccak.proofs.Complement.{held_rounds, held_rounds-drop, keccak_held}
use Rattle.keccak.proofs.permute.Goals as goal

pub loop-even-init : goal.loop-even-init
unfolding constants
loop-even-init c = rw c.as_chunks.ensures.front

pub loop-even-preserved : goal.loop-even-preserved
loop-even-preserved c =
    rw (c.round-in-loop-even.ensures, c.round.ensures, held_rounds-drop c.as_chunks.result.0.now c.loop-even.even-index c.loop-even.s c.loop-even-test.true) c.loop-even.invariant

pub returns : goal.returns
unfolding held_rounds constants
returns c =
    let e : c.loop-even.even-index ≡ 12 = omega arith in
    c.flip.ensures ∙ ap flipped (rw (e, c.as_chunks.ensures.front) at c.loop-even.invariant ∙ ap (held_rounds constants) c.flip-s.ensures) ∙
    keccak_held c.args.a (lanes_below c.args.a _ c.well_formed.0)
