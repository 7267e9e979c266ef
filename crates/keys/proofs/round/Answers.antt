-- Each step reads places that hold remainders: those of the draw, and those that a step before it made.
use Rattle.std.proofs.Common.{arith}
use Rattle.workspace.proofs.Holding.{made_residues, residues_kept}
use Rattle.workspace.specs.declared.Place.TheVariants as place
use Rattle.keys.proofs.Rounding.{rounded}
use Rattle.keys.proofs.round.Goals as goal

pub multiply-requires-clause-residues : goal.multiply-requires-clause-residues
multiply-requires-clause-residues c =
    let r = c.requires.1 in (r.each place.S1 (omega arith), r.each place.A (omega arith))

pub combine-requires-clause-residues : goal.combine-requires-clause-residues
combine-requires-clause-residues c =
    let g = c.requires.0.good in
    let r = c.requires.1 in
    let m = c.multiply.ensures in
    (made_residues _ g m (r.each place.S1 (omega arith)) (r.each place.A (omega arith)), residues_kept m.touched place.S2 (λ e. omega arith) (r.each place.S2 (omega arith)))

pub combine-requires-2-clause-residues : goal.combine-requires-2-clause-residues
combine-requires-2-clause-residues c =
    let g = c.requires.0.good in
    let r = c.requires.1 in
    let m = c.multiply.ensures in
    let t = made_residues _ g c.combine.ensures (made_residues _ g m (r.each place.S1 (omega arith)) (r.each place.A (omega arith)))
    (residues_kept m.touched place.S2 (λ e. omega arith) (r.each place.S2 (omega arith))) in
    (t, t)

pub combine-requires-3-clause-residues : goal.combine-requires-3-clause-residues
combine-requires-3-clause-residues c =
    let g = c.requires.0.good in
    let r = c.requires.1 in
    let m = c.multiply.ensures in
    let t = residues_kept (c.combine-2.ensures).touched place.T (λ e. omega arith)
    (made_residues _ g c.combine.ensures (made_residues _ g m (r.each place.S1 (omega arith)) (r.each place.A (omega arith)))
    (residues_kept m.touched place.S2 (λ e. omega arith) (r.each place.S2 (omega arith)))) in
    (t, t)

pub returns : goal.returns
returns c = rounded c.args.p _ _ _ _ _ c.multiply.ensures c.combine.ensures c.combine-2.ensures c.combine-3.ensures
