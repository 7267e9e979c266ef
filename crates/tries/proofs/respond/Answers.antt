use Rattle.std.proofs.Common.{arith}
use Rattle.workspace.specs.declared.Place.TheVariants as place
use Rattle.workspace.proofs.Holding.{made_residues, residues_kept}
use Rattle.tries.proofs.Stages.{stage_z}
use Rattle.tries.proofs.respond.Goals as goal

pub multiply-requires-clause-residues : goal.multiply-requires-clause-residues
multiply-requires-clause-residues c = let r = c.requires.1 in (r.each place.C (omega arith), r.each place.S1 (omega arith))

pub combine-requires-clause-residues : goal.combine-requires-clause-residues
combine-requires-clause-residues c =
    let r = c.requires.1 in
    let m = c.multiply.ensures in (
      residues_kept m.touched place.Y (λ e. omega arith) (r.each place.Y (omega arith)),
      made_residues _ c.requires.0.good m (r.each place.C (omega arith)) (r.each place.S1 (omega arith)),
    )

pub returns-clause-through : goal.returns-clause-through
returns-clause-through c = λ S κ x u. stage_z c.args.p S κ x u c.multiply.ensures c.combine.ensures
