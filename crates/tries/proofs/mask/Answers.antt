use Rattle.std.proofs.Common.{arith}
use Rattle.workspace.specs.declared.Place.TheVariants as place
use Rattle.workspace.proofs.Holding.{residues_of, residues_kept}
use Rattle.tries.proofs.Stages.{stage_y, stage_w}
use Rattle.tries.proofs.mask.Goals as goal

pub multiply-requires-clause-residues : goal.multiply-requires-clause-residues
multiply-requires-clause-residues c =
    let y = c.fill_y.ensures in
    (residues_kept y.0 place.A (λ e. omega arith) (c.requires.trinomial.1.each place.A (omega arith)), residues_of _ c.requires.trinomial.0.good y.1)

pub returns-clause-through : goal.returns-clause-through
returns-clause-through c =
    let y = c.fill_y.ensures in
    λ S e u. stage_w c.args.p S c.args.kappa (stage_y c.args.p S c.args.kappa c.args.rho.now e u y.0 y.1) c.multiply.ensures
