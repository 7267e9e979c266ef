use Rattle.std.proofs.Common.{ap, ◌∙◌, arith}
use Rattle.shake.specs.Shake.{shake256}
use Rattle.scheme.specs.Try.{commit}
use Rattle.workspace.specs.declared.Place.TheVariants as place
use Rattle.workspace.proofs.Holding.{own, room_kept}
use Rattle.workspace.proofs.Packing.{back_highs}
use Rattle.tries.proofs.commit_to.Goals as goal

pub combine-requires-clause-residues : goal.combine-requires-clause-residues
combine-requires-clause-residues c = let r = c.requires.trinomial.1.each place.W (omega arith) in (r, r)

pub commit-requires-clause-trinomial : goal.commit-requires-clause-trinomial
commit-requires-clause-trinomial c =
    let T = c.requires.trinomial.0 in
    let m = c.combine.ensures in
    let w = own c.args.p T.good place.W c.args.work.now (c.requires.trinomial.1.each place.W (omega arith)) in
    (T, room_kept m.touched c.requires.trinomial.1.room, (back_highs c.args.p T _ (m.here _ _ w w)).packable)

pub returns-clause-commitment_after : goal.returns-clause-commitment_after
returns-clause-commitment_after c =
    λ w h. c.commit.ensures ∙ ap (commit c.args.p shake256 c.args.mu.now) (back_highs _ c.requires.trinomial.0 w (c.combine.ensures.here w w h h)).same
