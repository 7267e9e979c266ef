use Rattle.std.proofs.Common.{◌≡◌, Ok, refl, ap, ◌∙◌, arith, length}
use Rattle.std.proofs.lemmas.Result.{err_from_is_err_and}
use Rattle.packing.specs.declared.parts.Part.TheVariants as part
use Rattle.packing.proofs.Standing.{part_long}
use Rattle.answers.proofs.Outcomes.{refusing, doing}
use Rattle.keys.proofs.Made.{pair_refused, all_packable, pair_made, drawn_ready}
use Rattle.keys.proofs.make_in.Goals as goal

pub returns-in_err-draw : goal.returns-in_err-draw
returns-in_err-draw c =
    let e = err_from_is_err_and c.from_residual.result c.from_residual.ensures.1 in
    rw (e.1, e.2) (refusing _ _ _ (pair_refused c.args.p c.args.zeta.now c.args.seeds.now _ (c.draw.ensures.ill _ c.in_err-draw.was)))

-- that the draw went well is found from what is known, with no arm named: must-fail/dry_is_done has another arm
pub round-requires : goal.round-requires
round-requires c =
    let drew : c.draw.result ≡ Ok tt = grind arith in
    let d = c.draw.ensures.well drew in
    (c.requires.trinomial.0, drawn_ready c.args.p c.requires.trinomial.0 d.0 _ (omega (arith, c.requires.trinomial.1, c.draw.auto.work)) d.2)

pub both-requires-clause-zeta_len : goal.both-requires-clause-zeta_len
both-requires-clause-zeta_len c =
    (c.requires.zeta_len.0, ap length c.of.ensures ∙ part_long c.args.p part.NewK c.args.seeds.now c.requires.zeta_len.1)

pub both-requires-clause-packable : goal.both-requires-clause-packable
both-requires-clause-packable c =
    let drew : c.draw.result ≡ Ok tt = grind arith in
    let d = c.draw.ensures.well drew in
    all_packable c.args.p c.args.zeta.now c.args.seeds.now d.0 d.1 c.requires.trinomial.0 _ (c.round.ensures d.0 d.2)

pub returns : goal.returns
returns c =
    let drew : c.draw.result ≡ Ok tt = grind arith in
    let d = c.draw.ensures.well drew in
    doing _ _ _ _
    (pair_made c.args.p c.args.zeta.now c.args.seeds.now d.0 d.1 c.requires.trinomial.0 _ (c.round.ensures d.0 d.2) _ _ _
    c.of.ensures c.both.ensures.public_key_after c.both.ensures.secret_key_after) refl
