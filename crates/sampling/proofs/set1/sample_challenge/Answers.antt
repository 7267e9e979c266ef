use Rattle.std.proofs.Common.{sym, ◌∙◌}
use Rattle.buffers.proofs.Copies.{overlay_all}
use Rattle.sampling.specs.Samplers.{challenge}
use Rattle.sampling.proofs.Calling.{told_c, call_refused, call_done, wrong_length, dry_call, drawn_call}
use Rattle.sampling.proofs.set1.sample_challenge.Goals as goal

pub returns-in_err-takes : goal.returns-in_err-takes
returns-in_err-takes c =
    call_refused challenge _ _ _ (wrong_length challenge _ _ c.in_err-takes.ensures.0) _ (rw (← c.in_err-takes.ensures.1) c.from_residual.ensures.1)

pub returns-in_err-draw_challenge : goal.returns-in_err-draw_challenge
returns-in_err-draw_challenge c =
    call_refused challenge _ _ _
    (dry_call challenge _ _ c.in_ok-takes.ensures _ _ (told_c _ c.numbers.ensures _ _ _ c.draw_challenge.ensures) _ c.in_err-draw_challenge.was) _
    c.from_residual-in_err-draw_challenge.ensures.1

pub returns : goal.returns
returns c =
    call_done challenge _ _ _ _
    (drawn_call challenge _ _ c.in_ok-takes.ensures _ _ (told_c _ c.numbers.ensures _ _ _ c.draw_challenge.ensures) _ c.in_ok-draw_challenge.was)
    (c.copy.ensures ∙ overlay_all _ c.args.out.now (c.in_ok-takes.ensures ∙ sym c.draw_challenge.auto.out))
