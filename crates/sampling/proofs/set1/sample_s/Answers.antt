use Rattle.std.proofs.Common.{sym, ◌∙◌}
use Rattle.buffers.proofs.Copies.{overlay_all}
use Rattle.sampling.specs.Samplers.{sample_s}
use Rattle.sampling.proofs.Calling.{told_s, call_refused, call_done, wrong_length, dry_call, drawn_call}
use Rattle.sampling.proofs.set1.sample_s.Goals as goal

pub returns-in_err-takes : goal.returns-in_err-takes
returns-in_err-takes c =
    call_refused sample_s _ _ _ (wrong_length sample_s _ _ c.in_err-takes.ensures.0) _ (rw (← c.in_err-takes.ensures.1) c.from_residual.ensures.1)

pub returns-in_err-draw_s : goal.returns-in_err-draw_s
returns-in_err-draw_s c =
    call_refused sample_s _ _ _
    (dry_call sample_s _ _ c.in_ok-takes.ensures _ _ (told_s _ c.numbers.ensures _ _ _ c.draw_s.ensures) _ c.in_err-draw_s.was) _
    c.from_residual-in_err-draw_s.ensures.1

pub returns : goal.returns
returns c =
    call_done sample_s _ _ _ _
    (drawn_call sample_s _ _ c.in_ok-takes.ensures _ _ (told_s _ c.numbers.ensures _ _ _ c.draw_s.ensures) _ c.in_ok-draw_s.was)
    (c.copy.ensures ∙ overlay_all _ c.args.out.now (c.in_ok-takes.ensures ∙ sym c.draw_s.auto.out))
