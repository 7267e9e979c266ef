use Rattle.std.proofs.Common.{sym, ◌∙◌}
use Rattle.sampling.specs.Samplers.{sample_a}
use Rattle.sampling.proofs.Calling.{told_a, small_a, call_refused, call_done, wrong_length, dry_call, drawn_call}
use Rattle.sampling.proofs.set1.sample_a.Goals as goal

pub returns-in_err-takes : goal.returns-in_err-takes
returns-in_err-takes c =
    call_refused sample_a _ _ _ (wrong_length sample_a _ _ c.in_err-takes.ensures.0) _ (rw (← c.in_err-takes.ensures.1) c.from_residual.ensures.1)

pub returns-in_err-draw_a : goal.returns-in_err-draw_a
returns-in_err-draw_a c =
    call_refused sample_a _ _ _
    (dry_call sample_a _ _ c.in_ok-takes.ensures _ _ (told_a _ c.numbers.ensures _ _ _ c.draw_a.ensures) _ c.in_err-draw_a.was) _
    c.from_residual-in_err-draw_a.ensures.1

pub store_plain-requires : goal.store_plain-requires
store_plain-requires c = (
  small_a _ c.numbers.ensures _ _ _ c.draw_a.ensures _ c.in_ok-draw_a.was,
  c.in_ok-takes.ensures ∙ sym c.draw_a.auto.out,
)

pub returns : goal.returns
returns c =
    call_done sample_a _ _ _ _
    (drawn_call sample_a _ _ c.in_ok-takes.ensures _ _ (told_a _ c.numbers.ensures _ _ _ c.draw_a.ensures) _ c.in_ok-draw_a.was)
    c.store_plain.ensures
