use Rattle.std.proofs.Common.{ℕ, [], ◌++◌, ap, ◌∙◌, rules}
use Rattle.shake.specs.Shake.{shake256}
use Rattle.streams.proofs.Expanding.{drew_c, got_all, got_dry}
use Rattle.streams.proofs.expand_c.Goals as goal

pub returns-in_err-draw_challenge : goal.returns-in_err-draw_challenge
returns-in_err-draw_challenge c =
    got_dry _ _ _
    (drew_c c.args.p _ _ _ c.args.commitment.now
    (c.shake256.ensures ∙ ap (λ (n : ℕ). shake256 (c.args.commitment.now ++ ([] ++ [])) n) (search rules))
    c.draw_challenge.ensures)
    _ _ c.in_err-draw_challenge.was _ c.from_residual.ensures.1

pub returns : goal.returns
returns c =
    got_all _ _ _
    (drew_c c.args.p _ _ _ c.args.commitment.now
    (c.shake256.ensures ∙ ap (λ (n : ℕ). shake256 (c.args.commitment.now ++ ([] ++ [])) n) (search rules))
    c.draw_challenge.ensures)
    _ _ c.in_ok-draw_challenge.was c.reduce_all.ensures
