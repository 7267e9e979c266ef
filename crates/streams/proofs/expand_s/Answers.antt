use Rattle.std.proofs.Common.{ℕ, [], ◌++◌, ap, ◌∙◌, rules}
use Rattle.shake.specs.Shake.{shake256}
use Rattle.streams.proofs.Expanding.{drew_s, got_all, got_dry}
use Rattle.streams.proofs.expand_s.Goals as goal

pub returns-in_err-draw_s : goal.returns-in_err-draw_s
returns-in_err-draw_s c =
    got_dry _ _ _
    (drew_s c.args.p _ _ _ c.args.xi.now
    (c.shake256.ensures ∙ ap (λ (n : ℕ). shake256 (c.args.xi.now ++ ([] ++ [])) n) (search rules))
    c.draw_s.ensures)
    _ _ c.in_err-draw_s.was _ c.from_residual.ensures.1

pub returns : goal.returns
returns c =
    got_all _ _ _
    (drew_s c.args.p _ _ _ c.args.xi.now
    (c.shake256.ensures ∙ ap (λ (n : ℕ). shake256 (c.args.xi.now ++ ([] ++ [])) n) (search rules))
    c.draw_s.ensures)
    _ _ c.in_ok-draw_s.was c.reduce_all.ensures
