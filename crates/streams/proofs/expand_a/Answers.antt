use Rattle.std.proofs.Common.{ℕ, [], ◌∷◌, ◌++◌, ap, ◌∙◌, rules}
use Rattle.shake.specs.Shake.{shake256}
use Rattle.streams.proofs.Expanding.{drew_a, got_all, got_dry, own_a}
use Rattle.streams.proofs.expand_a.Goals as goal

pub returns-in_err-draw_a : goal.returns-in_err-draw_a
returns-in_err-draw_a c =
    got_dry _ _ _
    (drew_a c.args.p _ _ _ c.args.zeta.now
    (c.shake256.ensures ∙ ap (λ (n : ℕ). shake256 (c.args.zeta.now ++ ((0 ∷ 0 ∷ []) ++ [])) n) (search rules))
    c.draw_a.ensures)
    _ _ c.in_err-draw_a.was _ c.from_residual.ensures.1

pub returns : goal.returns
returns c =
    got_all _ _ _
    (drew_a c.args.p _ _ _ c.args.zeta.now
    (c.shake256.ensures ∙ ap (λ (n : ℕ). shake256 (c.args.zeta.now ++ ((0 ∷ 0 ∷ []) ++ [])) n) (search rules))
    c.draw_a.ensures)
    _ _ c.in_ok-draw_a.was (own_a c.args.p c.requires.trinomial.good _ _ _ c.draw_a.ensures c.in_ok-draw_a.was)
