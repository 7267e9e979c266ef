use Rattle.std.proofs.Common.{ℕ, pos, ap, ◌∙◌, arith, replicate}
use Rattle.sampling.proofs.Going.{GoingS, going_none, s_more, s_all, s_dry}
use Rattle.sampling.proofs.small.draw_s.Goals as goal
use Rattle.sampling.proofs.small.draw_s.Goals.{After-draw_group-found}

-- one group more
more : (c : After-draw_group-found) → GoingS c.args.p c.args.stream.now c.draw_group-found.new.out c.draw_group-found.result c.in-Some.behind.now
more c =
    s_more _ _ _ _ _ c.loop-behind.invariant.going c.requires.good c.in-Some.ensures.lookup.0.0 _
    c.in-Some.ensures.lookup.0.2 _ _ c.draw_group-found.auto.out c.draw_group-found.ensures

pub loop-behind-init : goal.loop-behind-init
loop-behind-init c = record {
  wanted = omega (arith, c.requires.good.n_some);
  going =
      going_none _ _ _ _ _ _ (λ k. omega (arith, c.type_inv.stream k)) _
      (c.clear.ensures ∙ ap (λ (k : ℕ). replicate k (pos 0)) c.requires.out_len);
}

pub returns-then-p-found : goal.returns-then-p-found
returns-then-p-found c = s_all _ _ _ _ _ (more (goal.at.returns-then-p-found c).After-draw_group-found) c.if-p-found.true

pub loop-behind-preserved : goal.loop-behind-preserved
loop-behind-preserved c = record { wanted = c.if-p-found.false; going = more (goal.at.loop-behind-preserved c).After-draw_group-found }

pub returns : goal.returns
returns c =
    s_dry _ _ _ _ _ c.loop-behind.invariant.going c.loop-behind.invariant.wanted (omega (arith, c.in_default.ensures.lookup.0))
