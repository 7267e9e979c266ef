use Rattle.std.proofs.Common.{ℕ, ap, ◌∙◌, arith, replicate}
use Rattle.sampling.proofs.Bounds.{some_bytes}
use Rattle.sampling.proofs.Going.{GoingA, going_none, less_behind, a_more, a_all, a_dry}
use Rattle.sampling.proofs.element.draw_a.Goals as goal
use Rattle.sampling.proofs.element.draw_a.Goals.{After-keep-found}

-- one group more, of any length that equals p.abytes, so that must-fail/cut_group_used is refused for the length that it gives
more : (c : After-keep-found) → GoingA c.args.p c.args.stream.now c.keep-found.new.out c.keep-found.result c.in-Some.behind.now
more c =
    a_more _ _ _ _ _ c.loop-behind.invariant.going c.requires.good c.loop-behind.invariant.wanted _ c.in-Some.ensures.lookup.0.0 _
    c.in-Some.ensures.lookup.0.2 (omega arith) _ c.low_bits-v.ensures _ _ c.keep-found.auto.out c.keep-found.ensures

pub loop-behind-init : goal.loop-behind-init
loop-behind-init c = record {
  wanted = omega (arith, c.requires.good.n_some);
  going =
      going_none _ _ _ _ _ _ (λ k. omega (arith, c.type_inv.stream k)) _
      (c.clear.ensures ∙ ap (λ (k : ℕ). replicate k 0) c.requires.out_len);
}

pub returns-then-p-found : goal.returns-then-p-found
returns-then-p-found c = a_all _ _ _ _ _ (more (goal.at.returns-then-p-found c).After-keep-found) c.if-p-found.true

pub loop-behind-preserved : goal.loop-behind-preserved
loop-behind-preserved c = record { wanted = c.if-p-found.false; going = more (goal.at.loop-behind-preserved c).After-keep-found }

-- said for the same reason, though the check finds it where the length is p.abytes itself
pub loop-behind-smaller : goal.loop-behind-smaller
loop-behind-smaller c =
    less_behind _ _ _ (omega (arith, some_bytes c.args.p c.requires.good)) c.in-Some.ensures.lookup.0.0 c.in-Some.ensures.lookup.0.2

pub returns : goal.returns
returns c =
    a_dry _ _ _ _ _ c.loop-behind.invariant.going c.loop-behind.invariant.wanted (omega (arith, c.in_default.ensures.lookup.0))
