use Rattle.std.proofs.Common.{ℕ, ◌%◌, ap, arith, rules, w32, refl, to_z-of_z}
use mir.Val.{SFits}
use Rattle.residues.proofs.Differences.{pos_sub}
use Rattle.sampling.proofs.Taking.{taking_none, taking_full, taking_all, taking_more}
use Rattle.digits.proofs.Windows.{one_shifted}
use Rattle.sampling.proofs.small.draw_group.Goals as goal

pub loop-init : goal.loop-init
loop-init c =
    taking_none _ _ _ _ _ c.requires.out_len c.requires.free _ c.window-rest.ensures

pub returns-then-p-found : goal.returns-then-p-found
returns-then-p-found c = taking_full _ _ _ _ _ _ _ _ _ c.loop.invariant c.if-p-found.true

-- what is kept is compared by its value, so that must-fail/code_3_is_0 is refused for what it counts
pub loop-preserved : goal.loop-preserved
loop-preserved c =
    let fits : SFits w32 c.difference-s.result = search rules in
    taking_more _ _ _ _ _ _ _ _ _ c.loop.invariant c.loop-test.true c.if-p-found.false _
    (ap (λ (k : ℕ). c.loop.rest % k) (one_shifted c.args.p.sbits (omega (arith, c.requires.good.s_room)))) _ _ _ _
    c.keep-found.auto.out c.keep-found.ensures refl (λ h. grind (arith, to_z-of_z, fits, pos_sub))

pub returns : goal.returns
returns c = taking_all _ _ _ _ _ _ _ _ _ c.loop.invariant c.loop-test.false
