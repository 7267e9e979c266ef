-- a, s1 and s2, one after the other: the first that is dry ends it.
use Rattle.std.proofs.lemmas.Result.{err_from_is_err_and}
use Rattle.keys.proofs.Drawing.{no_a, no_s1, drew_all}
use Rattle.keys.proofs.draw.Goals as goal

pub returns-in_err-fill_a : goal.returns-in_err-fill_a
returns-in_err-fill_a c =
    let e = err_from_is_err_and c.from_residual.result c.from_residual.ensures.1 in
    rw (e.1, e.2) (no_a c.args.p c.args.zeta.now c.args.seeds.now _ _ _ c.fill_a.ensures _ c.in_err-fill_a.was)

pub returns-in_err-fill_s : goal.returns-in_err-fill_s
returns-in_err-fill_s c =
    let e = err_from_is_err_and c.from_residual-in_err-fill_s.result c.from_residual-in_err-fill_s.ensures.1 in
    rw (e.1, e.2)
    (no_s1 c.args.p c.args.zeta.now c.args.seeds.now _ _ _ c.fill_a.ensures c.in_ok-fill_a.was _ _
    (rw c.of.ensures at c.fill_s.ensures) _ c.in_err-fill_s.was)

pub returns : goal.returns
returns c =
    drew_all c.args.p c.args.zeta.now c.args.seeds.now _ _ _ c.fill_a.ensures c.in_ok-fill_a.was _ _
    (rw c.of.ensures at c.fill_s.ensures) c.in_ok-fill_s.was _ _ (rw c.of-2.ensures at c.fill_s-2.ensures)
