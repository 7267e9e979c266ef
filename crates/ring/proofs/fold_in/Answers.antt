-- One term c X^e is added: the exponent folds to two, stays, or is negated, by the half of n that it lies in.
use mathlib.Core.Path.{sym, ◌∙◌}
use native.Mathlib.Omega.{arith}
use Rattle.ring.proofs.Folding.{div_low, div_mid, div_high, fold_stays, fold_doubles, fold_negates}
use Rattle.ring.proofs.fold_in.Goals as goal

-- it folds to two
pub returns-in-2 : goal.returns-in-2
returns-in-2 c =
    let d = div_mid c.args.e c.args.half c.requires.some (sym c.range_of-range.ensures ∙ c.in-2.is) in
    fold_doubles _ _ _ _ _ c.requires _ _ d.0 d.1 c.add_at.ensures c.add_at-in-2.ensures

-- it stays
pub returns-in-0-to-1 : goal.returns-in-0-to-1
returns-in-0-to-1 c =
    fold_stays _ _ _ _ _ c.requires _
    (div_low _ _ c.requires.some (omega arith))
    c.add_at-in-0-to-1.ensures

-- it is negated
pub returns-in_default : goal.returns-in_default
returns-in_default c =
    let high =
    div_high c.args.e c.args.half c.requires.some
    (omega arith)
    (λ z. omega (arith, c.range_of-range.ensures ∙ z)) in
    fold_negates _ _ _ _ _ c.requires _ high c.add_at-in_default.ensures
