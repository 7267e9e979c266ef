-- b stands between zeros, every row is added to none, and the exponents are folded: the product.
use Rattle.std.proofs.Common.{rules, ◌≡◌, ℕ, ◌+◌, ◌*◌, length, List, get_or, ap, ◌∙◌, arith}
use Rattle.ring.proofs.Engine.{at_zeros, can_sum, product_of}
use Rattle.ring.proofs.multiply.Goals as goal

pub rows-requires : goal.rows-requires
rows-requires c =
    let r = c.requires.residues in
    let long : length c.fill.new.self ≡ 2 * c.args.p.n + 14 = c.fill.ensures.len ∙ search rules in
    can_sum _ c.requires.trinomial _ _ r.0 r.1 _ _ c.pad.ensures (omega (arith, long))
    (λ e. ap (λ (xs : List ℕ). get_or xs e 0) (c.fill.ensures.after (λ y h. h)) ∙ at_zeros _ e)

pub returns : goal.returns
returns c =
    let r = c.requires.residues in
    product_of _ c.requires.trinomial _ _ r.0 r.1 _ _ _ c.pad.ensures c.rows.ensures c.fold_all.ensures
