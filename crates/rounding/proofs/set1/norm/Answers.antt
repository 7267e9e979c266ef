use Rattle.std.proofs.Common.{refl, arith, rules, pos}
use Rattle.std.proofs.lemmas.Grind.{common_steps}
use Rattle.std.proofs.lemmas.List.Recursion.{max_bounds, max_least}
use Rattle.residues.specs.Remainder.{magnitude}
use Rattle.rounding.specs.Rounding.{norm}
use Rattle.rounding.proofs.set1.norm.Goals as goal

pub returns : goal.returns
unfolding norm
returns c =
    let bounds = max_bounds (norm 8401537) (magnitude 8401537) refl (λ _ _. refl) c.args.values.now in
    let least = max_least (norm 8401537) (magnitude 8401537) refl (λ _ _. refl) c.args.values.now (pos 0) c.unwrap_or.result (search rules) in
    grind (arith, common_steps, bounds, least)
