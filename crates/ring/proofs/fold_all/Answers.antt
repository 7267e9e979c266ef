-- Every exponent is folded in, one after the other.
use Rattle.std.proofs.Common.{◌≡◌, ℕ, ◌%◌, ◌<◌, ◌≤◌, List, length, get_or, take, ap, ◌∙◌, arith}
use Rattle.std.proofs.lemmas.List.{get_or-take, length-take-le}
use Rattle.ring.proofs.Engine.{reached_none, can_fold, reached_more}
use Rattle.ring.proofs.fold_all.Goals as goal

-- an exponent that the loop comes to is below m, and its number stands among the first m as among all
within : (m e q c : ℕ) (sums : List ℕ) → m ≤ length sums → e < length (take m sums) → c ≡ get_or (take m sums) e 0 % q → (e < m) × (c ≡ get_or sums e 0 % q)
within m e q c sums l h r =
    let below : e < m = omega (arith, length-take-le m sums l) in
    (below, r ∙ ap (λ (x : ℕ). x % q) (get_or-take m sums e 0 below))

pub loop-e-init : goal.loop-e-init
loop-e-init c = reached_none _ c.requires.trinomial c.args.sums.now _ (rw c.requires.sums_len.1 at (c.fill.ensures.after (λ y h. h)))

pub fold_in-requires : goal.fold_in-requires
fold_in-requires c =
    let w = within _ _ _ _ c.args.sums.now (omega arith) c.loop-e-test.true c.modulo.ensures in
    rw w.1 (can_fold _ c.requires.trinomial c.args.sums.now _ _ c.loop-e.invariant w.0)

pub loop-e-preserved : goal.loop-e-preserved
loop-e-preserved c =
    let w = within _ _ _ _ c.args.sums.now (omega arith) c.loop-e-test.true c.modulo.ensures in
    reached_more _ c.requires.trinomial _ _ _ _ c.loop-e.invariant (rw w.1 at c.fold_in.ensures)
