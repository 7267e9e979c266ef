use Rattle.std.proofs.Common.{List, [], ℕ, length, arith, refl, sym, ◌∙◌}
use Rattle.workspace.specs.declared.Place.{Place}
use Rattle.workspace.specs.declared.Place.TheVariants as place
use Rattle.scheme.specs.Try.{Signer}
use Rattle.tries.specs.Inner.{signer_in, Through}
use Rattle.tries.proofs.Stages.{through_ready, stage_ct0, stage_hints}
use Rattle.tries.proofs.Trying.{trying_none, trying_ready, trying_key, trying_dry, trying_more, first_end, Begun, begun, Reached, reached, reached_c, reached_ready, reached_residues, is_dry, w_kept, hint_bit}
use Rattle.tries.proofs.Judging.{ZSmall, LowSmall, Ct0Small, fails_dry, each_below, z_small, z_large, low_small, low_large, ct0_small, ct0_large, ones_many, passing}
use Rattle.tries.proofs.first_passing.Goals.{Start, After-mask, After-commit_to, Else-is_err, After-respond, After-rest, After-multiply, After-combine}
use Rattle.tries.proofs.first_passing.Goals as goal

-- ---- how far the try at hand has come
abbrev signer : Start → Signer
signer c = signer_in c.args.p c.args.work.now c.args.mu.now c.args.rho.now

w_held : (c : After-mask) → Through c.args.p (signer (goal.at.After-mask c).Start) c.tries.next [] place.W c.mask.new.work
w_held c = c.mask.ensures.through (signer (goal.at.After-mask c).Start) refl (trying_key c.requires.trinomial.0 c.requires.trinomial.1 c.tries.invariant)

begun_at : (c : After-commit_to) → Begun c.args.p (signer (goal.at.After-commit_to c).Start) c.tries.next c.commit_to.new.work c.commit_to.new.commitment (length c.tries.work)
begun_at c = begun (w_held (goal.at.After-commit_to c).After-mask) c.commit_to.ensures.touched c.commit_to.ensures.commitment_after c.mask.ensures.work_len_unchanged

abbrev At : After-commit_to → Place → List ℕ → Type 0
At c k work = Reached c.args.p (signer (goal.at.After-commit_to c).Start) c.tries.next k work c.commit_to.new.commitment (length c.tries.work)

at_c : (c : Else-is_err) → At (goal.at.Else-is_err c).After-commit_to place.C c.fill_c.new.work
at_c c = reached_c (begun_at (goal.at.Else-is_err c).After-commit_to) c.fill_c.ensures c.if-is_err.ensures.value

abbrev at_z : (c : After-respond) → At (goal.at.After-respond c).After-commit_to place.Z c.respond.new.work
at_z c = reached (at_c (goal.at.After-respond c).Else-is_err) place.Z c.respond.ensures.through c.respond.ensures.work_len_unchanged

abbrev at_rest : (c : After-rest) → At (goal.at.After-rest c).After-commit_to place.Rest c.rest.new.work
at_rest c = reached (at_z (goal.at.After-rest c).After-respond) place.Rest c.rest.ensures.through c.rest.ensures.work_len_unchanged

abbrev at_ct0 : (c : After-multiply) → At (goal.at.After-multiply c).After-commit_to place.Ct0 c.multiply.new.work
at_ct0 c =
    reached (at_rest (goal.at.After-multiply c).After-rest) place.Ct0 (λ S κ x u. stage_ct0 c.args.p S κ x u c.multiply.ensures) c.multiply.ensures.touched.long

abbrev at_hints : (c : After-combine) → At (goal.at.After-combine c).After-commit_to place.Hints c.combine.new.work
at_hints c =
    reached (at_ct0 (goal.at.After-combine c).After-multiply) place.Hints (λ S κ x u. stage_hints c.args.p S κ x u c.combine.ensures) c.combine.ensures.touched.long

-- ---- the tests that it has passed
z_ok : (c : After-rest) → ZSmall (at_rest c)
z_ok c = z_small c.requires.trinomial.0 (at_z (goal.at.After-rest c).After-respond) c.slot-z-items.ensures c.loop-z.invariant (omega arith)

low_ok : (c : After-multiply) → LowSmall (at_ct0 c)
low_ok c = low_small c.requires.trinomial.0 (at_rest (goal.at.After-multiply c).After-rest) c.slot-low-items.ensures c.loop-low.invariant (omega arith)

ct0_ok : (c : After-combine) → Ct0Small (at_hints c)
ct0_ok c = ct0_small c.requires.trinomial.0 (at_ct0 (goal.at.After-combine c).After-multiply) c.slot-ct0-items.ensures c.loop-ct0.invariant (omega arith)

-- ---- the answers
pub tries-init : goal.tries-init
tries-init c = trying_none c.args.p c.requires.trinomial.0 c.args.mu.now c.args.rho.now c.args.limit c.args.work.now c.args.commitment.now c.requires.trinomial.1

pub mask-requires-clause-trinomial : goal.mask-requires-clause-trinomial
mask-requires-clause-trinomial c = (c.requires.trinomial.0, trying_ready c.requires.trinomial.0 c.requires.trinomial.1 c.tries.invariant)

pub commit_to-requires-clause-trinomial : goal.commit_to-requires-clause-trinomial
commit_to-requires-clause-trinomial c =
    let at = goal.at.commit_to-requires-clause-trinomial c in
    (c.requires.trinomial.0, through_ready c.args.p (signer at.Start) c.requires.trinomial.0 c.tries.next [] place.W (omega arith) (w_held at.After-mask))

pub tries-preserved-then-is_err : goal.tries-preserved-then-is_err
tries-preserved-then-is_err c =
    let B = begun_at (goal.at.tries-preserved-then-is_err c).After-commit_to in
    trying_dry c.tries.invariant c.if-limit-next.false (w_kept B c.fill_c.ensures) (fails_dry B (is_dry B c.fill_c.ensures c.if-is_err.ensures.value)) c.commit_to.auto.commitment

pub respond-requires : goal.respond-requires
respond-requires c = (c.requires.trinomial.0, reached_ready c.requires.trinomial.0 (at_c (goal.at.respond-requires c).Else-is_err) (omega arith))

pub magnitude-requires : goal.magnitude-requires
magnitude-requires c = each_below c.requires.trinomial.0 (at_z (goal.at.magnitude-requires c).After-respond) c.slot-z-items.ensures c.loop-z.z-index

pub tries-preserved-then-p-magnitude : goal.tries-preserved-then-p-magnitude
tries-preserved-then-p-magnitude c =
    let D = at_z (goal.at.tries-preserved-then-p-magnitude c).After-respond in
    trying_more c.tries.invariant c.if-limit-next.false D (omega arith)
    (z_large c.requires.trinomial.0 D c.slot-z-items.ensures c.loop-z.z-index (omega arith) (omega arith)) c.commit_to.auto.commitment

pub rest-requires : goal.rest-requires
rest-requires c = (c.requires.trinomial.0, reached_ready c.requires.trinomial.0 (at_z (goal.at.rest-requires c).After-respond) (omega arith))

pub low_of-requires-clause-x_lt_q : goal.low_of-requires-clause-x_lt_q
low_of-requires-clause-x_lt_q c =
    each_below c.requires.trinomial.0 (at_rest (goal.at.low_of-requires-clause-x_lt_q c).After-rest) c.slot-low-items.ensures c.loop-low.low-index

pub tries-preserved-then-p-low_of : goal.tries-preserved-then-p-low_of
tries-preserved-then-p-low_of c =
    let r = (goal.at.tries-preserved-then-p-low_of c).After-rest in
    trying_more c.tries.invariant c.if-limit-next.false (at_rest r) (omega arith)
    (low_large c.requires.trinomial.0 (at_rest r) c.slot-low-items.ensures (z_ok r) c.loop-low.low-index (omega arith) (omega arith)) c.commit_to.auto.commitment

pub multiply-requires-clause-residues : goal.multiply-requires-clause-residues
multiply-requires-clause-residues c =
    let held = reached_residues c.requires.trinomial.0 (at_rest (goal.at.multiply-requires-clause-residues c).After-rest) in
    (held place.C (omega arith), held place.T0 (omega arith))

pub magnitude-requires-in-loop-ct0 : goal.magnitude-requires-in-loop-ct0
magnitude-requires-in-loop-ct0 c =
    each_below c.requires.trinomial.0 (at_ct0 (goal.at.magnitude-requires-in-loop-ct0 c).After-multiply) c.slot-ct0-items.ensures c.loop-ct0.ct0-index

pub tries-preserved-then-p-magnitude-2 : goal.tries-preserved-then-p-magnitude-2
tries-preserved-then-p-magnitude-2 c =
    let at = goal.at.tries-preserved-then-p-magnitude-2 c in
    let m = at.After-multiply in
    trying_more c.tries.invariant c.if-limit-next.false (at_ct0 m) (omega arith)
    (ct0_large c.requires.trinomial.0 (at_ct0 m) c.slot-ct0-items.ensures (z_ok at.After-rest) (low_ok m) c.loop-ct0.ct0-index (omega arith) (omega arith))
    c.commit_to.auto.commitment

pub combine-requires-clause-residues : goal.combine-requires-clause-residues
combine-requires-clause-residues c =
    let held = reached_residues c.requires.trinomial.0 (at_ct0 (goal.at.combine-requires-clause-residues c).After-multiply) in
    (held place.Rest (omega arith), held place.Ct0 (omega arith))

pub count_ones-requires-clause-by_index : goal.count_ones-requires-clause-by_index
count_ones-requires-clause-by_index c = hint_bit c.requires.trinomial.0 (at_hints (goal.at.count_ones-requires-clause-by_index c).After-combine)

pub tries-preserved : goal.tries-preserved
tries-preserved c =
    let at = goal.at.tries-preserved c in
    let h = at.After-combine in
    trying_more c.tries.invariant c.if-limit-next.false (at_hints h) (omega arith)
    (ones_many c.requires.trinomial.0 (at_hints h) (z_ok at.After-rest) (low_ok at.After-multiply) (ct0_ok h) c.count_ones.ensures c.if-p-count_ones.true)
    c.commit_to.auto.commitment

pub returns-then-limit-next : goal.returns-then-limit-next
returns-then-limit-next c = sym c.tries.invariant.rest ∙ first_end _ _ _ c.if-limit-next.true

pub returns-else-p-count_ones : goal.returns-else-p-count_ones
returns-else-p-count_ones c =
    let at = goal.at.returns-else-p-count_ones c in
    let h = at.After-combine in
    passing c.requires.trinomial.0 (at_hints h) (z_ok at.After-rest) (low_ok at.After-multiply) (ct0_ok h) c.count_ones.ensures c.if-limit-next.false c.tries.invariant.rest c.if-p-count_ones.false
