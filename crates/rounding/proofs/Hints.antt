-- The laws of hints (SPEC 12.4 to 12.6), for every set that meets the conditions. The wrap-around step is covered: places lie on a circle of q numbers.
use mathlib.Core.Path.{◌≡◌, sym, ap, ◌∙◌}
use mathlib.Core.Bool.{Bool, true, false, cond}
use mathlib.Core.Logic.{◌⊎◌, inl, inr, ⊎_elim}
use Prim.Native.Nat.{ℕ, suc, ◌+◌, ◌-◌, ◌*◌, ◌%◌, ◌≤◌, ◌<◌}
use native.Mathlib.Nat.{mod-lt, mod-eq_of_lt, mod_self, mod-add-mod, add-mod_right, div-add-mod', mul-le-mul_right, lt_of_mul-lt-mul_right}
use native.Mathlib.Decide.{ℕ_discrete}
use native.Mathlib.Omega.{arith}
use borrow.Author.Tests.{lt-ltb, le-ltb, eq-eqb, ne_eqb}
use lib.Dec.{eqb}
use lib.IntN.{ℤ, pos, negsuc, sub_ℕ, nat_abs, ◌+ℤ◌}
use lib.Signed.{lt_z}
use Rattle.sets.specs.Set.{Set, alpha, steps}
use Rattle.sets.specs.Good.{Good}
use Rattle.residues.specs.Remainder.{residue}
use Rattle.residues.proofs.Order.{below_or}
use Rattle.residues.proofs.Differences.{sub_pos, sub_abs}
use Rattle.residues.proofs.Remainders.{residue_lt, residue_add}
use Rattle.rounding.specs.Rounding.{decompose, high_bits, low_bits, make_hint, moved, use_hint}
use Rattle.rounding.proofs.Closed.{offset, step_of, closed}

-- v is u moved by at most g, around q
pub data Near (q g u v : ℕ) : Type 0 where
  beside : v ≤ u + g → u ≤ v + g → Near q g u v
  over : v + q ≤ u + g → Near q g u v
  under : u + q ≤ v + g → Near q g u v

module _ (p : Set) (good : Good p) where
  q_pos : 0 < p.q
  q_pos = omega (arith, good.whole)

  -- the place of r on the circle of q numbers, turned by γ2
  abbrev pub place : ℤ → ℕ
  place r = offset p (residue p.q r)

  place_lt : (r : ℤ) → place r < p.q
  place_lt r = mod-lt (residue p.q r + p.gamma2) q_pos

  pub high_at : (r : ℤ) → high_bits p r ≡ step_of p (place r)
  unfolding decompose
  high_at r = (closed p good (residue p.q r) (residue_lt p.q q_pos r)).high_is

  pub low_at : (r : ℤ) → low_bits p r ≡ sub_ℕ (place r) (p.gamma2 + step_of p (place r) * alpha p)
  unfolding decompose
  low_at r = (closed p good (residue p.q r) (residue_lt p.q q_pos r)).low_is

  place_add : (r z : ℤ) → place (r +ℤ z) ≡ (place r + residue p.q z) % p.q
  place_add r z =
      let x = residue p.q r in
      let w = residue p.q z in
      ap (λ (n : ℕ). (n + p.gamma2) % p.q) (residue_add p.q q_pos r z) ∙
      mod-add-mod (x + w) p.q p.gamma2 ∙
      ap (λ (n : ℕ). n % p.q) (omega arith) ∙
      sym (mod-add-mod (x + p.gamma2) p.q w)

  around : (u a g q : ℕ) → u < q → a ≤ g → g < q → Near q g u ((u + a) % q)
  around u a g q hu ha hg =
      ⊎_elim (λ h. let e : (u + a) % q ≡ u + a = mod-eq_of_lt h in beside (omega arith) (omega arith))
      (λ h.
      let e : (u + a) % q ≡ u + a - q =
      ap (λ (n : ℕ). n % q) {x = u + a} {y = u + a - q + q} (omega arith) ∙ add-mod_right (u + a - q) q ∙ mod-eq_of_lt (omega arith) in
      over (omega arith))
      (below_or (u + a) q)

  around_neg : (u a g q : ℕ) → u < q → suc a ≤ g → g < q → Near q g u ((u + ((q - 1) - a)) % q)
  around_neg u a g q hu ha hg =
      ⊎_elim
      (λ h. let e : (u + ((q - 1) - a)) % q ≡ u + ((q - 1) - a) = mod-eq_of_lt (omega arith) in under (omega arith))
      (λ h.
      let e : (u + ((q - 1) - a)) % q ≡ u - suc a =
      ap (λ (n : ℕ). n % q) {x = u + ((q - 1) - a)} {y = u - suc a + q} (omega arith) ∙ add-mod_right (u - suc a) q ∙ mod-eq_of_lt (omega arith) in
      beside (omega arith) (omega arith))
      (below_or u (suc a))

  near_by : (z : ℤ) (u g : ℕ) → u < p.q → nat_abs z ≤ g → g < p.q → Near p.q g u ((u + residue p.q z) % p.q)
  unfolding residue
  near_by (pos a) u g hu ha hg = rw (mod-eq_of_lt {n = a} {m = p.q} (omega arith)) (around u a g p.q hu ha hg)
  near_by (negsuc a) u g hu ha hg = rw (mod-eq_of_lt {n = a} {m = p.q} (omega arith)) (around_neg u a g p.q hu ha hg)

  near : (r z : ℤ) (g : ℕ) → nat_abs z ≤ g → g ≤ p.gamma2 → Near p.q g (place r) (place (r +ℤ z))
  near r z g ha hg =
      rw (place_add r z) (near_by z (place r) g (place_lt r) ha
      (let l = mul-le-mul_right (alpha p) good.many in omega (arith, good.whole, good.some)))

  -- u stands in step h
  pub record In (u h : ℕ) : Type 0 where
    pub from : h * alpha p ≤ u - 1
    pub upto : u ≤ h * alpha p + alpha p
    pub least : h < steps p

  in_step : (u : ℕ) → u < p.q → In u (step_of p u)
  in_step u hu =
      let w : 0 < alpha p = omega (arith, good.some) in
      let e = div-add-mod' (u - 1) (alpha p) in
      let l = mod-lt (u - 1) w in
      let t = mul-le-mul_right (alpha p) good.many in
      record {
        from = omega arith;
        upto = omega arith;
        least = lt_of_mul-lt-mul_right (alpha p) (omega (arith, good.whole));
      }

  in_one : (u h k : ℕ) → In u h → In u k → h ≡ k
  in_one u h k a b =
      let w : 0 < alpha p = omega (arith, good.some) in
      let f : h < k + 1 = lt_of_mul-lt-mul_right (alpha p) (omega arith) in
      let g : k < h + 1 = lt_of_mul-lt-mul_right (alpha p) (omega arith) in
      omega arith

  module _ (u v h k : ℕ) (hu : u < p.q) (hv : v < p.q) (a : In u h) (b : In v k) where
    -- a move up from above the middle, or down from below it, goes one step at most
    up : Near p.q p.gamma2 u v → p.gamma2 + h * alpha p < u → (h ≡ k → ⊥) → (h + 1) % steps p ≡ k
    up (beside x y) m n =
        let f : h < k + 1 = lt_of_mul-lt-mul_right (alpha p) (omega arith) in
        let g : k < h + 2 = lt_of_mul-lt-mul_right (alpha p) (omega (arith, good.some)) in
        mod-eq_of_lt (omega arith) ∙ omega arith
    up (over x) m n =
        let f : steps p < h + 2 = lt_of_mul-lt-mul_right (alpha p) (omega (arith, good.whole, good.some)) in
        let g : k < 1 = lt_of_mul-lt-mul_right (alpha p) (omega (arith, good.some)) in
        ap (λ (n : ℕ). n % steps p) {x = h + 1} {y = steps p} (omega arith) ∙ mod_self (steps p) ∙ omega arith
    up (under x) m n = absurd (omega arith)

    down : Near p.q p.gamma2 u v → u ≤ p.gamma2 + h * alpha p → (h ≡ k → ⊥) → (h + (steps p - 1)) % steps p ≡ k
    down (beside x y) m n =
        let f : k < h + 1 = lt_of_mul-lt-mul_right (alpha p) (omega (arith, good.some)) in
        let g : h < k + 2 = lt_of_mul-lt-mul_right (alpha p) (omega (arith, good.some)) in
        ap (λ (n : ℕ). n % steps p) {x = h + (steps p - 1)} {y = k + steps p} (omega arith) ∙ add-mod_right k (steps p) ∙ mod-eq_of_lt b.least
    down (under x) m n =
        let f : steps p < k + 2 = lt_of_mul-lt-mul_right (alpha p) (omega (arith, good.whole, good.some)) in
        let g : h < 1 = lt_of_mul-lt-mul_right (alpha p) (omega (arith, good.some)) in
        mod-eq_of_lt (omega arith) ∙ omega arith
    down (over x) m n = let l = mul-le-mul_right (alpha p) a.least in absurd (omega (arith, good.whole))

    -- a short move from well inside a step stays in it
    stay : (g : ℕ) → Near p.q g u v → h * alpha p + g < u → u + g < h * alpha p + alpha p → h ≡ k
    stay g (beside x y) m n =
        let f : h < k + 1 = lt_of_mul-lt-mul_right (alpha p) (omega arith) in
        let l : k < h + 1 = lt_of_mul-lt-mul_right (alpha p) (omega arith) in
        omega arith
    stay g (over x) m n = let l = mul-le-mul_right (alpha p) a.least in absurd (omega (arith, good.whole))
    stay g (under x) m n = absurd (omega arith)

  pub moved_up : (r : ℤ) → p.gamma2 + step_of p (place r) * alpha p < place r → moved p (decompose p r) ≡ (step_of p (place r) + 1) % steps p
  unfolding moved
  moved_up r h = simp (low_at r, sub_pos, lt-ltb _ _ h, high_at r)

  pub moved_down : (r : ℤ) → place r ≤ p.gamma2 + step_of p (place r) * alpha p → moved p (decompose p r) ≡ (step_of p (place r) + (steps p - 1)) % steps p
  unfolding moved
  moved_down r h = simp (low_at r, sub_pos, le-ltb _ _ h, high_at r)

  -- SPEC 12.4: a hint made for a move of at most γ2 gives the high bits after the move
  pub hint_recovers : (z r : ℤ) → nat_abs z ≤ p.gamma2 → use_hint p (make_hint p z r) r ≡ high_bits p (r +ℤ z)
  unfolding use_hint make_hint
  hint_recovers z r hz =
      let u = place r in
      let v = place (r +ℤ z) in
      let a = in_step u (place_lt r) in
      let b = in_step v (place_lt (r +ℤ z)) in
      let w = near r z p.gamma2 hz (omega arith) in
      by (ℕ_discrete (step_of p u) (step_of p v)) (below_or (p.gamma2 + step_of p u * alpha p) u) a b w
    where
      by :
          Dec (step_of p (place r) ≡ step_of p (place (r +ℤ z))) →
          ((p.gamma2 + step_of p (place r) * alpha p < place r) ⊎ (place r ≤ p.gamma2 + step_of p (place r) * alpha p)) →
          In (place r) (step_of p (place r)) →
          In (place (r +ℤ z)) (step_of p (place (r +ℤ z))) →
          Near p.q p.gamma2 (place r) (place (r +ℤ z)) →
          cond (eqb (cond (eqb (high_bits p r) (high_bits p (r +ℤ z))) 0 1) 0) (high_bits p r) (moved p (decompose p r)) ≡
          high_bits p (r +ℤ z)
      by (yes e) s a b w = simp (high_at r, high_at (r +ℤ z), eq-eqb _ _ e) e
      by (no e) (inl s) a b w =
          simp (high_at r, high_at (r +ℤ z), ne_eqb _ _ e, moved_up r s) (up _ _ _ _ (place_lt r) (place_lt (r +ℤ z)) a b w s e)
      by (no e) (inr s) a b w =
          simp (high_at r, high_at (r +ℤ z), ne_eqb _ _ e, moved_down r s) (down _ _ _ _ (place_lt r) (place_lt (r +ℤ z)) a b w s e)

  -- SPEC 12.5: a move of at most b keeps the high bits where the low bits are below γ2 - b
  pub high_kept : (b : ℕ) (s r : ℤ) → nat_abs s ≤ b → nat_abs (low_bits p r) < p.gamma2 - b → high_bits p r ≡ high_bits p (r +ℤ s)
  high_kept b s r hs hl =
      let u = place r in
      let v = place (r +ℤ s) in
      let e : nat_abs (sub_ℕ u (p.gamma2 + step_of p u * alpha p)) < p.gamma2 - b = rw (low_at r) at hl in
      let i = sub_abs u (p.gamma2 + step_of p u * alpha p) (p.gamma2 - b) e in
      high_at r ∙
      stay u v (step_of p u) (step_of p v) (place_lt r) (place_lt (r +ℤ s)) (in_step u (place_lt r)) (in_step v (place_lt (r +ℤ s))) b
      (near r s b hs (omega arith)) (omega arith) (omega arith) ∙
      sym (high_at (r +ℤ s))

  -- SPEC 12.6: a hint is known by its use
  turned : (h : ℕ) → h < steps p → ((h + 1) % steps p ≡ h → ⊥) × ((h + (steps p - 1)) % steps p ≡ h → ⊥)
  turned h l =
      let m = good.many in (
        ⊎_elim (λ k c. let e : (h + 1) % steps p ≡ h + 1 = mod-eq_of_lt k in omega arith)
            (λ k c.
            let e : (h + 1) % steps p ≡ 0 = ap (λ (n : ℕ). n % steps p) {x = h + 1} {y = steps p} (omega arith) ∙ mod_self (steps p) in
            omega arith)
            (below_or (h + 1) (steps p)),
        ⊎_elim
            (λ k c. let e : (h + (steps p - 1)) % steps p ≡ h + (steps p - 1) = mod-eq_of_lt (omega arith) in omega arith)
            (λ k c.
            let e : (h + (steps p - 1)) % steps p ≡ h - 1 =
            ap (λ (n : ℕ). n % steps p) {x = h + (steps p - 1)} {y = h - 1 + steps p} (omega arith) ∙ add-mod_right (h - 1) (steps p) ∙ mod-eq_of_lt (omega arith) in
            omega arith)
            (below_or h 1),
      )

  pub hint_moves : (r : ℤ) → use_hint p 0 r ≡ use_hint p 1 r → ⊥
  unfolding use_hint
  hint_moves r e =
      let t = turned (step_of p (place r)) (in_step (place r) (place_lt r)).least in
      ⊎_elim (λ s. t.0 (sym (moved_up r s) ∙ sym e ∙ high_at r)) (λ s. t.1 (sym (moved_down r s) ∙ sym e ∙ high_at r))
      (below_or (p.gamma2 + step_of p (place r) * alpha p) (place r))

  pub hint_known : (h k : ℕ) (r : ℤ) → h ≤ 1 → k ≤ 1 → use_hint p h r ≡ use_hint p k r → h ≡ k
  hint_known h k r a b e =
      let f : ℕ → ℕ = λ n. use_hint p n r in
      ⊎_elim
      (λ x. ⊎_elim (λ y. omega arith)
      (λ y. absurd (hint_moves r (sym (ap f {x = k} {y = 0} (omega arith)) ∙ sym e ∙ ap f {x = h} {y = 1} (omega arith))))
      (below_or 0 k))
      (λ x. ⊎_elim (λ y. absurd (hint_moves r (sym (ap f {x = h} {y = 0} (omega arith)) ∙ e ∙ ap f {x = k} {y = 1} (omega arith))))
      (λ y. omega arith)
      (below_or 0 k))
      (below_or 0 h)

  pub high_lt : (r : ℤ) → high_bits p r < steps p
  high_lt r = rw (high_at r) (in_step (place r) (place_lt r)).least

-- a hint is 0 or 1
pub bit : (p : Set) (z r : ℤ) → make_hint p z r ≤ 1
unfolding make_hint
bit p z r = go (eqb (high_bits p r) (high_bits p (r +ℤ z)))
  where
    go : (b : Bool) → cond b 0 1 ≤ 1
    go true = omega arith
    go false = omega arith

-- UseHint gives high bits
pub use_lt : (p : Set) → Good p → (h : ℕ) (r : ℤ) → use_hint p h r < steps p
unfolding use_hint moved
use_lt p good h r = go (eqb h 0) (lt_z (pos 0) (low_bits p r))
  where
    m_some : 0 < steps p
    m_some = omega (arith, good.many)

    go : (b t : Bool) → cond b (high_bits p r) (cond t ((high_bits p r + 1) % steps p) ((high_bits p r + (steps p - 1)) % steps p)) < steps p
    go true t = high_lt p good r
    go false true = mod-lt (high_bits p r + 1) m_some
    go false false = mod-lt (high_bits p r + (steps p - 1)) m_some
