-- One try: checking's a·z - c·t1·2^d is signing's w - c·s2 + c·t0 mod q, and the hints give back the high bits of w.
use mathlib.Core.Path.{◌≡◌, refl, sym, ap, ◌∙◌}
use mathlib.Core.List.{List}
use Prim.Native.Nat.{ℕ, ◌-◌, ◌*◌, ◌^◌, ◌≤◌, ◌<◌}
use native.Mathlib.Nat.{le_trans, le_of_eq}
use native.Mathlib.Omega.{arith}
use lib.ListN.{length}
use lib.IntN.{ℤ, pos, nat_abs, neg_ℤ, ◌+ℤ◌, ◌-ℤ◌, ◌*ℤ◌}
use Rattle.sets.specs.Set.{Set}
use Rattle.residues.specs.Remainder.{residue, centred, magnitude}
use Rattle.residues.proofs.Remainders.{residue_again, residue_plus, residue_neg, residue_times}
use Rattle.residues.proofs.Centres.{residue_centred, centred_again, centred_small, centred_same}
use Rattle.rounding.specs.Rounding.{high_bits, low_bits, make_hint, use_hint, power2_round, norm}
use Rattle.rounding.proofs.Congruent.{q_pos, q_wide, low_le}
use Rattle.rounding.proofs.Halves.{power_whole}
use Rattle.rounding.proofs.Recovers.{recovers}
use Rattle.rounding.proofs.Norms.{norm_each}
use Rattle.ring.specs.Ring.{prod, at, product}
use Rattle.ring.specs.Inner.{total}
use Rattle.ring.specs.Profile.{mul, profile}
use Rattle.ring.proofs.Lists.{length_tab, at_tab, tab_cong}
use Rattle.ring.proofs.Rings.{Fits}
use Rattle.ring.proofs.Verify as verify
use Rattle.scheme.specs.Elements.{plus, minus, negated, scaled, centring, highs, lows, power_highs, power_lows, make_hints, use_hints}
use Rattle.scheme.specs.Keys.{key_t}
use Rattle.scheme.specs.Check.{recomputed}

module _ (p : Set) (F : Fits p) where
  abbrev n : ℕ
  n = p.n

  abbrev q : ℕ
  q = p.q

  hq : 0 < p.q
  hq = q_pos p F.good

  -- the product before it is reduced
  abbrev plain : List ℤ → List ℤ → ℕ → ℤ
  plain a b k = prod p.n (profile p).wrap (at a) (at b) k

  at_mul : (a b : List ℤ) (k : ℕ) → k < n → at (mul p a b) k ≡ pos (residue q (plain a b k))
  unfolding product
  at_mul a b k l = at_tab (pos 0) n (λ k. pos (residue q (plain a b k))) k l

  pub length_mul : (a b : List ℤ) → length (mul p a b) ≡ p.n
  unfolding product
  length_mul a b = length_tab n (λ k. pos (residue q (plain a b k)))

  -- a product is the plain sum of products mod q
  mul_res : (a b : List ℤ) (k : ℕ) → k < n → residue q (at (mul p a b) k) ≡ residue q (plain a b k)
  mul_res a b k l = ap (residue q) (at_mul a b k l) ∙ residue_again q hq (plain a b k)

  -- c·s for a challenge and a small s
  pub small_product : (c s : List ℤ) (m : ℕ) → total p.n (λ k. nat_abs (at c k)) ≤ p.tau → ((k : ℕ) → k < p.n → nat_abs (at s k) ≤ m)
      → 2 * (p.tau * (2 * m)) < p.q → (k : ℕ) → k < p.n → magnitude p.q (at (mul p c s) k) ≤ p.tau * (2 * m)
  small_product c s m t h b k l =
      let w : nat_abs (plain c s k) ≤ p.tau * (2 * m) = F.bounded (at s) m h (at c) p.tau k t l in
      le_trans
      (le_of_eq (ap nat_abs (centred_same q hq (at (mul p c s) k) (plain c s k) (mul_res c s k l) ∙ centred_small q hq (plain c s k) (omega arith))))
      w

  -- ---- one try
  module _ (a y c s1 s2 : List ℤ) where
    abbrev t : List ℤ
    t = key_t p a s1 s2

    abbrev w : List ℤ
    w = mul p a y

    abbrev z : List ℤ
    z = centring p (plus p y (mul p c s1))

    abbrev ct0 : List ℤ
    ct0 = mul p c (power_lows p t)

    abbrev wcs2 : List ℤ
    wcs2 = minus p w (mul p c s2)

    pub at_z : (k : ℕ) → k < p.n → at (centring p (plus p y (mul p c s1))) k ≡ centred p.q (at y k +ℤ at (mul p c s1) k)
    at_z k l =
        at_tab (pos 0) n (λ k. centred q (at (plus p y (mul p c s1)) k)) k l ∙
        ap (centred q) (at_tab (pos 0) n (λ k. at y k +ℤ at (mul p c s1) k) k l)

    zs : (k : ℕ) → k < n → residue q (at z k) ≡ residue q (at y k +ℤ plain c s1 k)
    zs k l =
        ap (residue q) (at_z k l) ∙
        residue_centred q hq (at y k +ℤ at (mul p c s1) k) ∙
        residue_plus q hq (at y k) (at y k) (at (mul p c s1) k) (plain c s1 k) refl (mul_res c s1 k l)

    -- t1·2^d + t0 is a·s1 + s2 mod q
    ts : (k : ℕ) → k < n → residue q (pos (2 ^ p.d) *ℤ at (power_highs p t) k +ℤ at (power_lows p t) k) ≡ residue q (plain a s1 k +ℤ at s2 k)
    ts k l =
        ap (λ x. residue q (pos (2 ^ p.d) *ℤ x +ℤ at (power_lows p t) k)) (at_tab (pos 0) n (λ k. pos (power2_round p (at t k)).high) k l) ∙
        ap (λ x. residue q (pos (2 ^ p.d) *ℤ pos (power2_round p (at t k)).high +ℤ x)) (at_tab (pos 0) n (λ k. (power2_round p (at t k)).low) k l) ∙
        power_whole p F.good (at t k) ∙
        ap (residue q) (at_tab (pos 0) n (λ k. at (mul p a s1) k +ℤ at s2 k) k l) ∙
        residue_plus q hq (at (mul p a s1) k) (plain a s1 k) (at s2 k) (at s2 k) (mul_res a s1 k l) refl

    -- a·z - c·t1·2^d is w - c·s2 + c·t0 mod q
    same_rest : (k : ℕ) → k < n → residue q (at (recomputed p a z c (power_highs p t)) k) ≡ residue q (at w k -ℤ at (mul p c s2) k +ℤ at ct0 k)
    same_rest k l =
        let D = pos (2 ^ p.d) in
        let t1 = power_highs p t in
        let left : at (recomputed p a z c t1) k ≡ at (mul p a z) k -ℤ D *ℤ at (mul p c t1) k =
        at_tab (pos 0) n (λ k. at (mul p a z) k -ℤ at (scaled p D (mul p c t1)) k) k l ∙
        ap (λ x. at (mul p a z) k -ℤ x) (at_tab (pos 0) n (λ k. D *ℤ at (mul p c t1) k) k l) in
        ap (residue q) left ∙
        residue_plus q hq (at (mul p a z) k) (plain a z k) (neg_ℤ (D *ℤ at (mul p c t1) k)) (neg_ℤ (D *ℤ plain c t1 k)) (mul_res a z k l)
        (residue_neg q hq (D *ℤ at (mul p c t1) k) (D *ℤ plain c t1 k) (residue_times q hq D D (at (mul p c t1) k) (plain c t1 k) refl (mul_res c t1 k l))) ∙
        verify.recomputed n (profile p).wrap F.ring q hq D (at a) (at c) (at y) (at z) (at s1) (at s2) (at (power_lows p t)) (at t1) zs ts k l ∙
        sym (residue_plus q hq (at w k -ℤ at (mul p c s2) k) (plain a y k -ℤ plain c s2 k) (at ct0 k) (plain c (power_lows p t) k)
        (residue_plus q hq (at w k) (plain a y k) (neg_ℤ (at (mul p c s2) k)) (neg_ℤ (plain c s2 k)) (mul_res a y k l)
        (residue_neg q hq (at (mul p c s2) k) (plain c s2 k) (mul_res c s2 k l)))
        (mul_res c (power_lows p t) k l))

    abbrev made : List ℤ
    made = make_hints p (negated p ct0) (plus p wcs2 ct0)

    at_made : (k : ℕ) → k < n → at made k ≡ pos (make_hint p (neg_ℤ (at ct0 k)) (at w k -ℤ at (mul p c s2) k +ℤ at ct0 k))
    at_made k l =
        at_tab (pos 0) n (λ k. pos (make_hint p (at (negated p ct0) k) (at (plus p wcs2 ct0) k))) k l ∙
        ap (λ x. pos (make_hint p x (at (plus p wcs2 ct0) k))) (at_tab (pos 0) n (λ k. neg_ℤ (at ct0 k)) k l) ∙
        ap (λ x. pos (make_hint p (neg_ℤ (at ct0 k)) x))
        (at_tab (pos 0) n (λ k. at wcs2 k +ℤ at ct0 k) k l ∙ ap (λ x. x +ℤ at ct0 k) (at_tab (pos 0) n (λ k. at w k -ℤ at (mul p c s2) k) k l))

    -- the high bits that checking finds are those that signing hashed
    pub agree : total p.n (λ k. nat_abs (at c k)) ≤ p.tau → ((k : ℕ) → k < p.n → nat_abs (at s2 k) ≤ p.eta)
        → norm p.q (lows p (minus p (mul p a y) (mul p c s2))) < p.gamma2 - p.beta
        → norm p.q (mul p c (power_lows p (key_t p a s1 s2))) < p.gamma2
        → use_hints p (make_hints p (negated p (mul p c (power_lows p (key_t p a s1 s2)))) (plus p (minus p (mul p a y) (mul p c s2)) (mul p c (power_lows p (key_t p a s1 s2)))))
        (recomputed p a (centring p (plus p y (mul p c s1))) c (power_highs p (key_t p a s1 s2))) ≡ highs p (mul p a y)
    agree few small low small0 =
        tab_cong n (λ k. pos (use_hint p (nat_abs (at made k)) (at (recomputed p a z c (power_highs p t)) k))) (λ k. pos (high_bits p (at w k)))
        (λ k l.
        ap pos
        (ap (λ x. use_hint p (nat_abs x) (at (recomputed p a z c (power_highs p t)) k)) (at_made k l) ∙
        recovers p F.good p.beta (at w k) (at (mul p c s2) k) (at ct0 k) (at (recomputed p a z c (power_highs p t)) k)
        (let b = small_product c s2 p.eta few small beta_room k l in omega (arith, F.good.beta))
        (low_at k l)
        (let b = norm_each q ct0 k (rw length_mul l) in omega arith)
        (same_rest k l)))
      where
        -- β is below γ2, and 2·γ2 below q
        beta_room : 2 * (p.tau * (2 * p.eta)) < p.q
        beta_room = omega (arith, F.good.beta, F.good.beta2, q_wide p F.good)

        low_at : (k : ℕ) → k < n → nat_abs (low_bits p (at w k -ℤ at (mul p c s2) k)) < p.gamma2 - p.beta
        low_at k l =
            let x = low_bits p (at w k -ℤ at (mul p c s2) k) in
            let e : at (lows p wcs2) k ≡ x =
            at_tab (pos 0) n (λ k. low_bits p (at wcs2 k)) k l ∙ ap (low_bits p) (at_tab (pos 0) n (λ k. at w k -ℤ at (mul p c s2) k) k l) in
            let b = low_le p F.good (at w k -ℤ at (mul p c s2) k) in
            let m = norm_each q (lows p wcs2) k (rw length_tab l) in
            let s : magnitude q (at (lows p wcs2) k) ≡ nat_abs x =
            ap (magnitude q) e ∙ ap nat_abs (centred_small q hq x (omega (arith, q_wide p F.good))) in
            omega arith

    -- every coefficient of a z that passes is small, and is its own centred remainder
    pub z_small : norm p.q (centring p (plus p y (mul p c s1))) < p.gamma1 - p.beta → (k : ℕ) → k < p.n
        → nat_abs (at (centring p (plus p y (mul p c s1))) k) < p.gamma1 - p.beta
    z_small h k l =
        let m = norm_each q z k (rw length_tab l) in
        let e : centred q (at z k) ≡ at z k = ap (centred q) (at_z k l) ∙ centred_again q hq (at y k +ℤ at (mul p c s1) k) ∙ sym (at_z k l) in
        let s : magnitude q (at z k) ≡ nat_abs (at z k) = ap nat_abs e in
        omega arith
