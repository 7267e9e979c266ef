-- Power2Round splits a remainder: r1·2^d + r0, r1 is at most that of the largest, and r0 is above -2^(d-1) and at most 2^(d-1).
use mathlib.Core.Path.{◌≡◌, ap, ◌∙◌}
use mathlib.Core.Logic.{⊎_elim}
use Prim.Native.Nat.{ℕ, suc, ◌+◌, ◌-◌, ◌*◌, ◌/◌, ◌%◌, ◌^◌, ◌≤◌, ◌<◌}
use native.Mathlib.Nat.{mod-lt, div-add-mod', mul-div_cancel, le-div_iff_mul-le, mul_comm, le_trans, div-mul-le_self}
use native.Mathlib.Omega.{arith}
use lib.Pow.{pow_pos}
use lib.IntN.{ℤ, pos, negsuc, ◌+ℤ◌, ◌*ℤ◌}
use Rattle.sets.specs.Set.{Set}
use Rattle.sets.specs.Good.{Good}
use Rattle.residues.specs.Remainder.{residue, centred}
use Rattle.residues.proofs.Order.{below_or}
use Rattle.residues.proofs.Differences.{sub_lt, pos_add_sub, sub_ge}
use Rattle.residues.proofs.Remainders.{residue_lt, residue_again}
use Rattle.rounding.specs.Rounding.{rest, power2_round}
use Rattle.rounding.proofs.Closed.{low_case, high_case}
use Rattle.rounding.proofs.Congruent.{q_pos}

-- above -g and at most g
abbrev pub Half : ℕ → ℤ → Type 0
Half g (pos a) = a ≤ g
Half g (negsuc a) = suc a < g

record Parted (g x : ℕ) : Type 0 where
  whole : pos (2 * g) *ℤ pos (rest (2 * g) x / (2 * g)) +ℤ centred (2 * g) (pos x) ≡ pos x
  high_le : rest (2 * g) x / (2 * g) ≤ (x + g) / (2 * g)
  low_in : Half g (centred (2 * g) (pos x))

parted : (g x : ℕ) → 0 < g → Parted g x
parted g x hg =
    let e = div-add-mod' x (2 * g) in
    let m = mod-lt x {m = 2 * g} (omega arith) in
    ⊎_elim
    (λ h.
    let c = high_case g x hg h in
    make (x / (2 * g) + 1) c.1 (omega arith) (rw (c.0, sub_lt {a = x % (2 * g)} {b = 2 * g} m) (omega arith))
    (ap (λ (z : ℤ). pos ((x / (2 * g) + 1) * (2 * g)) +ℤ z) c.0 ∙
    pos_add_sub ((x / (2 * g) + 1) * (2 * g)) (x % (2 * g)) (2 * g) ∙ sub_ge {a = (x / (2 * g) + 1) * (2 * g) + x % (2 * g)} {b = 2 * g} (omega arith) ∙ ap pos (omega arith)))
    (λ h.
    let c = low_case g x h in
    make (x / (2 * g)) c.1 (omega arith) (rw c.0 h)
    (ap (λ (z : ℤ). pos (x / (2 * g) * (2 * g)) +ℤ z) c.0 ∙ ap pos (omega arith)))
    (below_or g (x % (2 * g)))
  where
    make : (k : ℕ) → rest (2 * g) x ≡ k * (2 * g) → k * (2 * g) ≤ x + g → Half g (centred (2 * g) (pos x))
        → pos (k * (2 * g)) +ℤ centred (2 * g) (pos x) ≡ pos x → Parted g x
    make k er l w n =
        let hk : rest (2 * g) x / (2 * g) ≡ k = ap (λ (y : ℕ). y / (2 * g)) er ∙ mul-div_cancel k (omega arith) in
        record {
          whole = ap (λ (y : ℕ). pos y +ℤ centred (2 * g) (pos x)) (ap (λ (y : ℕ). 2 * g * y) hk ∙ mul_comm (2 * g) k) ∙ n;
          high_le = rw hk ((le-div_iff_mul-le {k = 2 * g} {x = k} {y = x + g} (omega arith)).1 l);
          low_in = w;
        }

div_mono : (a b m : ℕ) → 0 < m → a ≤ b → a / m ≤ b / m
div_mono a b m h l = (le-div_iff_mul-le {k = m} {x = a / m} {y = b} h).1 (le_trans (div-mul-le_self a m) l)

module _ (p : Set) (good : Good p) (r : ℤ) where
  abbrev g : ℕ
  g = 2 ^ (p.d - 1)

  at_r : Parted g (residue p.q r)
  at_r = parted g (residue p.q r) (pow_pos (p.d - 1))

  -- r1·2^d + r0 is r mod q
  pub power_whole : residue p.q (pos (2 ^ p.d) *ℤ pos (power2_round p r).high +ℤ (power2_round p r).low) ≡ residue p.q r
  unfolding power2_round
  power_whole = rw good.halves (ap (residue p.q) at_r.whole ∙ residue_again p.q (q_pos p good) r)

  pub power_high_le : (power2_round p r).high ≤ p.t1top
  unfolding power2_round
  power_high_le =
      let l = residue_lt p.q (q_pos p good) r in
      let a : rest (2 ^ p.d) (residue p.q r) / 2 ^ p.d ≤ (residue p.q r + g) / 2 ^ p.d = rw good.halves at_r.high_le in
      let b : (residue p.q r + g) / 2 ^ p.d ≤ (p.q - 1 + g) / 2 ^ p.d = div_mono (residue p.q r + g) (p.q - 1 + g) (2 ^ p.d) (pow_pos p.d) (omega arith) in
      le_trans a (le_trans b good.t1_most)

  pub power_low_in : Half (2 ^ (p.d - 1)) (power2_round p r).low
  unfolding power2_round
  power_low_in = rw good.halves at_r.low_in
