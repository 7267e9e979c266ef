-- One coefficient of checking: the hint that signing made gives the high bits of w.
use mathlib.Core.Path.{◌≡◌, ap, ◌∙◌}
use Prim.Native.Nat.{ℕ, ◌-◌, ◌≤◌, ◌<◌}
use lib.IntN.{ℤ, neg_ℤ, nat_abs, ◌+ℤ◌, ◌-ℤ◌, +ℤ-neg_ℤ_cancel, -ℤ-+ℤ_cancel}
use Rattle.sets.specs.Set.{Set}
use Rattle.sets.specs.Good.{Good}
use Rattle.residues.specs.Remainder.{residue, magnitude}
use Rattle.residues.proofs.Centres.{magnitude_neg}
use Rattle.rounding.specs.Rounding.{high_bits, low_bits, make_hint, use_hint}
use Rattle.rounding.proofs.Congruent.{q_pos, use_cong, hint_recovers_norm, high_kept_norm}

module _ (p : Set) (good : Good p) where
  -- with x = c·s2 and o = c·t0: checking's v is signing's w - x + o mod q
  pub recovers : (b : ℕ) (w x o v : ℤ) → magnitude p.q x ≤ b → nat_abs (low_bits p (w -ℤ x)) < p.gamma2 - b → magnitude p.q o ≤ p.gamma2
      → residue p.q v ≡ residue p.q (w -ℤ x +ℤ o) → use_hint p (make_hint p (neg_ℤ o) (w -ℤ x +ℤ o)) v ≡ high_bits p w
  recovers b w x o v hx hl ho e =
      use_cong p good (make_hint p (neg_ℤ o) (w -ℤ x +ℤ o)) v (w -ℤ x +ℤ o) e ∙
      hint_recovers_norm p good (neg_ℤ o) (w -ℤ x +ℤ o) (rw (magnitude_neg p.q (q_pos p good) o) ho) ∙
      ap (high_bits p) (+ℤ-neg_ℤ_cancel (w -ℤ x) o) ∙
      high_kept_norm p good b x (w -ℤ x) hx hl ∙
      ap (high_bits p) (-ℤ-+ℤ_cancel w x)
