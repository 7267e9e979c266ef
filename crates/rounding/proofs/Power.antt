-- Power2Round in closed form, by 2g: r1 = (x + g - 1)/2g.
use mathlib.Core.Path.{◌≡◌, sym, ap, ◌∙◌}
use mathlib.Core.Logic.{⊎_elim}
use Prim.Native.Nat.{ℕ, ◌+◌, ◌-◌, ◌*◌, ◌/◌, ◌%◌, ◌^◌, ◌≤◌, ◌<◌}
use native.Mathlib.Nat.{mod-lt, div-add-mod', div-eq_of_lt-le, mul-div_cancel, mod-eq_of_lt}
use native.Mathlib.Omega.{arith}
use lib.Pow.{pow_pos, pow_mono}
use lib.IntN.{pos, sub_ℕ}
use Rattle.sets.specs.Set.{Set}
use Rattle.sets.specs.Good.{Good}
use Rattle.residues.specs.Remainder.{residue, centred}
use Rattle.residues.proofs.Order.{below_or}
use Rattle.residues.proofs.Differences.{sub_ge, sub_same}
use Rattle.residues.proofs.Remainders.{residue_small}
use Rattle.rounding.specs.declared.Split.{Split}
use Rattle.rounding.specs.Rounding.{rest, power2_round}
use Rattle.rounding.proofs.Closed.{low_case, high_case}

record Rounded (g x : ℕ) : Type 0 where
  high_is : (x + (g - 1)) / (2 * g) ≡ rest (2 * g) x / (2 * g)
  low_is : sub_ℕ x ((x + (g - 1)) / (2 * g) * (2 * g)) ≡ centred (2 * g) (pos x)

rounded : (g x : ℕ) → 0 < g → Rounded g x
rounded g x hg =
    let e = div-add-mod' x (2 * g) in
    let m = mod-lt x {m = 2 * g} (omega arith) in
    ⊎_elim
    (λ h.
    let c = high_case g x hg h in
    let k : (x + (g - 1)) / (2 * g) ≡ x / (2 * g) + 1 = div-eq_of_lt-le (2 * g) (omega arith) (omega arith) in
    record {
      high_is = k ∙ sym (ap (λ (y : ℕ). y / (2 * g)) c.1 ∙ mul-div_cancel (x / (2 * g) + 1) (omega arith));
      low_is =
          ap (λ (y : ℕ). sub_ℕ x (y * (2 * g))) k ∙
          sub_same x ((x / (2 * g) + 1) * (2 * g)) (x % (2 * g)) (2 * g) (omega arith) ∙ sym c.0;
    })
    (λ h.
    let c = low_case g x h in
    let k : (x + (g - 1)) / (2 * g) ≡ x / (2 * g) = div-eq_of_lt-le (2 * g) (omega arith) (omega arith) in
    record {
      high_is = k ∙ sym (ap (λ (y : ℕ). y / (2 * g)) c.1 ∙ mul-div_cancel (x / (2 * g)) (omega arith));
      low_is =
          ap (λ (y : ℕ). sub_ℕ x (y * (2 * g))) k ∙
          sub_ge {a = x} {b = x / (2 * g) * (2 * g)} (omega arith) ∙ ap pos (omega arith) ∙ sym c.0;
    })
    (below_or g (x % (2 * g)))

-- half of 2^d
abbrev pub half : Set → ℕ
half p = 2 ^ (p.d - 1)

module _ (p : Set) (good : Good p) where
  pub half_pos : 0 < half p
  half_pos = pow_pos (p.d - 1)

  pub half_room : half p ≤ 2 ^ 16
  half_room = pow_mono {i = p.d - 1} {j = 16} (omega (arith, good.d_room))

  -- a shift by d - 1, as the machine has it
  pub shifted : (1 * 2 ^ (p.d - 1)) % 2 ^ 32 ≡ half p
  shifted = let l = half_room in mod-eq_of_lt {n = 1 * 2 ^ (p.d - 1)} {m = 2 ^ 32} (omega arith) ∙ omega arith

  module _ (x : ℕ) (l : x < p.q) where
    abbrev power : ℕ → Split
    power D = record { high = rest D x / D; low = centred D (pos x) }

    is_power : power2_round p (pos x) ≡ power (2 * half p)
    unfolding power2_round
    is_power =
        (λ i. record {
          high = rest (2 ^ p.d) (r i) / 2 ^ p.d;
          low = centred (2 ^ p.d) (pos (r i));
        }) ∙ ap power good.halves
      where
        r : residue p.q (pos x) ≡ x
        r = residue_small p.q (omega arith) x l

    pub power_high : (x + (half p - 1)) / (2 * half p) ≡ (power2_round p (pos x)).high
    power_high = (rounded (half p) x half_pos).high_is ∙ sym (ap (λ (s : Split). s.high) is_power)

    pub power_low : sub_ℕ x ((x + (half p - 1)) / (2 * half p) * (2 * half p)) ≡ (power2_round p (pos x)).low
    power_low = (rounded (half p) x half_pos).low_is ∙ sym (ap (λ (s : Split). s.low) is_power)
