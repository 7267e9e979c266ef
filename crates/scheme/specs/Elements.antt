-- Elements of the ring as lists of n coefficients (SPEC 2.1), coefficient by coefficient.
use Rattle.std.specs.Prelude.{ℕ, List, ℤ, pos, nat_abs, neg_ℤ, ◌+ℤ◌, ◌-ℤ◌, ◌*ℤ◌}
use Rattle.residues.specs.Remainder.{centred}
use Rattle.rounding.specs.Rounding.{high_bits, low_bits, make_hint, use_hint, power2_round}
use Rattle.ring.specs.Ring.{at, tab}
use Rattle.sets.specs.Set.{Set}

-- f of coefficient k, for each k
abbrev pub each : Set → (ℕ → ℤ) → List ℤ
each p f = tab p.n f

-- SPEC 2.5
abbrev pub plus : Set → List ℤ → List ℤ → List ℤ
plus p a b = each p (λ k. at a k +ℤ at b k)

abbrev pub minus : Set → List ℤ → List ℤ → List ℤ
minus p a b = each p (λ k. at a k -ℤ at b k)

abbrev pub negated : Set → List ℤ → List ℤ
negated p a = each p (λ k. neg_ℤ (at a k))

abbrev pub scaled : Set → ℤ → List ℤ → List ℤ
scaled p d a = each p (λ k. d *ℤ at a k)

-- SPEC 3.2: each coefficient centred by q
abbrev pub centring : Set → List ℤ → List ℤ
centring p a = each p (λ k. centred p.q (at a k))

-- SPEC 3.5
abbrev pub highs : Set → List ℤ → List ℤ
highs p a = each p (λ k. pos (high_bits p (at a k)))

abbrev pub lows : Set → List ℤ → List ℤ
lows p a = each p (λ k. low_bits p (at a k))

-- SPEC 3.8
abbrev pub power_highs : Set → List ℤ → List ℤ
power_highs p a = each p (λ k. pos (power2_round p (at a k)).high)

abbrev pub power_lows : Set → List ℤ → List ℤ
power_lows p a = each p (λ k. (power2_round p (at a k)).low)

-- SPEC 3.6
abbrev pub make_hints : Set → List ℤ → List ℤ → List ℤ
make_hints p z r = each p (λ k. pos (make_hint p (at z k) (at r k)))

-- SPEC 3.7
abbrev pub use_hints : Set → List ℤ → List ℤ → List ℤ
use_hints p h r = each p (λ k. pos (use_hint p (nat_abs (at h k)) (at r k)))
