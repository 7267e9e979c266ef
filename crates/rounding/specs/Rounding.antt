-- The rounding and hint rules (SPEC 3), over the whole numbers, for any set.
use Rattle.std.specs.Prelude.{ℕ, ◌+◌, ◌-◌, ◌/◌, ◌%◌, ◌^◌, max, cond, List, [], ◌∷◌, eqb, ℤ, pos, nat_abs, ◌+ℤ◌, ◌-ℤ◌}
use Rattle.std.specs.Int.Signed.{lt_z}
use Rattle.sets.specs.Set.{Set, alpha, steps}
use Rattle.residues.specs.Remainder.{residue, centred, magnitude}
use Rattle.rounding.specs.declared.Split.{Split}

-- SPEC 3.4, 3.8: r - r0 for r = x and r0 its centred remainder by α, a multiple of α that is not negative
unfoldable pub rest : ℕ → ℕ → ℕ
rest α x = nat_abs (pos x -ℤ centred α (pos x))

-- SPEC 3.4: Decompose of an r that is reduced
unfoldable pub parts : Set → ℕ → Split
parts p x =
    cond (eqb (rest (alpha p) x) (p.q - 1))
    (record { high = 0; low = centred (alpha p) (pos x) -ℤ pos 1 })
    (record { high = rest (alpha p) x / alpha p; low = centred (alpha p) (pos x) })

-- SPEC 3.4: and of any r
unfoldable pub decompose : Set → ℤ → Split
decompose p r = parts p (residue p.q r)

-- SPEC 3.5
abbrev pub high_bits : Set → ℤ → ℕ
high_bits p r = (decompose p r).high

abbrev pub low_bits : Set → ℤ → ℤ
low_bits p r = (decompose p r).low

-- SPEC 3.6
unfoldable pub make_hint : Set → ℤ → ℤ → ℕ
make_hint p z r = cond (eqb (high_bits p r) (high_bits p (r +ℤ z))) 0 1

-- SPEC 3.7 at h = 1, with the parts of r given; r1 - 1 mod m is r1 + (m - 1) mod m
unfoldable pub moved : Set → Split → ℕ
moved p s = cond (lt_z (pos 0) s.low) ((s.high + 1) % steps p) ((s.high + (steps p - 1)) % steps p)

-- SPEC 3.7: UseHint; every hint but 0 is taken as 1, and the call refuses the others (3.9)
unfoldable pub use_hint : Set → ℕ → ℤ → ℕ
use_hint p h r = cond (eqb h 0) (high_bits p r) (moved p (decompose p r))

-- SPEC 3.8
unfoldable pub power2_round : Set → ℤ → Split
power2_round p r =
    record {
      high = rest (2 ^ p.d) (residue p.q r) / 2 ^ p.d;
      low = centred (2 ^ p.d) (pos (residue p.q r));
    }

-- SPEC 3.3
unfoldable pub norm : ℕ → List ℤ → ℕ
norm q [] = 0
norm q (x ∷ xs) = max (magnitude q x) (norm q xs)
