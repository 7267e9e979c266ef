-- Remainders of whole numbers (SPEC 3.1 to 3.3).
use Rattle.std.specs.Prelude.{ℕ, ◌-◌, ◌/◌, ◌%◌, cond, leb, ℤ, pos, negsuc, nat_abs}
use Rattle.std.proofs.Math.IntN.{sub_ℕ}

-- SPEC 3.1: the plain remainder. Of -(a + 1) it is α - 1 less the remainder of a
unfoldable pub residue : ℕ → ℤ → ℕ
residue α (pos a) = a % α
residue α (negsuc a) = (α - 1) - a % α

-- SPEC 3.2, of a remainder x by α: x up to α/2, and x - α above it
abbrev pub signed : ℕ → ℕ → ℤ
signed α x = cond (leb x (α / 2)) (pos x) (sub_ℕ x α)

-- SPEC 3.2: the centred remainder
unfoldable pub centred : ℕ → ℤ → ℤ
centred α z = signed α (residue α z)

-- SPEC 3.3: the norm of one coefficient, its magnitude, centred by q
abbrev pub magnitude : ℕ → ℤ → ℕ
magnitude q z = nat_abs (centred q z)
