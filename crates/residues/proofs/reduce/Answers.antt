-- Of a negative r the remainder is by r's magnitude less 1, which is r's number under `negsuc`.
use Rattle.std.proofs.Common.{◌≡◌, ℕ, ◌-◌, ◌%◌, ℤ, pos, negsuc, nat_abs, int_lt, true, false, arith, refl}
use Rattle.std.proofs.lemmas.Int.{to_z-of_z}
use Rattle.residues.specs.Remainder.{residue}
use Rattle.residues.proofs.reduce.Goals as goal

residue_below : (q : ℕ) (z : ℤ) → int_lt z (pos 0) ≡ true → residue q z ≡ (q - 1) - (nat_abs z - 1) % q
unfolding residue
residue_below q (pos a) h = grind arith
residue_below q (negsuc a) h = grind arith

residue_above : (q : ℕ) (z : ℤ) → int_lt z (pos 0) ≡ false → residue q z ≡ nat_abs z % q
unfolding residue
residue_above q (pos a) h = refl
residue_above q (negsuc a) h = grind arith

pub returns-then-r-lt0 : goal.returns-then-r-lt0
returns-then-r-lt0 c = grind (arith, to_z-of_z, residue_below)

pub returns-else-r-lt0 : goal.returns-else-r-lt0
returns-else-r-lt0 c = grind (arith, to_z-of_z, residue_above)
