-- The public contract of this crate permits one outcome.
use mathlib.Core.Path.{refl, sym, ◌∙◌}
use Rattle.outcome.proofs.One.{One}
use Rattle.sets.proofs.set1.Set1.numbers.Reads as numbers
use Rattle.sets.proofs.set1.Set1.numbers.Kinds as numbers_kinds

pub set1_numbers_one : One 0 numbers_kinds.ps numbers_kinds.r numbers.Post (λ κs s. tt {0})
set1_numbers_one κs a x y s t p q = (p ∙ sym q, refl)
