-- Each public contract of this crate permits one outcome.
use mathlib.Core.Path.{refl, sym, ◌∙◌}
use Rattle.outcome.proofs.One.{One}
use Rattle.residues.proofs.reduce.Reads as reduce
use Rattle.residues.proofs.reduce.Kinds as reduce_kinds
use Rattle.residues.proofs.difference.Reads as difference
use Rattle.residues.proofs.difference.Kinds as difference_kinds
use Rattle.residues.proofs.centre.Reads as centre
use Rattle.residues.proofs.centre.Kinds as centre_kinds
use Rattle.residues.proofs.magnitude.Reads as magnitude
use Rattle.residues.proofs.magnitude.Kinds as magnitude_kinds
use Rattle.residues.proofs.divide.modulo.Reads as modulo
use Rattle.residues.proofs.divide.modulo.Kinds as modulo_kinds
use Rattle.residues.proofs.divide.wrap.Reads as wrap
use Rattle.residues.proofs.divide.wrap.Kinds as wrap_kinds
use Rattle.residues.proofs.divide.quotient.Reads as quotient
use Rattle.residues.proofs.divide.quotient.Kinds as quotient_kinds

pub reduce_one : One 0 reduce_kinds.ps reduce_kinds.r reduce.Post (λ κs s. tt {0})
reduce_one κs a x y s t p q = (p ∙ sym q, refl)

pub difference_one : One 0 difference_kinds.ps difference_kinds.r difference.Post (λ κs s. tt {0})
difference_one κs a x y s t p q = (p ∙ sym q, refl)

pub centre_one : One 0 centre_kinds.ps centre_kinds.r centre.Post (λ κs s. tt {0})
centre_one κs a x y s t p q = (p ∙ sym q, refl)

pub magnitude_one : One 0 magnitude_kinds.ps magnitude_kinds.r magnitude.Post (λ κs s. tt {0})
magnitude_one κs a x y s t p q = (p ∙ sym q, refl)

pub modulo_one : One 0 modulo_kinds.ps modulo_kinds.r modulo.Post (λ κs s. tt {0})
modulo_one κs a x y s t p q = (p ∙ sym q, refl)

pub wrap_one : One 0 wrap_kinds.ps wrap_kinds.r wrap.Post (λ κs s. tt {0})
wrap_one κs a x y s t p q = (p ∙ sym q, refl)

pub quotient_one : One 0 quotient_kinds.ps quotient_kinds.r quotient.Post (λ κs s. tt {0})
quotient_one κs a x y s t p q = (p ∙ sym q, refl)
