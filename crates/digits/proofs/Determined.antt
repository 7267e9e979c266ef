-- Each public contract of this crate permits one outcome.
use mathlib.Core.Path.{refl, sym, ◌∙◌}
use Rattle.outcome.proofs.One.{One}
use Rattle.digits.proofs.window.Reads as window
use Rattle.digits.proofs.window.Kinds as window_kinds
use Rattle.digits.proofs.code_at.Reads as code_at
use Rattle.digits.proofs.code_at.Kinds as code_at_kinds
use Rattle.digits.proofs.pack_codes.Reads as pack_codes
use Rattle.digits.proofs.pack_codes.Kinds as pack_codes_kinds

pub window_one : One 1 window_kinds.ps window_kinds.r window.Post (λ κs s. tt {0})
window_one κs a x y s t p q = (p ∙ sym q, refl)

pub code_at_one : One 1 code_at_kinds.ps code_at_kinds.r code_at.Post (λ κs s. tt {0})
code_at_one κs a x y s t p q = (p ∙ sym q, refl)

pub pack_codes_one : One 2 pack_codes_kinds.ps pack_codes_kinds.r pack_codes.Post (λ κs s. s.1.1.0.now)
pack_codes_one κs a x y s t p q = (refl, p ∙ sym q)
