-- Each public contract of this crate permits one outcome.
use mathlib.Core.Path.{refl, sym, ◌∙◌}
use Rattle.outcome.proofs.One.{One}
use Rattle.keccak.proofs.permute.Reads as permute
use Rattle.keccak.proofs.permute.Kinds as permute_kinds

pub permute_one : One 0 permute_kinds.ps permute_kinds.r permute.Post (λ κs s. tt {0})
permute_one κs a x y s t p q = (p ∙ sym q, refl)
