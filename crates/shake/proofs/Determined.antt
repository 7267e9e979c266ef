-- The public contract of this crate permits one outcome.
use mathlib.Core.Path.{refl, sym, ◌∙◌}
use Rattle.outcome.proofs.One.{One}
use Rattle.shake.proofs.shake256.Reads as shake256
use Rattle.shake.proofs.shake256.Kinds as shake256_kinds

pub shake256_one : One 4 shake256_kinds.ps shake256_kinds.r shake256.Post (λ κs s. s.1.1.1.0.now)
shake256_one κs a x y s t p q = (refl, p ∙ sym q)
