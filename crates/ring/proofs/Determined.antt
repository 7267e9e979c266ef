-- Each public contract of this crate permits one outcome.
use mathlib.Core.Path.{refl, sym, ◌∙◌}
use Rattle.outcome.proofs.One.{One}
use Rattle.answers.proofs.Outcomes.{determined_report}
use Rattle.ring.proofs.multiply.Reads as multiply
use Rattle.ring.proofs.multiply.Kinds as multiply_kinds
use Rattle.ring.proofs.set1.product.Reads as product
use Rattle.ring.proofs.set1.product.Kinds as product_kinds

pub multiply_one : One 3 multiply_kinds.ps multiply_kinds.r multiply.Post (λ κs s. s.1.1.1.0.now)
multiply_one κs a x y s t p q = (refl, p ∙ sym q)

-- set 1
pub product_one : One 3 product_kinds.ps product_kinds.r product.Post (λ κs s. s.1.1.0.now)
product_one κs a x y s t p q = determined_report _ x y s.1.1.0.now t.1.1.0.now p q
