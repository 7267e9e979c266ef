-- Each public contract of this crate permits one outcome. After a dry stream the element is scratch, and so the three theorems on streams that can be
-- dry say that the answer is one; where all was drawn the element is the definition's.
use mathlib.Core.Path.{refl, sym, ◌∙◌}
use Rattle.outcome.proofs.One.{One}
use Rattle.answers.proofs.Giving.{gives_one}
use Rattle.streams.proofs.expand_a.Reads as expand_a
use Rattle.streams.proofs.expand_a.Kinds as expand_a_kinds
use Rattle.streams.proofs.expand_s.Reads as expand_s
use Rattle.streams.proofs.expand_s.Kinds as expand_s_kinds
use Rattle.streams.proofs.expand_c.Reads as expand_c
use Rattle.streams.proofs.expand_c.Kinds as expand_c_kinds
use Rattle.streams.proofs.expand_y.Reads as expand_y
use Rattle.streams.proofs.expand_y.Kinds as expand_y_kinds

pub expand_y_one : One 2 expand_y_kinds.ps expand_y_kinds.r expand_y.Post (λ κs s. s.1.1.1.0.now)
expand_y_one κs a x y s t p q = (refl, p ∙ sym q)

pub expand_a_one : One 2 expand_a_kinds.ps expand_a_kinds.r expand_a.Post (λ κs s. tt {0})
expand_a_one κs a x y s t p q = (gives_one x y p q, refl)

pub expand_s_one : One 2 expand_s_kinds.ps expand_s_kinds.r expand_s.Post (λ κs s. tt {0})
expand_s_one κs a x y s t p q = (gives_one x y p q, refl)

pub expand_c_one : One 2 expand_c_kinds.ps expand_c_kinds.r expand_c.Post (λ κs s. tt {0})
expand_c_one κs a x y s t p q = (gives_one x y p q, refl)
