-- The public contract of this crate permits one answer. The lent memory is scratch: the contract says nothing of what it holds at the end, and
-- so the theorem is about the answer alone.
use mathlib.Core.Path.{refl, sym, ◌∙◌}
use Rattle.outcome.proofs.One.{One}
use Rattle.answers.proofs.Reports.{report_one}
use Rattle.checking.proofs.check.Reads as check
use Rattle.checking.proofs.check.Kinds as check_kinds

pub check_one : One 4 check_kinds.ps check_kinds.r check.Post (λ κs s. tt {0})
check_one κs a x y s t p q = (report_one x y (p ∙ sym q), refl)
