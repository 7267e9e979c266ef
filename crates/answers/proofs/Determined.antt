-- Each public contract of this crate permits one outcome.
use mathlib.Core.Path.{refl, sym, ◌∙◌}
use Rattle.outcome.proofs.One.{One}
use Rattle.answers.proofs.ReportFromResultUnitRefusal.from.Reads as answer
use Rattle.answers.proofs.ReportFromResultUnitRefusal.from.Kinds as answer_kinds
use Rattle.answers.proofs.ReportFromResultU32NotSigned.from.Reads as signing
use Rattle.answers.proofs.ReportFromResultU32NotSigned.from.Kinds as signing_kinds
use Rattle.answers.proofs.NotSignedFromRefusal.from.Reads as not_signed
use Rattle.answers.proofs.NotSignedFromRefusal.from.Kinds as not_signed_kinds

pub answer_report_one : One 0 answer_kinds.ps answer_kinds.r answer.Post (λ κs s. tt {0})
answer_report_one κs a x y s t p q = (p ∙ sym q, refl)

pub signing_report_one : One 0 signing_kinds.ps signing_kinds.r signing.Post (λ κs s. tt {0})
signing_report_one κs a x y s t p q = (p ∙ sym q, refl)

pub not_signed_one : One 0 not_signed_kinds.ps not_signed_kinds.r not_signed.Post (λ κs s. tt {0})
not_signed_one κs a x y s t p q = (p ∙ sym q, refl)
