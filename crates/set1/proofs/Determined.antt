-- Each public contract of this crate permits one outcome: one answer, and one content of each buffer.
use mathlib.Core.Path.{refl, sym, ◌∙◌}
use Rattle.outcome.proofs.One.{One, determined}
use Rattle.answers.proofs.Reports.{report_one, signing_one}
use Rattle.answers.proofs.Outcomes.{determined_report}
use Rattle.scheme.specs.Keys.{Pair}
use Rattle.set1.proofs.make_keys.Reads as make_keys
use Rattle.set1.proofs.make_keys.Kinds as make_keys_kinds
use Rattle.set1.proofs.sign.Reads as sign
use Rattle.set1.proofs.sign.Kinds as sign_kinds
use Rattle.set1.proofs.check.Reads as check
use Rattle.set1.proofs.check.Kinds as check_kinds

-- both keys
pub make_keys_one : One 4 make_keys_kinds.ps make_keys_kinds.r make_keys.Post {B = Pair}
    (λ κs s. record { public = s.1.1.0.now; secret = s.1.1.1.0.now })
make_keys_one κs a x y s t p q =
    determined_report {B = Pair} _ x y record { public = s.1.1.0.now; secret = s.1.1.1.0.now } record { public = t.1.1.0.now; secret = t.1.1.1.0.now } p q

-- the signature
pub sign_one : One 3 sign_kinds.ps sign_kinds.r sign.Post (λ κs s. s.1.1.1.0.now)
sign_one κs a x y s t p q = let d = determined _ _ _ s.1.1.1.0.now t.1.1.1.0.now p q in (signing_one x y d.0, d.1)

-- checking is lent nothing to write
pub check_one : One 3 check_kinds.ps check_kinds.r check.Post {B = Unit {0}} (λ κs s. tt)
check_one κs a x y s t p q = (report_one x y (p ∙ sym q), refl)
