-- The public contract of this crate permits one outcome: one answer, and one content of the signature. The lent memory is scratch, of which the contract says nothing.
use Rattle.outcome.proofs.One.{One, determined}
use Rattle.answers.proofs.Reports.{signing_one}
use Rattle.signing.proofs.sign.Reads as sign
use Rattle.signing.proofs.sign.Kinds as sign_kinds

pub sign_one : One 4 sign_kinds.ps sign_kinds.r sign.Post (λ κs s. s.1.1.1.1.0.now)
sign_one κs a x y s t p q = let d = determined _ _ _ s.1.1.1.1.0.now t.1.1.1.1.0.now p q in (signing_one x y d.0, d.1)
