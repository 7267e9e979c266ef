use Rattle.std.proofs.Common.{◌≡◌, Ok, ◌∙◌, arith}
use Rattle.checking.proofs.Order.{wrong_public, wrong_signature, long_message, refused_inputs, with_inputs}
use Rattle.checking.proofs.check.Goals as goal

pub returns-then-public_key-size : goal.returns-then-public_key-size
returns-then-public_key-size c = rw (wrong_public c.args.p _ _ _ _ (rw c.size.ensures at c.if-public_key-size.true))

pub returns-then-signature-size : goal.returns-then-signature-size
returns-then-signature-size c =
    rw (wrong_signature c.args.p _ _ _ _ (c.if-public_key-size.false ∙ c.size.ensures) (rw c.size-2.ensures at c.if-signature-size.true))

pub returns-then-message-gt-MESSAGE_MAX : goal.returns-then-message-gt-MESSAGE_MAX
returns-then-message-gt-MESSAGE_MAX c =
    rw (long_message c.args.p _ _ _ _ (c.if-public_key-size.false ∙ c.size.ensures) (c.if-signature-size.false ∙ c.size-2.ensures) c.if-message-gt-MESSAGE_MAX.true)

pub returns-in_err-load : goal.returns-in_err-load
returns-in_err-load c =
    refused_inputs _ _ _ _ _ (c.if-public_key-size.false ∙ c.size.ensures) (c.if-signature-size.false ∙ c.size-2.ensures)
    c.if-message-gt-MESSAGE_MAX.false (c.load.ensures.ill _ c.in_err-load.was) _ c.from_residual.ensures.1

-- that the reading went well is found from what is known, with no arm named: must-fail/does_nothing has another arm
pub returns : goal.returns
returns c =
    let read : c.load.result ≡ Ok tt = grind arith in
    let i = c.load.ensures.well read in
    with_inputs _ _ _ _ _ (c.if-public_key-size.false ∙ c.size.ensures) (c.if-signature-size.false ∙ c.size-2.ensures)
    c.if-message-gt-MESSAGE_MAX.false i.1 (c.compare.ensures i.0 i.2.0 i.2.1)
