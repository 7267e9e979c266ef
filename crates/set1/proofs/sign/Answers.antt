use mathlib.Core.Path.{subst}
use Rattle.outcome.specs.Outcome.{Is}
use Rattle.sets.specs.Set.{Set}
use Rattle.answers.specs.Refusals.{signing_report}
use Rattle.shake.specs.Shake.{shake256}
use Rattle.scheme.specs.Sign.{sign_outcome, sign}
use Rattle.set1.proofs.sign.Goals as goal

pub returns : goal.returns
returns c =
    let out = c.args.signature.now in
    subst
    (λ (p : Set). Is (sign_outcome c.args.limit (sign p shake256 c.args.key.now c.args.message.now c.args.limit out) out)
    (signing_report c.sign.result) c.sign.new.signature)
    c.numbers.ensures c.sign.ensures
