use mathlib.Core.Path.{◌≡◌, subst}
use Rattle.sets.specs.Set.{Set}
use Rattle.answers.specs.Refusals.{report_of}
use Rattle.answers.specs.Result.{told}
use Rattle.shake.specs.Shake.{shake256}
use Rattle.scheme.specs.Check.{check}
use Rattle.set1.proofs.check.Goals as goal

pub returns : goal.returns
returns c =
    subst (λ (p : Set). report_of c.check.result ≡ told (check p shake256 c.args.public.now c.args.signature.now c.args.message.now))
    c.numbers.ensures c.check.ensures
