use mathlib.Core.Path.{subst}
use Rattle.outcome.specs.Outcome.{Is}
use Rattle.sets.specs.Set.{Set}
use Rattle.answers.specs.Refusals.{report_of}
use Rattle.answers.specs.Result.{outcome}
use Rattle.shake.specs.Shake.{shake256}
use Rattle.scheme.specs.Keys.{Pair, make_keys}
use Rattle.set1.proofs.make_keys.Goals as goal

pub returns : goal.returns
returns c =
    let pk = c.args.public.now in
    let sk = c.args.secret.now in
    subst
    (λ (p : Set). Is {B = Pair} (outcome (make_keys p shake256 c.args.zeta.now c.args.prime.now pk sk) record { public = pk; secret = sk })
    (report_of c.make_keys.result) record { public = c.make_keys.new.public_key; secret = c.make_keys.new.secret_key })
    c.numbers.ensures c.make_keys.ensures
