-- A short input is lent whole, with no second seed; of any other are lent the first seed and the rest.
use Rattle.answers.specs.Refusals.{report_of}
use Rattle.ncc_make_keys.proofs.Cut.{cut_short, whole}
use Rattle.ncc_make_keys.proofs.made.Goals as goal

pub returns-then-input-lt-SEED : goal.returns-then-input-lt-SEED
returns-then-input-lt-SEED c =
    cut_short c.args.input.now c.args.public.now c.args.secret.now record { public = c.args.public.now; secret = c.args.secret.now } (report_of c.make_keys.result)
    record { public = c.make_keys.new.public; secret = c.make_keys.new.secret } c.if-input-lt-SEED.true c.make_keys.ensures

pub returns : goal.returns
returns c =
    whole c.args.input.now c.args.public.now c.args.secret.now record { public = c.args.public.now; secret = c.args.secret.now } (report_of c.make_keys-2.result)
    record { public = c.make_keys-2.new.public; secret = c.make_keys-2.new.secret } c.make_keys-2.ensures
