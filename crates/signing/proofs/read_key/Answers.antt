use Rattle.signing.proofs.Reading.{no_s1, no_s2, no_t0, key_read}
use Rattle.signing.proofs.read_key.Goals as goal

pub returns-in_err-read_field : goal.returns-in_err-read_field
returns-in_err-read_field c = no_s1 c.args.p c.args.key.now c.read_field.ensures c.in_err-read_field.was c.from_residual.ensures.1

pub returns-in_err-read_field-2 : goal.returns-in_err-read_field-2
returns-in_err-read_field-2 c =
    no_s2 c.args.p c.args.key.now c.read_field.ensures c.in_ok-read_field.was
    c.read_field-2.ensures c.in_err-read_field-2.was c.from_residual-in_err-read_field-2.ensures.1

pub returns-in_err-read_field-3 : goal.returns-in_err-read_field-3
returns-in_err-read_field-3 c =
    no_t0 c.args.p c.args.key.now c.read_field.ensures c.in_ok-read_field.was
    c.read_field-2.ensures c.in_ok-read_field-2.was
    c.read_field-3.ensures c.in_err-read_field-3.was c.from_residual-in_err-read_field-3.ensures.1

pub returns : goal.returns
returns c =
    key_read c.args.p c.args.key.now c.read_field.ensures c.in_ok-read_field.was
    c.read_field-2.ensures c.in_ok-read_field-2.was
    c.read_field-3.ensures c.requires.trinomial.0 c.requires.trinomial.1 c.in_ok-read_field-3.was
    c.of.ensures c.fill_a.ensures
