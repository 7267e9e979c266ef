use Rattle.checking.proofs.Loading.{no_t1, no_z, no_hints, no_a, all_there}
use Rattle.checking.proofs.load.Goals as goal

pub returns-in_err-read_field : goal.returns-in_err-read_field
returns-in_err-read_field c = no_t1 c.args.p c.args.public_key.now c.args.signature.now c.read_field.ensures c.in_err-read_field.was c.from_residual.ensures.1

pub returns-in_err-read_field-2 : goal.returns-in_err-read_field-2
returns-in_err-read_field-2 c =
    no_z c.args.p c.args.public_key.now c.args.signature.now c.read_field.ensures c.in_ok-read_field.was
    c.read_field-2.ensures c.in_err-read_field-2.was c.from_residual-in_err-read_field-2.ensures.1

pub returns-in_err-read_hints : goal.returns-in_err-read_hints
returns-in_err-read_hints c =
    no_hints c.args.p c.args.public_key.now c.args.signature.now c.read_field.ensures c.in_ok-read_field.was
    c.read_field-2.ensures c.in_ok-read_field-2.was
    c.read_hints.ensures c.in_err-read_hints.was c.from_residual-in_err-read_hints.ensures.1

pub returns-in_err-fill_a : goal.returns-in_err-fill_a
returns-in_err-fill_a c =
    no_a c.args.p c.args.public_key.now c.args.signature.now c.read_field.ensures c.in_ok-read_field.was
    c.read_field-2.ensures c.in_ok-read_field-2.was
    c.read_hints.ensures c.in_ok-read_hints.was
    c.of.ensures c.fill_a.ensures c.in_err-fill_a.was c.from_residual-in_err-fill_a.ensures.1

pub returns : goal.returns
returns c =
    all_there c.args.p c.args.public_key.now c.args.signature.now c.read_field.ensures c.in_ok-read_field.was
    c.read_field-2.ensures c.in_ok-read_field-2.was
    c.read_hints.ensures c.in_ok-read_hints.was
    c.of.ensures c.fill_a.ensures c.in_ok-fill_a.was
    c.of-2.ensures c.fill_c.ensures
