use Rattle.std.proofs.Common.{◌≡◌, arith, None, Some}
use Rattle.answers.specs.declared.Refusal.TheVariants.{Spent}
use Rattle.signing.proofs.Outcomes.{unchecked, no_key, spent, packable, signs}
use Rattle.signing.proofs.sign.Goals as goal

pub returns-in_err-check_call : goal.returns-in_err-check_call
returns-in_err-check_call c =
    unchecked c.args.p c.args.key.now c.args.message.now c.args.limit c.args.signature.now c.check_call.ensures.checked c.in_err-check_call.was
    _ c.from_residual.ensures.1

pub returns-in_err-read_key : goal.returns-in_err-read_key
returns-in_err-read_key c =
    no_key c.args.p c.args.key.now c.args.message.now c.args.limit c.args.signature.now c.check_call.ensures.checked c.in_ok-check_call.was
    c.read_key.ensures c.in_err-read_key.was _ c.from_residual-in_err-read_key.ensures.1

pub returns-in_err-kappa : goal.returns-in_err-kappa
returns-in_err-kappa c =
    let none : c.first_passing-found.result ≡ None = grind arith in
    let why : c.in_err-kappa.field-0.0 ≡ record { why = Spent; tries = c.args.limit } = grind arith in
    spent c.args.p c.args.key.now c.args.message.now c.args.limit c.args.signature.now c.check_call.ensures.checked c.in_ok-check_call.was
    c.read_key.ensures c.in_ok-read_key.was c.mu_of-mu.ensures c.rho_of-rho.ensures _ _ _ c.first_passing-found.ensures none
    _ (rw why at c.from_residual-in_err-kappa.ensures.1)

pub write_signature-requires-clause-packable : goal.write_signature-requires-clause-packable
write_signature-requires-clause-packable c =
    let some : c.first_passing-found.result ≡ Some c.in_ok-kappa.kappa = grind arith in
    packable c.args.p c.args.key.now c.args.message.now c.args.limit c.args.signature.now c.check_call.ensures.checked c.in_ok-check_call.was
    c.read_key.ensures c.in_ok-read_key.was c.mu_of-mu.ensures c.rho_of-rho.ensures _ _ _ c.first_passing-found.ensures c.requires.0 some

pub returns : goal.returns
returns c =
    let some : c.first_passing-found.result ≡ Some c.in_ok-kappa.kappa = grind arith in
    signs c.args.p c.args.key.now c.args.message.now c.args.limit c.args.signature.now c.check_call.ensures.checked c.in_ok-check_call.was
    c.read_key.ensures c.in_ok-read_key.was c.mu_of-mu.ensures c.rho_of-rho.ensures _ _ _ c.first_passing-found.ensures c.requires.0 some
    c.write_signature.ensures
