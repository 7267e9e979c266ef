use Rattle.signing.proofs.Written.{signature_written}
use Rattle.signing.proofs.write_signature.Goals as goal

pub returns : goal.returns
returns c =
    signature_written c.args.p _ c.requires.commitment_len.0 _ _ c.of.ensures c.hint.ensures _ _ _ _ c.requires.commitment_len.1
    c.put.ensures c.put-2.ensures c.put-3.ensures
