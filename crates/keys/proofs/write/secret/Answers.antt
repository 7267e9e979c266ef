use Rattle.keys.proofs.Written.{secret_written}
use Rattle.keys.proofs.write.secret.Goals as goal

pub returns : goal.returns
returns c =
    let z = c.requires.zeta_len in
    secret_written c.args.p _ z.0 z.1 z.2 _ _ _ c.of.ensures c.of-2.ensures c.of-3.ensures _ _ _ _ _ _ _ z.3
    c.put.ensures c.put-2.ensures c.put-3.ensures c.put-4.ensures c.put-5.ensures c.put-6.ensures
