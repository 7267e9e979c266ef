use Rattle.keys.proofs.Written.{public_written}
use Rattle.keys.proofs.write.public.Goals as goal

pub returns : goal.returns
returns c =
    public_written c.args.p _ c.requires.zeta_len.0 _ c.of.ensures _ _ _ c.requires.zeta_len.1 c.put.ensures c.put-2.ensures
