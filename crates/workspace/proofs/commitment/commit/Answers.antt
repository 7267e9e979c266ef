use Rattle.std.proofs.Common.{append-nil}
use Rattle.scheme.specs.Try.{commit}
use Rattle.workspace.proofs.commitment.commit.Goals as goal

pub returns : goal.returns
unfolding commit
returns c = rw (c.shake256.ensures, c.pack.ensures, c.of-l.ensures, append-nil, c.requires.out_len)
