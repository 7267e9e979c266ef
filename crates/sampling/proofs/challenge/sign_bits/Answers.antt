use Rattle.std.proofs.Common.{arith}
use Rattle.sampling.proofs.Reading.{eight_bytes}
use Rattle.sampling.proofs.challenge.sign_bits.Goals as goal

pub returns : goal.returns
returns c h = grind (arith, eight_bytes)
