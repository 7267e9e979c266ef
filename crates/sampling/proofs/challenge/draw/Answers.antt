use Rattle.std.proofs.Common.{ℕ, ◌%◌, ap, ◌∙◌, rules}
use Rattle.sampling.proofs.Reading.{two_bytes}
use Rattle.sampling.proofs.challenge.draw.Goals as goal

pub returns : goal.returns
returns c = ap (λ (x : ℕ). x % c.args.power) (c.from.ensures ∙ c.from_le_bytes.ensures ∙ two_bytes c.args.pair (search rules))
