use Rattle.ncc_c.specs.Answer.{encoded}
use mathlib.Core.Path.{ap, ◌∙◌}
use Rattle.ncc_c.proofs.Coding.{signing_fits}
use Rattle.ncc_c.proofs.answer.signed.Goals as goal

pub encode-requires : goal.encode-requires
encode-requires c = signing_fits c.args.s c.from.ensures c.requires

pub returns : goal.returns
returns c = c.encode.ensures ∙ ap encoded c.from.ensures
