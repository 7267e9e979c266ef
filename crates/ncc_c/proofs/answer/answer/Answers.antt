use Rattle.ncc_c.specs.Answer.{encoded}
use mathlib.Core.Path.{ap, ◌∙◌}
use Rattle.ncc_c.proofs.Coding.{answer_fits}
use Rattle.ncc_c.proofs.answer.answer.Goals as goal

pub encode-requires : goal.encode-requires
encode-requires c = answer_fits c.args.a c.from.ensures c.requires

pub returns : goal.returns
returns c = c.encode.ensures ∙ ap encoded c.from.ensures
