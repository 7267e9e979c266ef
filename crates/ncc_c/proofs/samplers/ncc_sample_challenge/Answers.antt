use Rattle.sampling.specs.Samplers.{challenge}
use Rattle.sets.specs.Set.{set1}
use Rattle.ncc_c.proofs.Small.{of_sample_call}
use Rattle.ncc_c.proofs.Coding.{answer_index, to_number}
use Rattle.ncc_c.proofs.samplers.ncc_sample_challenge.Goals as goal

pub answer-requires : goal.answer-requires
answer-requires c = answer_index c.sample_challenge.result (of_sample_call set1 challenge c.args.stream.now c.args.out.now) c.sample_challenge.ensures.answers

pub returns : goal.returns
returns c = to_number c.sample_challenge.ensures c.answer.ensures
