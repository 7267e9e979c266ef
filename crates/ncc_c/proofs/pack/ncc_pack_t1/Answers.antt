use Rattle.answers.specs.declared.Field.TheVariants.{T1}
use Rattle.ncc_c.proofs.Coding.{pack_index, to_number}
use Rattle.ncc_c.proofs.pack.ncc_pack_t1.Goals as goal

pub answer-requires : goal.answer-requires
answer-requires c = pack_index T1 c.args.values.now c.args.out.now c.pack.result c.pack.ensures.answers

pub returns : goal.returns
returns c = to_number c.pack.ensures c.answer.ensures
