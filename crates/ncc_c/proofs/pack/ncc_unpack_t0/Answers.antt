use Rattle.answers.specs.declared.Field.TheVariants.{T0}
use Rattle.ncc_c.proofs.Coding.{unpack_index, to_number}
use Rattle.ncc_c.proofs.pack.ncc_unpack_t0.Goals as goal

pub answer-requires : goal.answer-requires
answer-requires c = unpack_index T0 c.args.packed.now c.args.out.now c.unpack.result c.unpack.ensures.answers

pub returns : goal.returns
returns c = to_number c.unpack.ensures c.answer.ensures
