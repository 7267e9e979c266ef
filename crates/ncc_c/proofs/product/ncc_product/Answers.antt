use Rattle.ncc_c.proofs.Small.{of_product_call}
use Rattle.ncc_c.proofs.Coding.{answer_index, to_number}
use Rattle.sets.specs.Set.{set1}
use Rattle.ncc_c.proofs.product.ncc_product.Goals as goal

pub answer-requires : goal.answer-requires
answer-requires c = answer_index c.product.result (of_product_call set1 c.args.first.now c.args.second.now c.args.out.now) c.product.ensures.answers

pub returns : goal.returns
returns c = to_number c.product.ensures c.answer.ensures
