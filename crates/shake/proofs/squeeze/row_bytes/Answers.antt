use Rattle.std.proofs.Common.{rules}
use Rattle.std.specs.Int.{to_le_bytes, w64}
use Rattle.shake.proofs.Mapped.{map_of_five}
use Rattle.shake.proofs.squeeze.row_bytes.Goals as goal

pub returns : goal.returns
returns c = map_of_five _ (to_le_bytes w64) c.map.ensures.items (λ x y p q called. search rules) 0
