use Rattle.workspace.proofs.Filling.{ranged, lent_codable}
use Rattle.workspace.proofs.packed.pack.Goals as goal

pub pack_element-requires-clause-codable : goal.pack_element-requires-clause-codable
pack_element-requires-clause-codable c = lent_codable _ c.requires.trinomial.2 (ranged c.span.ensures c.range.ensures) c.requires.trinomial.1 c.requires.packable.0
