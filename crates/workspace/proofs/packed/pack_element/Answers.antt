use Rattle.std.proofs.Common.{refl, arith}
use Rattle.workspace.proofs.Codes.{can_pack, packed}
use Rattle.workspace.proofs.packed.pack_element.Goals as goal

pub pack_codes-requires-clause-w_nonzero : goal.pack_codes-requires-clause-w_nonzero
pack_codes-requires-clause-w_nonzero c = (can_pack c.requires.codable.readable _ c.requires.codable.allowed _ c.codes_of.ensures (omega arith) refl).0

pub returns : goal.returns
returns c = packed c.requires.codable.readable _ c.requires.codable.allowed c.codes_of.ensures c.pack_codes.ensures
