use Rattle.std.proofs.Common.{arith}
use Rattle.sampling.proofs.Reading.{one_shifted, group_in_window}
use Rattle.sampling.proofs.element.low_bits.Goals as goal

pub returns : goal.returns
returns c =
    rw (one_shifted c.args.p.abits (omega arith), c.from.ensures, c.window.ensures)
    (group_in_window c.args.rest.now c.args.p.abits c.args.p.abytes (λ k. omega (arith, c.type_inv.rest k)) c.requires.a_bytes c.requires.a_room)
