-- `digits::code_at`: the four bytes from byte p / 8 on hold the w bits from bit p on.
use Rattle.std.proofs.Common.{◌*◌, arith}
use Rattle.digits.proofs.Windows.{field_in_window, le_value_at, one_shifted}
use Rattle.digits.proofs.code_at.Goals as goal

pub returns : goal.returns
returns c =
    rw (one_shifted _ c.requires.0, c.from_le_bytes.ensures, c.byte.ensures, c.byte-2.ensures, c.byte-3.ensures, c.byte-4.ensures, le_value_at c.args.s.now _)
    (field_in_window c.args.s.now c.args.w (c.args.w * c.args.i) c.requires.0 (λ k. omega (arith, c.type_inv.s k)))
