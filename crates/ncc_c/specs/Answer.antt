-- An answer as one number (SPEC 10.7).
use Rattle.std.specs.Prelude.{ℕ, ◌+◌, ◌*◌, ◌^◌, ◌<◌}
use Rattle.answers.specs.declared.Report.{Report}

unfoldable pub encoded : Report → ℕ
encoded r = r.number + 2 ^ 8 * r.place + 2 ^ 16 * r.index + 2 ^ 32 * r.tries

-- a call's answer as one number, and what its buffers hold at the end
abbrev pub coded : {B : Type 0} → Report × B → ℕ × B
coded o = (encoded o.0, o.1)

-- the parts that stand below another have their own bits; a count of tries is a 32-bit number
pub record Fits (r : Report) : Type 0 where
  pub number : r.number < 2 ^ 8
  pub place : r.place < 2 ^ 8
  pub index : r.index < 2 ^ 16
