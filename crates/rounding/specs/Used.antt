-- What the call UseHint answers (SPEC 3.9): the high bits, or refusal 6.
use Rattle.std.specs.Prelude.{ℕ, leb, ℤ, Ok, Err, Result as RustResult}
use Rattle.sets.specs.Set.{Set}
use Rattle.answers.specs.declared.Refusal.{Refusal}
use Rattle.answers.specs.declared.Refusal.TheVariants.{Hint}
use Rattle.answers.specs.declared.Report.{Report}
use Rattle.answers.specs.Refusals.{done_report, refusal_report}
use Rattle.answers.specs.Result.{Result, done, ◌>>◌, need, told, left}
use Rattle.rounding.specs.Rounding.{use_hint}

-- SPEC 3.9
unfoldable pub used_hint : Set → ℕ → ℤ → Result ℕ
used_hint p h r = need (leb h 1) Hint >> done (use_hint p h r)

-- SPEC 10.6: an answer as its report, with the high bits, 0 where there are none
abbrev pub used_report : RustResult ℕ Refusal → Report × ℕ
used_report (Ok v) = (done_report 0, v)
used_report (Err r) = (refusal_report r 0, 0)

-- the same of the definition
abbrev pub reported : Result ℕ → Report × ℕ
reported m = (told m, left m 0)
