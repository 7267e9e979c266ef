-- What an answer says in numbers (SPEC 10): its number, the buffer or the field, the coefficient's index, and the count of tries.
-- Buffers and fields share one numbering, under which outside programs know them too.
use Rattle.std.specs.Prelude.{ℕ, Result, Ok, Err}
use Rattle.answers.specs.declared.Buffer.{Buffer}
use Rattle.answers.specs.declared.Buffer.TheVariants.{PublicKey, SecretKey, Zeta, ZetaPrime, Signature, First, Second, Coefficients, Packed}
use Rattle.answers.specs.declared.Field.{Field}
use Rattle.answers.specs.declared.Field.TheVariants.{T1, T0, S1, S2, S, Z, W1}
use Rattle.answers.specs.declared.Refusal.{Refusal}
use Rattle.answers.specs.declared.Refusal.TheVariants.{Length, LongMessage, TryLimit, Coefficient, Hint, Dry, Spent, Differs}
use Rattle.answers.specs.declared.NotSigned.{NotSigned}
use Rattle.answers.specs.declared.Report.{Report}

-- SPEC 10.3, 10.6: the buffer that a refusal for length names
abbrev pub buffer_place : Buffer → ℕ
buffer_place PublicKey = 1
buffer_place SecretKey = 2
buffer_place Zeta = 3
buffer_place ZetaPrime = 4
buffer_place Signature = 5
buffer_place First = 6
buffer_place Second = 7
buffer_place Coefficients = 8
buffer_place Packed = 9

-- SPEC 10.4, 10.6: the field of a bad coefficient
abbrev pub field_place : Field → ℕ
field_place T1 = 17
field_place T0 = 18
field_place S1 = 19
field_place S2 = 20
field_place S = 21
field_place Z = 22
field_place W1 = 23

-- SPEC 10.1: z has a number of its own
abbrev pub field_number : Field → ℕ
field_number T1 = 4
field_number T0 = 4
field_number S1 = 4
field_number S2 = 4
field_number S = 4
field_number Z = 5
field_number W1 = 4

-- SPEC 10.1: number, place and index of each refusal
abbrev pub refusal_line : Refusal → ℕ × ℕ × ℕ
refusal_line (Length b) = (1, buffer_place b, 0)
refusal_line LongMessage = (2, 0, 0)
refusal_line TryLimit = (3, 0, 0)
refusal_line (Coefficient f i) = (field_number f, field_place f, i)
refusal_line Hint = (6, 0, 0)
refusal_line Dry = (7, 0, 0)
refusal_line Spent = (8, 0, 0)
refusal_line Differs = (9, 0, 0)

abbrev pub refusal_number : Refusal → ℕ
refusal_number r = (refusal_line r).0

abbrev pub refusal_place : Refusal → ℕ
refusal_place r = (refusal_line r).1

abbrev pub refusal_index : Refusal → ℕ
refusal_index r = (refusal_line r).2

abbrev pub refusal_report : Refusal → ℕ → Report
refusal_report r tries = record { number = refusal_number r; place = refusal_place r; index = refusal_index r; tries = tries }

-- SPEC 10.1: 0 is done, or accepted
abbrev pub done_report : ℕ → Report
done_report tries = record { number = 0; place = 0; index = 0; tries = tries }

-- what a call answers that gives nothing back but in its buffers
abbrev pub Answer : Type 0
Answer = Result (Unit {0}) Refusal

abbrev pub report_of : Answer → Report
report_of (Ok done) = done_report 0
report_of (Err why) = refusal_report why 0

-- SPEC 8.10: the answer of signing carries the count of tries
abbrev pub Signing : Type 0
Signing = Result ℕ NotSigned

abbrev pub signing_report : Signing → Report
signing_report (Ok tries) = done_report tries
signing_report (Err e) = refusal_report e.why e.tries

-- a refusal before the first try
abbrev pub before_tries : Refusal → NotSigned
before_tries why = record { why = why; tries = 0 }
