-- A definition's result: a value, or a refusal (SPEC 10). Checks are written in the order in which they run (SPEC 10.2).
use Rattle.std.specs.Prelude.{Bool, true, false, Ok, Err}
use Rattle.answers.specs.declared.Refusal.{Refusal}
use Rattle.answers.specs.declared.Report.{Report}
use Rattle.answers.specs.Refusals.{Answer, report_of}

pub data Result (A : Type 0) : Type 0 where
  done : A → Result A
  refused : Refusal → Result A

infixl 10 ◌>>=◌
infixl 10 ◌>>◌
-- what follows runs only where nothing was refused before
abbrev pub ◌>>=◌ : {A B : Type 0} → Result A → (A → Result B) → Result B
◌>>=◌ (done a) f = f a
◌>>=◌ (refused r) f = refused r

abbrev pub ◌>>◌ : {A B : Type 0} → Result A → Result B → Result B
◌>>◌ (done a) m = m
◌>>◌ (refused r) m = refused r

-- a check that must hold, and its refusal where it does not
abbrev pub need : Bool → Refusal → Result (Unit {0})
need true r = done tt
need false r = refused r

abbrev pub pick : {A : Type 0} → Bool → A → A → A
pick true a b = a
pick false a b = b

-- what a call answers
abbrev pub answer_of : {A : Type 0} → Result A → Answer
answer_of (done a) = Ok tt
answer_of (refused r) = Err r

-- the same in numbers (SPEC 10.6)
abbrev pub told : {A : Type 0} → Result A → Report
told r = report_of (answer_of r)

-- SPEC 10.5: what a buffer that came with `old` holds at the end
abbrev pub left : {A : Type 0} → Result A → A → A
left (done new) old = new
left (refused r) old = old

-- both: the answer of a call, and what its output buffer, which came with `old`, holds at the end
abbrev pub outcome : {A : Type 0} → Result A → A → Report × A
outcome m old = (told m, left m old)
