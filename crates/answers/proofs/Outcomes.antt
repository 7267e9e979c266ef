-- How a call's proof goes through the checks of its definition, one by one, and that a contract on a report permits one answer.
use mathlib.Core.Path.{◌≡◌, sym, ap, ◌∙◌}
use mathlib.Core.Bool.{Bool, true, false}
use Prim.Native.Nat.{ℕ, ◌≤◌, ◌<◌}
use lib.Dec.{eqb, leb}
use borrow.Author.Tests.{eq-eqb, ne_eqb, le-leb, lt-leb}
use Rattle.answers.specs.declared.Refusal.{Refusal}
use Rattle.answers.specs.Refusals.{Answer}
use Rattle.std.specs.Prelude.{Ok, Err}
use Rattle.answers.specs.declared.Report.{Report}
use Rattle.answers.specs.Refusals.{report_of}
use Rattle.answers.specs.Result.{Result, done, refused, ◌>>=◌, ◌>>◌, need, told, left, outcome}
use Rattle.outcome.specs.Outcome.{Is}
use Rattle.outcome.proofs.One.{determined}
use Rattle.answers.proofs.Reports.{report_one}

-- where the answer is an enum and the contract speaks of its report
pub determined_report : {B : Type 0} (o : Report × B) (a a' : Answer) (b b' : B) → Is o (report_of a) b → Is o (report_of a') b' → (a ≡ a') × (b ≡ b')
determined_report o a a' b b' p q =
    let d = determined o (report_of a) (report_of a') b b' p q in
    (report_one a a' d.0, d.1)

-- a call that refuses, and one that is done
pub refusing : {A : Type 0} (m : Result A) (r : Refusal) (out : A) → m ≡ refused r → Is (outcome m out) (report_of (Err r)) out
refusing m r out e = record { answers = ap told (sym e); leaves = ap (λ x. left x out) (sym e) }

pub doing : {A : Type 0} (m : Result A) (new held out : A) → m ≡ done new → held ≡ new → Is (outcome m out) (report_of (Ok tt)) held
doing m new held out e f = record { answers = ap told (sym e); leaves = f ∙ ap (λ x. left x out) (sym e) }

-- a check that fails ends the call; after one that holds the rest decides
pub fails : {A : Type 0} (b : Bool) (r : Refusal) (m : Result A) → b ≡ false → need b r >> m ≡ refused r
fails b r m e = ap (λ x. need x r >> m) e

pub holds : {A : Type 0} (b : Bool) (r : Refusal) (m : Result A) → b ≡ true → need b r >> m ≡ m
holds b r m e = ap (λ x. need x r >> m) e

-- so with a step that gives a value
pub stops : {A B : Type 0} (m : Result A) (r : Refusal) (f : A → Result B) → m ≡ refused r → m >>= f ≡ refused r
stops m r f e = ap (λ x. x >>= f) e

pub gives : {A B : Type 0} (m : Result A) (a : A) (f : A → Result B) → m ≡ done a → m >>= f ≡ f a
gives m a f e = ap (λ x. x >>= f) e

-- a check that two numbers are equal, or that one is at most the other
module _ {A : Type 0} (a b : ℕ) (r : Refusal) (m : Result A) where
  pub equal : a ≡ b → need (eqb a b) r >> m ≡ m
  equal e = holds (eqb a b) r m (eq-eqb a b e)

  pub unequal : (a ≡ b → ⊥) → need (eqb a b) r >> m ≡ refused r
  unequal e = fails (eqb a b) r m (ne_eqb a b e)

  pub at_most : a ≤ b → need (leb a b) r >> m ≡ m
  at_most l = holds (leb a b) r m (le-leb a b l)

  pub above : b < a → need (leb a b) r >> m ≡ refused r
  above l = fails (leb a b) r m (lt-leb a b l)
