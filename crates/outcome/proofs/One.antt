-- One outcome for each contract, over the checker's own reading of it.
use mathlib.Core.Path.{◌≡◌, sym, ◌∙◌}
use mathlib.Core.List.{List}
use Prim.Native.Nat.{ℕ}
use contract.Lifetimes.{Lfts}
use denote.Triple.Clauses.{AtExit}
use borrow.Fn.Kinds.{ParamKind, ResultKind, Dens, res_t, ended_of, In, Out}
use Rattle.outcome.specs.Outcome.{Is}

-- `Post` is a contract as the checker reads it, over the lifetimes, the arguments, the result and the parameters at exit.
-- Any two outcomes that it permits for the same arguments are equal: the results, and what `left` reads off the parameters at exit, that is
-- the final content of each buffer that the function was lent to write (`Unit` where there is none).
abbrev pub One : (n : ℕ) (ps : List (ParamKind n)) (r : ResultKind n) → Out n ps r → {B : Type 0} → ((κs : Lfts n) → AtExit (ended_of n ps r) κs → B) → Type 0
One n ps r Post left =
    (κs : Lfts n) (a : Dens κs ps) (x y : (res_t r κs).Denot) (s t : AtExit (ended_of n ps r) κs)
    → Post κs a x s → Post κs a y t → (x ≡ y) × (left κs s ≡ left κs t)

-- The same where what the contract requires is needed for it.
abbrev pub OneGiven : (n : ℕ) (ps : List (ParamKind n)) (r : ResultKind n) → In n ps → Out n ps r → {B : Type 0} → ((κs : Lfts n) → AtExit (ended_of n ps r) κs → B) → Type 0
OneGiven n ps r Pre Post left = One n ps r (λ κs a x s. Pre κs a × Post κs a x s) left

-- a contract that is `Is` of a definition's pair permits one answer and one content of the buffers
pub determined : {A B : Type 0} (o : A × B) (a a' : A) (b b' : B) → Is o a b → Is o a' b' → (a ≡ a') × (b ≡ b')
determined o a a' b b' p q = (p.answers ∙ sym q.answers, p.leaves ∙ sym q.leaves)
