-- What a step's answer says of the definition's result.
use mathlib.Core.Path.{◌≡◌, refl, sym, ap, ◌∙◌}
use Prim.Native.Nat.{ℕ}
use native.Mathlib.Omega.{arith}
use Rattle.answers.specs.declared.Refusal.{Refusal}
use Rattle.answers.specs.Refusals.{Answer}
use Rattle.std.specs.Prelude.{Ok, Err}
use Rattle.answers.specs.Result.{Result, done, refused, ◌>>=◌}
use Rattle.answers.specs.Inner.{Gives}
use Rattle.answers.proofs.Results.{not_done}
use Rattle.answers.proofs.Outcomes.{stops, gives}

done_not : (r : Refusal) → ◌≡◌ {A = Answer} (Err r) (Ok tt) → ⊥
done_not r e = let z : ◌≡◌ {A = ℕ} 0 1 = cc in omega arith

module _ {A : Type 0} {m : Result A} {holds : A → Type 0} where
  -- a step that did what it was to do, and one that refused
  pub gives_well : (a : A) → m ≡ done a → holds a → Gives m holds (Ok tt)
  gives_well a e h = record { well = λ d. (a, e, h); ill = λ why d. absurd (done_not why (sym d)) }

  pub gives_ill : (r : Refusal) → m ≡ refused r → Gives m holds (Err r)
  gives_ill r e = record { well = λ d. absurd (done_not r d); ill = λ why d. let z : r ≡ why = cc in e ∙ ap refused z }

  -- what it says of the value may be put in other words
  pub gives_as : {other : A → Type 0} {r : Answer} → ((a : A) → m ≡ done a → holds a → other a) → Gives m holds r → Gives m other r
  gives_as f g = record { well = λ e. ((g.well e).0, (g.well e).1, f (g.well e).0 (g.well e).1 (g.well e).2); ill = g.ill }

  -- and of another way to write the result
  pub gives_is : {n : Result A} {r : Answer} → m ≡ n → Gives m holds r → Gives n holds r
  gives_is e g = record { well = λ d. ((g.well d).0, sym e ∙ (g.well d).1, (g.well d).2); ill = λ why d. sym e ∙ g.ill why d }

-- a value that is put into another form
pub gives_then : {A B : Type 0} {m : Result A} {holds : A → Type 0} {other : B → Type 0} {r : Answer} (g : A → B)
    → ((a : A) → m ≡ done a → holds a → other (g a)) → Gives m holds r → Gives (m >>= λ a. done (g a)) other r
gives_then {m = m} g f G = record {
  well = λ d. let w = G.well d in (g w.0, gives m w.0 (λ a. done (g a)) w.1, f w.0 w.1 w.2);
  ill = λ why d. stops m why (λ a. done (g a)) (G.ill why d);
}

module _ {A B : Type 0} (f : A → Result B) {m : Result A} {holds : B → Type 0} where
  -- a definition in two steps: the first refuses, or the second decides
  pub bind_ill : (r : Refusal) → m ≡ refused r → Gives (m >>= f) holds (Err r)
  bind_ill r e = gives_ill r (stops m r f e)

  pub bind_well : (a : A) {r : Answer} → m ≡ done a → Gives (f a) holds r → Gives (m >>= f) holds r
  bind_well a e g = gives_is (sym (gives m a f e)) g

-- the answer is one, whatever is said of the value
pub gives_one : {A : Type 0} {m : Result A} {holds other : A → Type 0} (x y : Answer) → Gives m holds x → Gives m other y → x ≡ y
gives_one (Ok u) (Ok v) f g = refl
gives_one (Ok u) (Err r) f g = absurd (not_done r (f.well refl).0 (sym (g.ill r refl) ∙ (f.well refl).1))
gives_one (Err r) (Ok u) f g = absurd (not_done r (g.well refl).0 (sym (f.ill r refl) ∙ (g.well refl).1))
gives_one (Err r) (Err s) f g = let e = sym (f.ill r refl) ∙ g.ill s refl in cc
