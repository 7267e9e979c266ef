-- Results, taken apart: what an answer says of the checks and steps before it.
use mathlib.Core.Path.{◌≡◌, refl, ap, ◌∙◌}
use mathlib.Core.Bool.{Bool, true, false}
use Prim.Native.Nat.{ℕ}
use native.Mathlib.Omega.{arith}
use Rattle.answers.specs.declared.Refusal.{Refusal}
use Rattle.answers.specs.Result.{Result, done, refused, ◌>>=◌, ◌>>◌, need}

-- forward: a step that gave a value, and a check that held
pub bind_done : {A B : Type 0} {m : Result A} {a : A} {r : Result B} (f : A → Result B) → m ≡ done a → f a ≡ r → (m >>= f) ≡ r
bind_done f e k = ap (λ x. x >>= f) e ∙ k

pub need_done : {A : Type 0} {r : Result A} (b : Bool) (n : Refusal) (m : Result A) → b ≡ true → m ≡ r → (need b n >> m) ≡ r
need_done b n m e k = ap (λ x. need x n >> m) e ∙ k

-- a step whose value is not used
pub then-done : {A B : Type 0} (m : Result A) (a : A) (k : Result B) → m ≡ done a → (m >> k) ≡ k
then-done m a k e = ap (λ x. x >> k) e

pub then-refused : {A B : Type 0} (m : Result A) (n : Refusal) (k : Result B) → m ≡ refused n → (m >> k) ≡ refused n
then-refused m n k e = ap (λ x. x >> k) e

-- back: a value at the end came from a value at each step
pub bind_inv : {A B : Type 0} (m : Result A) (f : A → Result B) (b : B) → (m >>= f) ≡ done b → (a : A) × (m ≡ done a) × (f a ≡ done b)
bind_inv (done a) f b e = (a, refl, e)
bind_inv (refused r) f b e = let z : ◌≡◌ {A = ℕ} 0 1 = cc in absurd (omega arith)

pub then-inv : {A B : Type 0} (m : Result A) (k : Result B) (b : B) → (m >> k) ≡ done b → (a : A) × (m ≡ done a) × (k ≡ done b)
then-inv (done a) k b e = (a, refl, e)
then-inv (refused r) k b e = let z : ◌≡◌ {A = ℕ} 0 1 = cc in absurd (omega arith)

pub need_inv : {B : Type 0} (b : Bool) (n : Refusal) (k : Result B) (x : B) → (need b n >> k) ≡ done x → (b ≡ true) × (k ≡ done x)
need_inv true n k x e = (refl, e)
need_inv false n k x e = let z : ◌≡◌ {A = ℕ} 0 1 = cc in absurd (omega arith)

-- an answer that is not this check's refusal: the check held, and the answer is that of what follows
pub passed : {A : Type 0} (b : Bool) (n : Refusal) (m r : Result A) → (refused n ≡ r → ⊥) → (need b n >> m) ≡ r → (b ≡ true) × (m ≡ r)
passed true n m r h e = (refl, e)
passed false n m r h e = absurd (h e)

pub not_done : {A : Type 0} (r : Refusal) (a : A) → refused r ≡ done a → ⊥
not_done r a e = let z : ◌≡◌ {A = ℕ} 0 1 = cc in omega arith

-- what was done is one value
pub done_inv : {A : Type 0} (a b : A) → done a ≡ done b → a ≡ b
done_inv a b e = cc
