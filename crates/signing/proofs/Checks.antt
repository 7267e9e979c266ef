-- A signing call in its steps: the checks in their order (SPEC 8.9), the key, and then the tries.
use mathlib.Core.Path.{◌≡◌, refl}
use mathlib.Core.List.{List}
use Prim.Native.Nat.{ℕ}
use Rattle.sets.specs.Set.{Set}
use Rattle.answers.specs.Result.{Result, done, refused, ◌>>=◌, ◌>>◌}
use Rattle.shake.specs.Shake.{shake256}
use Rattle.scheme.specs.Try.{Signer}
use Rattle.scheme.specs.Sign.{Signed, Key, mu_of, rho_of, read_signer, sign_with, sign}
use Rattle.signing.specs.Inner.{checks, signed_from}

-- steps may be put together
bind_bind : {A B C : Type 0} (l : Result A) (f : A → Result B) (g : B → Result C) → ((l >>= f) >>= g) ≡ (l >>= λ (a : A). f a >>= g)
bind_bind (done a) f g = refl
bind_bind (refused r) f g = refl

then_then : {A B C : Type 0} (l : Result A) (m : Result B) (n : Result C) → (l >> (m >> n)) ≡ (l >> m >> n)
then_then (done a) m n = refl
then_then (refused r) m n = refl

pub in_steps : (p : Set) (sk M : List ℕ) (limit : ℕ) (out : List ℕ)
    → sign p shake256 sk M limit out ≡ (checks p sk M limit out >> signed_from p sk (mu_of p shake256 sk M) (rho_of p shake256 sk M) limit)
unfolding sign sign_with read_signer
in_steps p sk M limit out =
    simp (bind_bind {A = Key} {B = Signer} {C = Signed}) (simp (then_then {A = Unit {0}} {B = Unit {0}} {C = Signed}))
