-- Checking's definition as the code goes: three lengths, what is read and drawn, one comparison.
use mathlib.Core.Path.{◌≡◌, refl}
use mathlib.Core.List.{List}
use Prim.Native.Nat.{ℕ, ◌≤◌, ◌<◌}
use borrow.Author.Tests.{eq-eqb, ne_eqb, le-leb, lt-leb}
use lib.ListN.{length}
use Rattle.std.specs.Prelude.{IsErrAnd}
use Rattle.std.proofs.lemmas.Result.{err_from_is_err_and}
use Rattle.sets.specs.Set.{Set, message_max}
use Rattle.answers.specs.declared.Buffer.TheVariants.{PublicKey as PublicBuffer, Signature as SignatureBuffer}
use Rattle.answers.specs.declared.Refusal.{Refusal}
use Rattle.answers.specs.declared.Refusal.TheVariants.{Length, LongMessage}
use Rattle.answers.specs.Refusals.{Answer, report_of}
use Rattle.answers.specs.Result.{Result, done, refused, ◌>>=◌, answer_of, told}
use Rattle.packing.specs.Parts.{public_size, signature_size}
use Rattle.streams.specs.Streams.{Hash}
use Rattle.scheme.specs.Check.{check}
use Rattle.checking.specs.Inner.{Inputs, inputs, compared}

-- what follows two steps follows the second
then_each : {A B C : Type 0} (m : Result A) (f : A → Result B) (g : B → Result C) → ((m >>= f) >>= g) ≡ (m >>= λ a. f a >>= g)
then_each (done a) f g = refl
then_each (refused r) f g = refl

module _ (p : Set) (H : Hash) (pk σ M : List ℕ) where
  pub wrong_public : (length pk ≡ public_size p → ⊥) → check p H pk σ M ≡ refused (Length PublicBuffer)
  unfolding check
  wrong_public e = rw (ne_eqb (length pk) (public_size p) e)

  module _ (e : length pk ≡ public_size p) where
    pub wrong_signature : (length σ ≡ signature_size p → ⊥) → check p H pk σ M ≡ refused (Length SignatureBuffer)
    unfolding check
    wrong_signature f = rw (eq-eqb (length pk) (public_size p) e, ne_eqb (length σ) (signature_size p) f)

    module _ (f : length σ ≡ signature_size p) where
      pub long_message : message_max < length M → check p H pk σ M ≡ refused LongMessage
      unfolding check
      long_message l = rw (eq-eqb (length pk) (public_size p) e, eq-eqb (length σ) (signature_size p) f, lt-leb (length M) message_max l)

      module _ (l : length M ≤ message_max) where
        check_is : check p H pk σ M ≡ (inputs p H pk σ >>= compared p H pk M)
        unfolding check inputs
        check_is = rw (eq-eqb (length pk) (public_size p) e, eq-eqb (length σ) (signature_size p) f, le-leb (length M) message_max l) (simp then_each)

        -- inputs that are refused, and the exit of a `?`
        pub inputs_refused : (r : Refusal) → inputs p H pk σ ≡ refused r → check p H pk σ M ≡ refused r
        inputs_refused r m = rw (check_is, m) refl

        pub refused_inputs : {why : Refusal} → inputs p H pk σ ≡ refused why → (s : Answer) → IsErrAnd s (λ y. y ≡ why)
            → report_of s ≡ told (check p H pk σ M)
        refused_inputs e s i =
            let b = err_from_is_err_and s i in
            rw (check_is, e, b.1, b.2)

        pub with_inputs : {i : Inputs} → inputs p H pk σ ≡ done i → {s : Answer} → s ≡ answer_of (compared p H pk M i)
            → report_of s ≡ told (check p H pk σ M)
        with_inputs e r = rw (check_is, e, r)
