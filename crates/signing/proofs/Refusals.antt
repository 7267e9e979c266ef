-- Why the checks and the reading of the key refuse: a length, the message, the limit, a coefficient, or a dry stream. So the count of tries is 0 (SPEC 8.10).
use mathlib.Core.Path.{◌≡◌, ap}
use mathlib.Core.Bool.{Bool, true, false, cond}
use mathlib.Core.List.{List, [], ◌∷◌}
use Prim.Native.Nat.{ℕ, suc}
use native.Mathlib.Omega.{arith}
use Rattle.std.proofs.Common.{rules}
use borrow.Author.Tests.{ne_eqb}
use Rattle.sets.specs.Set.{Set}
use Rattle.answers.specs.declared.Field.{Field}
use Rattle.answers.specs.declared.Field.TheVariants as field
use Rattle.answers.specs.declared.Refusal.{Refusal}
use Rattle.answers.specs.declared.Refusal.TheVariants.{Coefficient}
use Rattle.answers.specs.Refusals.{refusal_number, field_number}
use Rattle.answers.specs.Result.{Result, done, refused, ◌>>=◌, ◌>>◌, need}
use Rattle.packing.specs.declared.parts.Part.{Part}
use Rattle.packing.specs.declared.parts.Part.TheVariants as part
use Rattle.layouts.specs.Layouts.{layout_of, every, allowed, unpack}
use Rattle.packing.specs.Parts.{field_in, bytes_of, read_secret}
use Rattle.digits.specs.Digits.{codes}
use Rattle.sampling.specs.Samplers.{Drawn, drew, dry, drawn}
use Rattle.streams.specs.Streams.{Hash, expand_a}
use Rattle.scheme.specs.Sign.{read_key, count_at}
use Rattle.signing.specs.Inner.{checks}

-- what is refused, if anything, is not number 8
abbrev pub Early : {A : Type 0} → Result A → Type 0
Early (done a) = Unit {0}
Early (refused r) = refusal_number r ≡ 8 → ⊥

-- step by step
early_bind : {A B : Type 0} (m : Result A) (f : A → Result B) → Early m → ((a : A) → Early (f a)) → Early (m >>= f)
early_bind (done a) f e h = h a
early_bind (refused r) f e h = e

early_then : {A B : Type 0} (l : Result A) (m : Result B) → Early l → Early m → Early (l >> m)
early_then (done a) m e h = h
early_then (refused r) m e h = e

early_need : (b : Bool) (r : Refusal) → (refusal_number r ≡ 8 → ⊥) → Early (need b r)
early_need true r h = tt
early_need false r h = h

pub checks_early : (p : Set) (sk M : List ℕ) (limit : ℕ) (out : List ℕ) → Early (checks p sk M limit out)
checks_early p sk M limit out = search (rules, early_then, early_need)

every_early : (ok : ℕ → Bool) (f : Field) (i : ℕ) (xs : List ℕ) → (field_number f ≡ 8 → ⊥) → Early (every ok (Coefficient f) i xs)
unfolding every
every_early ok f i [] h = tt
every_early ok f i (x ∷ xs) h = early_then _ _ (early_need (ok x) (Coefficient f i) h) (every_early ok f (suc i) xs h)

field_early : (p : Set) (f : Field) (x : Part) (bs : List ℕ) → (field_number f ≡ 8 → ⊥) → Early (field_in p f x bs)
unfolding unpack
field_early p f x bs h =
    early_then _ _ (every_early (allowed (layout_of p f)) f 0 (codes (layout_of p f).bits p.n (bytes_of p x bs)) h) tt

dry_early : (d : Drawn) → Early (drawn d)
dry_early dry = λ n. omega arith
dry_early (drew zs) = tt

secret_early : (p : Set) (sk : List ℕ) → Early (read_secret p sk)
unfolding read_secret
secret_early p sk =
    early_bind _ _ (field_early p field.S1 part.S1 sk (λ n. omega arith))
    (λ s1. early_bind _ _ (field_early p field.S2 part.S2 sk (λ n. omega arith))
    (λ s2. early_bind _ _ (field_early p field.T0 part.T0 sk (λ n. omega arith)) (λ t0. tt)))

pub key_early : (p : Set) (H : Hash) (sk : List ℕ) → Early (read_key p H sk)
unfolding read_key expand_a
key_early p H sk = search (rules, early_bind, secret_early, dry_early)

pub early_count : {A : Type 0} (m : Result A) (r : Refusal) → Early m → m ≡ refused r → (limit : ℕ) → count_at limit r ≡ 0
early_count m r h e limit = ap (λ (b : Bool). cond b limit 0) (ne_eqb (refusal_number r) 8 (rw e at h))
