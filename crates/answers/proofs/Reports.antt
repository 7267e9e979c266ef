-- An answer is known by its report (SPEC 10.6): number, place, index and count are one-to-one.
use mathlib.Core.Path.{◌≡◌, refl, sym, ap, ◌∙◌}
use mathlib.Core.List.{[], ◌∷◌}
use Prim.Native.Nat.{ℕ, ◌-◌}
use lib.ListN.{get_or}
use Rattle.answers.specs.declared.Buffer.{Buffer}
use Rattle.answers.specs.declared.Buffer.TheVariants.{PublicKey, SecretKey, Zeta, ZetaPrime, Signature, First, Second, Coefficients, Packed}
use Rattle.answers.specs.declared.Field.{Field}
use Rattle.answers.specs.declared.Field.TheVariants.{T1, T0, S1, S2, S, Z, W1}
use Rattle.answers.specs.declared.Refusal.TheVariants.{Length, LongMessage, TryLimit, Coefficient, Hint, Dry, Spent, Differs}
use Rattle.answers.specs.Refusals.{Answer}
use Rattle.std.specs.Prelude.{Ok, Err}
use Rattle.answers.specs.Refusals.{Signing}
use Rattle.answers.specs.declared.Report.{Report}
use Rattle.answers.specs.Refusals.{report_of, signing_report}

-- what a place and a number name, read back
abbrev buffer_at : ℕ → Buffer
buffer_at k =
    get_or (PublicKey ∷ SecretKey ∷ Zeta ∷ ZetaPrime ∷ Signature ∷ First ∷ Second ∷ Coefficients ∷ Packed ∷ []) (k - 1) PublicKey

abbrev field_at : ℕ → Field
field_at k = get_or (T1 ∷ T0 ∷ S1 ∷ S2 ∷ S ∷ Z ∷ W1 ∷ []) (k - 17) T1

abbrev answer_at : Report → Answer
answer_at r =
    get_or
    (Ok tt ∷ Err (Length (buffer_at r.place)) ∷ Err LongMessage ∷ Err TryLimit ∷
    Err (Coefficient (field_at r.place) r.index) ∷ Err (Coefficient (field_at r.place) r.index) ∷
    Err Hint ∷ Err Dry ∷ Err Spent ∷ Err Differs ∷ [])
    r.number (Ok tt)

read_back : (a : Answer) → answer_at (report_of a) ≡ a
read_back (Ok u) = refl
read_back (Err (Length PublicKey)) = refl
read_back (Err (Length SecretKey)) = refl
read_back (Err (Length Zeta)) = refl
read_back (Err (Length ZetaPrime)) = refl
read_back (Err (Length Signature)) = refl
read_back (Err (Length First)) = refl
read_back (Err (Length Second)) = refl
read_back (Err (Length Coefficients)) = refl
read_back (Err (Length Packed)) = refl
read_back (Err LongMessage) = refl
read_back (Err TryLimit) = refl
read_back (Err (Coefficient T1 i)) = refl
read_back (Err (Coefficient T0 i)) = refl
read_back (Err (Coefficient S1 i)) = refl
read_back (Err (Coefficient S2 i)) = refl
read_back (Err (Coefficient S i)) = refl
read_back (Err (Coefficient Z i)) = refl
read_back (Err (Coefficient W1 i)) = refl
read_back (Err Hint) = refl
read_back (Err Dry) = refl
read_back (Err Spent) = refl
read_back (Err Differs) = refl

pub report_one : (a b : Answer) → report_of a ≡ report_of b → a ≡ b
report_one a b e = sym (read_back a) ∙ ap answer_at e ∙ read_back b

-- the same with the count of tries beside it
abbrev with_count : Answer → ℕ → Signing
with_count (Ok u) count = Ok count
with_count (Err r) count = Err (record { why = r; tries = count })

abbrev signing_at : Report → Signing
signing_at r = with_count (answer_at r) r.tries

signing_back : (s : Signing) → signing_at (signing_report s) ≡ s
signing_back (Ok count) = refl
signing_back (Err e) = ap (λ a. with_count a e.tries) (read_back (Err e.why))

pub signing_one : (s t : Signing) → signing_report s ≡ signing_report t → s ≡ t
signing_one s t e = sym (signing_back s) ∙ ap signing_at e ∙ signing_back t
