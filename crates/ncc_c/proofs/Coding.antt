-- From an answer to its number.
use mathlib.Core.Path.{◌≡◌, refl, sym, ap, subst, ◌∙◌}
use mathlib.Core.List.{List}
use Prim.Native.Nat.{ℕ, ◌<◌}
use native.Mathlib.Omega.{arith}
use lib.IntN.{ℤ}
use Rattle.std.specs.Prelude.{Ok, Err, Result as RustResult}
use Rattle.outcome.specs.Outcome.{Is}
use Rattle.sets.specs.Set.{set1}
use Rattle.answers.specs.declared.Buffer.{Buffer}
use Rattle.answers.specs.declared.Buffer.TheVariants.{PublicKey, SecretKey, Zeta, ZetaPrime, Signature, First, Second, Coefficients, Packed}
use Rattle.answers.specs.declared.Field.{Field}
use Rattle.answers.specs.declared.Field.TheVariants.{T1, T0, S1, S2, S, Z, W1}
use Rattle.answers.specs.declared.Refusal.{Refusal}
use Rattle.answers.specs.declared.Refusal.TheVariants.{Length, LongMessage, TryLimit, Coefficient, Hint, Dry, Spent, Differs}
use Rattle.answers.specs.declared.Report.{Report}
use Rattle.answers.specs.Refusals.{Answer, Signing, buffer_place, field_place, field_number, refusal_number, refusal_place, report_of, signing_report}
use Rattle.answers.specs.Result.{Result, done, refused, told, outcome}
use Rattle.answers.proofs.Reports.{report_one}
use Rattle.packing.specs.Calls.{pack_call, unpack_call}
use Rattle.rounding.specs.Used.{used_report, reported}
use Rattle.scheme.specs.Sign.{Signed, sign_told}
use Rattle.ncc_c.specs.Answer.{encoded, coded, Fits}
use Rattle.ncc_c.proofs.Small.{Small, of_pack_call, of_unpack_call}

-- ---- numbers and places are below 256

buffer_low : (b : Buffer) → buffer_place b < 256
buffer_low PublicKey = omega arith
buffer_low SecretKey = omega arith
buffer_low Zeta = omega arith
buffer_low ZetaPrime = omega arith
buffer_low Signature = omega arith
buffer_low First = omega arith
buffer_low Second = omega arith
buffer_low Coefficients = omega arith
buffer_low Packed = omega arith

field_low : (f : Field) → (field_number f < 256) × (field_place f < 256)
field_low T1 = (omega arith, omega arith)
field_low T0 = (omega arith, omega arith)
field_low S1 = (omega arith, omega arith)
field_low S2 = (omega arith, omega arith)
field_low S = (omega arith, omega arith)
field_low Z = (omega arith, omega arith)
field_low W1 = (omega arith, omega arith)

refusal_low : (r : Refusal) → (refusal_number r < 256) × (refusal_place r < 256)
refusal_low (Length b) = (omega arith, buffer_low b)
refusal_low LongMessage = (omega arith, omega arith)
refusal_low TryLimit = (omega arith, omega arith)
refusal_low (Coefficient f i) = field_low f
refusal_low Hint = (omega arith, omega arith)
refusal_low Dry = (omega arith, omega arith)
refusal_low Spent = (omega arith, omega arith)
refusal_low Differs = (omega arith, omega arith)

pub answer_low : (a : Answer) → ((report_of a).number < 256) × ((report_of a).place < 256)
answer_low (Ok u) = (omega arith, omega arith)
answer_low (Err r) = refusal_low r

pub signing_low : (s : Signing) → ((signing_report s).number < 256) × ((signing_report s).place < 256)
signing_low (Ok count) = (omega arith, omega arith)
signing_low (Err e) = refusal_low e.why

-- ---- a call's index is small, and its answer becomes a number

index_of : {r s : Report} → r ≡ s → s.index < 65536 → r.index < 65536
index_of {r} {s} e h = let f : r.index ≡ s.index = ap (λ (x : Report). x.index) e in omega arith

pub answer_index : {A : Type 0} {m : Result A} (a : Answer) → Small m → report_of a ≡ told m → (report_of a).index < 65536
answer_index a s e = index_of e s.index

pub to_number : {B : Type 0} {o : Report × B} {r : Report} {x : ℕ} {held : B} → Is o r held → x ≡ encoded r → Is (coded o) x held
to_number i e = record { answers = e ∙ ap encoded i.answers; leaves = i.leaves }

-- what the encoding asks of a report
pub answer_fits : (a : Answer) {r : Report} → r ≡ report_of a → (report_of a).index < 65536 → Fits r
answer_fits a e i =
    subst Fits (sym e) (record { number = (answer_low a).0; place = (answer_low a).1; index = i })

pub signing_fits : (s : Signing) {r : Report} → r ≡ signing_report s → (signing_report s).index < 65536 → Fits r
signing_fits s e i =
    subst Fits (sym e) (record { number = (signing_low s).0; place = (signing_low s).1; index = i })

-- packing and unpacking
module _ (f : Field) where
  pub pack_index : (values : List ℤ) (out : List ℕ) (a : Answer) → report_of a ≡ told (pack_call set1 f values out) → (report_of a).index < 65536
  pack_index values out a = answer_index a (of_pack_call set1 (omega arith) f values out)

  pub unpack_index : (packed : List ℕ) (out : List ℤ) (a : Answer) → report_of a ≡ told (unpack_call set1 f packed out) → (report_of a).index < 65536
  unpack_index packed out a = answer_index a (of_unpack_call set1 (omega arith) f packed out)

-- a hint's high bits are stored, or the number keeps what it held
pub used_high : (m : Result ℕ) (old v : ℕ) (u : RustResult ℕ Refusal) → u ≡ Ok v → used_report u ≡ reported m → Is (outcome m old) (report_of (Ok tt)) v
used_high (done x) old v u e h =
    record { answers = refl; leaves = ap (λ (y : RustResult ℕ Refusal). (used_report y).1) (sym e) ∙ ap (λ (y : Report × ℕ). y.1) h }
used_high (refused r) old v u e h =
    let d : Ok tt ≡ Err r =
    report_one (Ok tt) (Err r) (ap (λ (y : RustResult ℕ Refusal). (used_report y).0) (sym e) ∙ ap (λ (y : Report × ℕ). y.0) h) in
    let z : ◌≡◌ {A = ℕ} 0 1 = cc in
    absurd (omega arith)

pub used_refused : (m : Result ℕ) (old : ℕ) (why : Refusal) (u : RustResult ℕ Refusal) → u ≡ Err why → used_report u ≡ reported m
    → Is (outcome m old) (report_of (Err why)) old
used_refused (done x) old why u e h =
    let d : Err why ≡ Ok tt =
    report_one (Err why) (Ok tt) (ap (λ (y : RustResult ℕ Refusal). (used_report y).0) (sym e) ∙ ap (λ (y : Report × ℕ). y.0) h) in
    let z : ◌≡◌ {A = ℕ} 0 1 = cc in
    absurd (omega arith)
used_refused (refused r) old why u e h =
    record { answers = ap (λ (y : RustResult ℕ Refusal). (used_report y).0) (sym e) ∙ ap (λ (y : Report × ℕ). y.0) h; leaves = refl }

-- signing names the same index
told_index : (limit : ℕ) (m : Result Signed) → Small m → (sign_told limit m).index < 65536
told_index limit (done s) h = omega arith
told_index limit (refused r) h = h.index

pub sign_index : (limit : ℕ) {m : Result Signed} (s : Signing) → Small m → signing_report s ≡ sign_told limit m → (signing_report s).index < 65536
sign_index limit {m} s h e = index_of e (told_index limit m h)
