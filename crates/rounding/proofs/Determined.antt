-- Each public contract of this crate permits one outcome.
use mathlib.Core.Path.{◌≡◌, refl, sym, ap, ap₂, ◌∙◌}
use Prim.Native.Nat.{ℕ}
use Rattle.std.specs.Prelude.{Result, Ok, Err}
use Rattle.outcome.proofs.One.{One}
use Rattle.answers.specs.declared.Refusal.{Refusal}
use Rattle.answers.specs.Refusals.{Answer, report_of}
use Rattle.answers.proofs.Reports.{report_one}
use Rattle.rounding.specs.Used.{used_report}
use Rattle.rounding.proofs.split_of.Reads as split_of
use Rattle.rounding.proofs.split_of.Kinds as split_of_kinds
use Rattle.rounding.proofs.high_of.Reads as high_of
use Rattle.rounding.proofs.high_of.Kinds as high_of_kinds
use Rattle.rounding.proofs.low_of.Reads as low_of
use Rattle.rounding.proofs.low_of.Kinds as low_of_kinds
use Rattle.rounding.proofs.hint_of.Reads as hint_of
use Rattle.rounding.proofs.hint_of.Kinds as hint_of_kinds
use Rattle.rounding.proofs.used_of.Reads as used_of
use Rattle.rounding.proofs.used_of.Kinds as used_of_kinds
use Rattle.rounding.proofs.power_of.Reads as power_of
use Rattle.rounding.proofs.power_of.Kinds as power_of_kinds
use Rattle.rounding.proofs.set1.plain_remainder.Reads as plain_remainder
use Rattle.rounding.proofs.set1.plain_remainder.Kinds as plain_remainder_kinds
use Rattle.rounding.proofs.set1.centred_remainder.Reads as centred_remainder
use Rattle.rounding.proofs.set1.centred_remainder.Kinds as centred_remainder_kinds
use Rattle.rounding.proofs.set1.decompose.Reads as decompose
use Rattle.rounding.proofs.set1.decompose.Kinds as decompose_kinds
use Rattle.rounding.proofs.set1.high_bits.Reads as high_bits_lem
use Rattle.rounding.proofs.set1.high_bits.Kinds as high_bits_kinds
use Rattle.rounding.proofs.set1.low_bits.Reads as low_bits
use Rattle.rounding.proofs.set1.low_bits.Kinds as low_bits_kinds
use Rattle.rounding.proofs.set1.make_hint.Reads as make_hint
use Rattle.rounding.proofs.set1.make_hint.Kinds as make_hint_kinds
use Rattle.rounding.proofs.set1.use_hint.Reads as use_hint
use Rattle.rounding.proofs.set1.use_hint.Kinds as use_hint_kinds
use Rattle.rounding.proofs.set1.power2round.Reads as power2round
use Rattle.rounding.proofs.set1.power2round.Kinds as power2round_kinds
use Rattle.rounding.proofs.set1.norm.Reads as norm
use Rattle.rounding.proofs.set1.norm.Kinds as norm_kinds

-- an answer of UseHint is known by its report and its high bits
abbrev answer_of : Result ℕ Refusal → Answer
answer_of (Ok v) = Ok tt
answer_of (Err r) = Err r

abbrev used_from : Answer → ℕ → Result ℕ Refusal
used_from (Ok u) v = Ok v
used_from (Err r) v = Err r

read_back : (u : Result ℕ Refusal) → used_from (answer_of u) (used_report u).1 ≡ u
read_back (Ok v) = refl
read_back (Err r) = refl

report_is : (u : Result ℕ Refusal) → report_of (answer_of u) ≡ (used_report u).0
report_is (Ok v) = refl
report_is (Err r) = refl

used_one : (u v : Result ℕ Refusal) → used_report u ≡ used_report v → u ≡ v
used_one u v e =
    sym (read_back u) ∙
    ap₂ used_from (report_one (answer_of u) (answer_of v) (report_is u ∙ ap (λ r. r.0) e ∙ sym (report_is v))) (ap (λ r. r.1) e) ∙
    read_back v

-- over remainders, for any set
pub split_of_one : One 0 split_of_kinds.ps split_of_kinds.r split_of.Post (λ κs s. tt {0})
split_of_one κs a x y s t p q = (p ∙ sym q, refl)

pub high_of_one : One 0 high_of_kinds.ps high_of_kinds.r high_of.Post (λ κs s. tt {0})
high_of_one κs a x y s t p q = (p ∙ sym q, refl)

pub low_of_one : One 0 low_of_kinds.ps low_of_kinds.r low_of.Post (λ κs s. tt {0})
low_of_one κs a x y s t p q = (p ∙ sym q, refl)

pub hint_of_one : One 0 hint_of_kinds.ps hint_of_kinds.r hint_of.Post (λ κs s. tt {0})
hint_of_one κs a x y s t p q = (p ∙ sym q, refl)

pub used_of_one : One 0 used_of_kinds.ps used_of_kinds.r used_of.Post (λ κs s. tt {0})
used_of_one κs a x y s t p q = (p ∙ sym q, refl)

pub power_of_one : One 0 power_of_kinds.ps power_of_kinds.r power_of.Post (λ κs s. tt {0})
power_of_one κs a x y s t p q = (p ∙ sym q, refl)

-- set 1
pub plain_remainder_one : One 0 plain_remainder_kinds.ps plain_remainder_kinds.r plain_remainder.Post (λ κs s. tt {0})
plain_remainder_one κs a x y s t p q = (p.0 ∙ sym q.0, refl)

pub centred_remainder_one : One 0 centred_remainder_kinds.ps centred_remainder_kinds.r centred_remainder.Post (λ κs s. tt {0})
centred_remainder_one κs a x y s t p q = (p ∙ sym q, refl)

pub decompose_one : One 0 decompose_kinds.ps decompose_kinds.r decompose.Post (λ κs s. tt {0})
decompose_one κs a x y s t p q = (p ∙ sym q, refl)

pub high_bits_one : One 0 high_bits_kinds.ps high_bits_kinds.r high_bits_lem.Post (λ κs s. tt {0})
high_bits_one κs a x y s t p q = (p ∙ sym q, refl)

pub low_bits_one : One 0 low_bits_kinds.ps low_bits_kinds.r low_bits.Post (λ κs s. tt {0})
low_bits_one κs a x y s t p q = (p ∙ sym q, refl)

pub make_hint_one : One 0 make_hint_kinds.ps make_hint_kinds.r make_hint.Post (λ κs s. tt {0})
make_hint_one κs a x y s t p q = (p ∙ sym q, refl)

pub use_hint_one : One 0 use_hint_kinds.ps use_hint_kinds.r use_hint.Post (λ κs s. tt {0})
use_hint_one κs a x y s t p q = (used_one x y (p ∙ sym q), refl)

pub power2round_one : One 0 power2round_kinds.ps power2round_kinds.r power2round.Post (λ κs s. tt {0})
power2round_one κs a x y s t p q = (p ∙ sym q, refl)

pub norm_one : One 1 norm_kinds.ps norm_kinds.r norm.Post (λ κs s. tt {0})
norm_one κs a x y s t p q = (p ∙ sym q, refl)
