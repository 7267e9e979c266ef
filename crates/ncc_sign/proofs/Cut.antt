-- A short input is refused, and what is lent to signing are the parts of any other. The code's numbers are `key` and `head`.
use mathlib.Core.Path.{◌≡◌, sym, ap, subst, ◌∙◌}
use mathlib.Core.List.{List}
use Prim.Native.Nat.{ℕ, ◌+◌, ◌-◌, ◌≤◌, ◌<◌}
use native.Mathlib.Omega.{arith}
use lib.ListN.{length, take, drop, length-drop}
use lib.Seq.{take_all}
use Rattle.outcome.specs.Outcome.{Is}
use Rattle.sets.specs.Set.{set1}
use Rattle.digits.specs.Digits.{value}
use Rattle.answers.specs.declared.Buffer.TheVariants.{SecretKey}
use Rattle.answers.specs.declared.Refusal.TheVariants.{Length}
use Rattle.answers.specs.declared.Report.{Report}
use Rattle.answers.specs.Refusals.{refusal_report}
use Rattle.answers.specs.Result.{Result}
use Rattle.answers.proofs.Outcomes.{above, at_most}
use Rattle.shake.specs.Shake.{shake256}
use Rattle.packing.specs.Parts.{secret_size}
use Rattle.scheme.specs.Sign.{Signed, sign, sign_told, sign_left, sign_outcome}
use Rattle.ncc_sign.specs.Input.{limit_in, signature_from}

module _ (input out : List ℕ) (key : ℕ) (is_key : key ≡ secret_size set1) where
  abbrev signing : ℕ → ℕ → List ℕ → Result Signed
  signing k limit message = sign set1 shake256 (take k input) message limit out

  abbrev Signs : Report → List ℕ → ℕ → Result Signed → Type 0
  Signs answer held limit m = Is (sign_outcome limit m out) answer held

  abbrev there : ℕ → Result Signed
  there k = signing k (limit_in input) (drop (k + 4) input)

  pub cut_short : length input < key + 4 → Signs (refusal_report (Length SecretKey) 0) out (limit_in input) (signature_from input out)
  cut_short h =
      let e = sym (above (secret_size set1 + 4) (length input) (Length SecretKey) (there (secret_size set1)) (omega (arith, is_key))) in
      record { answers = ap (sign_told (limit_in input)) e; leaves = ap (λ (m : Result Signed). sign_left m out) e }

  module _ (answer : Report) (held : List ℕ) (limit : ℕ) where
    pub whole : limit ≡ value 256 (take 4 (drop key input)) → key + 4 ≤ length input
        → Signs answer held limit (signing key limit (take (length input - (key + 4)) (drop (key + 4) input)))
        → Signs answer held (limit_in input) (signature_from input out)
    whole e h i =
        subst (Signs answer held (limit_in input))
        (ap there is_key ∙ sym (at_most (secret_size set1 + 4) (length input) (Length SecretKey) (there (secret_size set1)) (omega (arith, is_key))))
        (subst (λ (n : ℕ). Signs answer held n (signing key n (drop (key + 4) input))) (e ∙ ap (λ (k : ℕ). value 256 (take 4 (drop k input))) is_key)
        (subst (λ (m : List ℕ). Signs answer held limit (signing key limit m))
        (take_all (length input - (key + 4)) (drop (key + 4) input) (omega (arith, length-drop (key + 4) input))) i))
