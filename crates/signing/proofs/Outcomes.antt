-- How a signing call ends.
use mathlib.Core.Path.{◌≡◌, refl, sym, ap, ◌∙◌}
use mathlib.Core.List.{List, [], ◌++◌, append-nil}
use Prim.Native.Nat.{ℕ, ◌+◌}
use Rattle.outcome.specs.Outcome.{Is}
use Rattle.std.specs.Prelude.{Ok, Err, IsErrAnd, Option, Some, None}
use Rattle.std.proofs.lemmas.Result.{err_from_is_err_and}
use Rattle.sets.specs.Set.{Set, wide_size}
use Rattle.sets.specs.Good.{Trinomial}
use Rattle.answers.specs.declared.Refusal.{Refusal}
use Rattle.answers.specs.declared.Refusal.TheVariants.{Spent}
use Rattle.answers.specs.declared.NotSigned.{NotSigned}
use Rattle.answers.specs.Refusals.{Answer, Signing, refusal_report, signing_report, before_tries}
use Rattle.answers.specs.Result.{Result, done, refused, answer_of}
use Rattle.answers.specs.Inner.{Gives}
use Rattle.shake.specs.Shake.{shake256}
use Rattle.layouts.specs.Layouts.{z_layout, hint_layout}
use Rattle.packing.specs.declared.parts.Part.TheVariants as part
use Rattle.packing.specs.Parts.{pack_signature, bytes_of}
use Rattle.scheme.specs.Try.{Signer, try}
use Rattle.scheme.specs.Sign.{Signed, mu, mu_of, rho_of, first_pass, read_key, count_at, sign_outcome, sign}
use Rattle.workspace.specs.declared.Place.TheVariants as place
use Rattle.workspace.specs.Inner.{Packable, values}
use Rattle.tries.specs.Inner.{signer_in, Passes, Found}
use Rattle.signing.specs.Inner.{KeyHeld, checks}
use Rattle.signing.proofs.Checks.{in_steps}
use Rattle.signing.proofs.Refusals.{checks_early, key_early, early_count}
use Rattle.signing.proofs.Written.{both_packable, is_signature}

-- the answer of checks, taken apart
was_refused : (m : Result (Unit {0})) {why : Refusal} → answer_of m ≡ Err why → m ≡ refused why
was_refused (done u) e = cc
was_refused (refused r) e = let z : r ≡ _ = cc in ap refused z

was_done : (m : Result (Unit {0})) → answer_of m ≡ Ok tt → m ≡ done tt
was_done (done u) e = ap done (cc)
was_done (refused r) e = cc

-- a call that signs, over any answer of the definition
pub outcome_signs : (limit : ℕ) (m : Result Signed) (n : ℕ) (bytes out left : List ℕ) → m ≡ done record { count = n; bytes = bytes } → left ≡ bytes
    → Is (sign_outcome limit m out) (signing_report (Ok n)) left
outcome_signs limit m n bytes out left e l = rw e (record { answers = refl; leaves = l })

module _ (p : Set) (sk M : List ℕ) (limit : ℕ) (out : List ℕ) where
  abbrev defined : Result Signed
  defined = sign p shake256 sk M limit out

  abbrev Ends : Signing → List ℕ → Type 0
  Ends answer left = Is (sign_outcome limit defined out) (signing_report answer) left

  -- the exit of a `?`
  exit : (e : NotSigned) → defined ≡ refused e.why → count_at limit e.why ≡ e.tries → (s : Signing) → IsErrAnd s (λ y. y ≡ e) → Ends s out
  exit e d k s i = let b = err_from_is_err_and s i in rw (b.1, b.2, d) (record { answers = ap (refusal_report e.why) (sym k); leaves = refl })

  module _ {r0 : Answer} (checked : r0 ≡ answer_of (checks p sk M limit out)) where
    pub unchecked : {why : Refusal} → r0 ≡ Err why → (s : Signing) → IsErrAnd s (λ y. y ≡ before_tries why) → Ends s out
    unchecked {why} e =
        let m = was_refused (checks p sk M limit out) (sym checked ∙ e) in
        exit (before_tries why) (in_steps p sk M limit out ∙ rw m) (early_count _ why (checks_early p sk M limit out) m limit)

    module _ (d0 : r0 ≡ Ok tt) {work : List ℕ} {r1 : Answer} (read : Gives (read_key p shake256 sk) (λ k. KeyHeld p k work) r1) where
      pub no_key : {why : Refusal} → r1 ≡ Err why → (s : Signing) → IsErrAnd s (λ y. y ≡ before_tries why) → Ends s out
      no_key {why} e =
          let m = was_done (checks p sk M limit out) (sym checked ∙ d0) in
          let k = read.ill why e in
          exit (before_tries why) (in_steps p sk M limit out ∙ rw (m, k)) (early_count _ why (key_early p shake256 sk) k limit)

      module _ (d1 : r1 ≡ Ok tt) {μ ρ : List ℕ} (is_μ : μ ≡ mu_of p shake256 sk M) (is_ρ : ρ ≡ shake256 (bytes_of p part.K sk ++ μ) wide_size)
          (found : Option ℕ) (more c~ : List ℕ) (tried : Found p (signer_in p work μ ρ) limit found more c~) where
        tries : defined ≡ first_pass (try p shake256 (signer_in p work μ ρ)) 0 limit
        tries =
            let m = was_done (checks p sk M limit out) (sym checked ∙ d0) in
            let k = read.well d1 in
            in_steps p sk M limit out ∙ rw (m, k.1, k.2.is, is_ρ, is_μ)

        pub spent : found ≡ None → (s : Signing) → IsErrAnd s (λ y. y ≡ record { why = Spent; tries = limit }) → Ends s out
        spent e = exit (record { why = Spent; tries = limit }) (tries ∙ (rw e at tried)) refl

        module _ (T : Trinomial p) {κ : ℕ} (e : found ≡ Some κ) where
          passes : Passes p (signer_in p work μ ρ) limit κ more c~
          passes = rw e at tried

          pub packable : Packable p (z_layout p) place.Z more × Packable p hint_layout place.Hints more
          packable = both_packable p T _ limit κ more c~ passes

          pub signs : {left : List ℕ} → left ≡ pack_signature p record { c~ = c~; z = values p place.Z more; h = values p place.Hints more } → Ends (Ok (κ + 1)) left
          signs l = rw (tries ∙ passes.found) (record { answers = refl; leaves = is_signature p T _ limit κ more c~ passes _ l })

-- ---- what the tries answered
module _ (p : Set) (S : Signer) (limit : ℕ) (found : Option ℕ) (work c~ : List ℕ) (f : Found p S limit found work c~) where
  pub found_spent : found ≡ None → first_pass (try p shake256 S) 0 limit ≡ refused Spent
  found_spent e = rw e at f

-- ---- μ and ρ, as the code has hashed them
pub mu_is : (p : Set) (sk M : List ℕ) {ph : List ℕ} {μ : List ℕ} → ph ≡ bytes_of p part.Ph sk → μ ≡ mu shake256 ph M → μ ≡ mu_of p shake256 sk M
mu_is p sk M e h = h ∙ ap (λ (x : List ℕ). mu shake256 x M) e

pub rho_is : (p : Set) (sk M : List ℕ) {k : List ℕ} {μ : List ℕ} {ρ : List ℕ} {long : ℕ} → k ≡ bytes_of p part.K sk → μ ≡ mu_of p shake256 sk M → long ≡ wide_size
    → ρ ≡ shake256 (k ++ (μ ++ [])) long → ρ ≡ rho_of p shake256 sk M
rho_is p sk M {μ = μ} isK is_mu l h = h ∙ (λ i. shake256 (isK i ++ (append-nil μ ∙ is_mu) i) (l i))
