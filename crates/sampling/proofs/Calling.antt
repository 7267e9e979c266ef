-- The samplers' calls for set 1: the check of the output's length, then what the inner sampler answered, then what is stored.
use mathlib.Core.Path.{◌≡◌, ap, ◌∙◌}
use mathlib.Core.List.{List, map}
use Prim.Native.Nat.{ℕ, ◌<◌}
use native.Mathlib.Omega.{arith}
use lib.IntN.{ℤ, pos}
use lib.ListN.{length, get_or}
use Rattle.outcome.specs.Outcome.{Is}
use Rattle.sets.specs.Set.{Set, set1}
use Rattle.answers.specs.declared.Buffer.TheVariants.{Coefficients}
use Rattle.answers.specs.declared.Refusal.{Refusal}
use Rattle.answers.specs.declared.Refusal.TheVariants.{Length, Dry}
use Rattle.answers.specs.Refusals.{Answer, report_of}
use Rattle.answers.specs.Result.{done, refused, outcome}
use Rattle.answers.proofs.Outcomes.{equal, unequal, refusing, doing}
use Rattle.sampling.specs.Samplers.{Drawn, drawn, sample_a, sample_s, challenge}
use Rattle.std.specs.Prelude.{Ok, Err}
use Rattle.std.specs.Result.{IsErrAnd}
use Rattle.std.proofs.lemmas.Result.{err_from_is_err_and}
use Rattle.sampling.specs.declared.Dry.{Dry as DryStream}
use Rattle.sampling.specs.Inner.{Sampled, drawn_a, drawn_s, drawn_c}
use Rattle.sampling.specs.Calls.{sample_call}
use Rattle.sampling.proofs.Drawing.{held_below}
use Rattle.sampling.proofs.Filling.{said}
use Rattle.sampling.proofs.Samplings.{tied_a, tied_s, tied_c}

-- what the inner sampler's answer says of the definition
module _ (p : Set) (e : p ≡ set1) (bs : List ℕ) (answer : Sampled) where
  pub told_a : (held : List ℕ) → Is (drawn_a p bs) answer held → sample_a set1 bs ≡ said answer (map pos held)
  told_a held I = tied_a set1 bs answer held (rw e at I)

  pub told_s : (held : List ℤ) → Is (drawn_s p bs) answer held → sample_s set1 bs ≡ said answer held
  told_s held I = tied_s set1 bs answer held (rw e at I)

  pub told_c : (held : List ℤ) → Is (drawn_c p bs) answer held → challenge set1 bs ≡ said answer held
  told_c held I = tied_c set1 bs answer held (rw e at I)

  -- every number of a fits a signed word
  pub small_a : (held : List ℕ) → Is (drawn_a p bs) answer held → (u : Unit {0}) → answer ≡ Ok u → (k : ℕ) → get_or held k 0 < 2147483648
  small_a held I u a k = omega (arith, held_below set1 bs held (omega arith) (rw a at (told_a held I)) k)

-- the calls
module _ (sample : Set → List ℕ → Drawn) (bs : List ℕ) (out : List ℤ) where
  -- the exit of a `?`
  pub call_refused : (why : Refusal) → sample_call set1 sample bs out ≡ refused why → (r : Answer) → IsErrAnd r (λ y. y ≡ why)
      → Is (outcome (sample_call set1 sample bs out) out) (report_of r) out
  call_refused why e r i =
      let p = err_from_is_err_and r i in
      rw (p.1, p.2) (refusing (sample_call set1 sample bs out) why out e)

  pub call_done : (new held : List ℤ) → sample_call set1 sample bs out ≡ done new → held ≡ new
      → Is (outcome (sample_call set1 sample bs out) out) (report_of (Ok tt)) held
  call_done new held e f = doing (sample_call set1 sample bs out) new held out e f

  pub wrong_length : (length out ≡ 1152 → ⊥) → sample_call set1 sample bs out ≡ refused (Length Coefficients)
  unfolding sample_call
  wrong_length e = unequal (length out) 1152 (Length Coefficients) (drawn (sample set1 bs)) e

  module _ (l : length out ≡ 1152) (zs : List ℤ) (answer : Sampled) (T : sample set1 bs ≡ said answer zs) where
    call : sample_call set1 sample bs out ≡ drawn (said answer zs)
    unfolding sample_call
    call = equal (length out) 1152 (Length Coefficients) (drawn (sample set1 bs)) l ∙ ap drawn T

    pub dry_call : (e : DryStream) → answer ≡ Err e → sample_call set1 sample bs out ≡ refused Dry
    dry_call e a = call ∙ rw a

    pub drawn_call : (u : Unit {0}) → answer ≡ Ok u → sample_call set1 sample bs out ≡ done zs
    drawn_call u a = call ∙ rw a
