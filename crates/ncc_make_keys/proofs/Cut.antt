-- What is lent to key making are the bytes of the first seed and all others, however long the input is.
use mathlib.Core.Path.{sym, subst}
use mathlib.Core.List.{List, []}
use Prim.Native.Nat.{ℕ, ◌-◌, ◌<◌}
use native.Mathlib.Omega.{arith}
use lib.ListN.{length, take, drop, length-drop, drop_of_length-le}
use lib.Seq.{take_all}
use Rattle.outcome.specs.Outcome.{Is}
use Rattle.sets.specs.Set.{set1, seed_size}
use Rattle.answers.specs.declared.Report.{Report}
use Rattle.answers.specs.Result.{outcome}
use Rattle.shake.specs.Shake.{shake256}
use Rattle.scheme.specs.Keys.{Pair, make_keys}

module _ (input public_out secret_out : List ℕ) (old : Pair) (answer : Report) (held : Pair) where
  abbrev Made : List ℕ → List ℕ → Type 0
  Made ζ ζ' = Is (outcome (make_keys set1 shake256 ζ ζ' public_out secret_out) old) answer held

  pub cut_short : length input < seed_size → Made input [] → Made (take seed_size input) (drop seed_size input)
  cut_short h i =
      subst (λ (ζ : List ℕ). Made ζ (drop seed_size input)) (sym (take_all seed_size input (omega arith)))
      (subst (λ (ζ' : List ℕ). Made input ζ') (sym (drop_of_length-le input {i = seed_size} (omega arith))) i)

  pub whole : Made (take seed_size input) (take (length input - seed_size) (drop seed_size input)) → Made (take seed_size input) (drop seed_size input)
  whole i = subst (λ (ζ' : List ℕ). Made (take seed_size input) ζ') (take_all (length input - seed_size) (drop seed_size input) (omega (arith, length-drop seed_size input))) i
