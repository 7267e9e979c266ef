-- The calls, where their checks hold.
use Rattle.std.proofs.Common.{◌≡◌, List, ℕ, ◌≤◌, length, ℤ, arith}
use Rattle.std.proofs.lemmas.Bool.Decides.{nat_tests}
use Rattle.sets.specs.Set.{Set}
use Rattle.answers.specs.declared.Field.{Field}
use Rattle.answers.specs.declared.Refusal.TheVariants.{Coefficient}
use Rattle.answers.specs.Result.{done}
use Rattle.layouts.specs.Layouts.{layout_of, hint_layout, holds, every, size, pack, unpack}
use Rattle.layouts.specs.Hints.{ones, any_hint, read_hints}
use Rattle.packing.specs.Calls.{pack_call, unpack_call, pack_hints_call, unpack_hints_call}

module _ (p : Set) (f : Field) where
  pub pack_done : (values : List ℤ) (out : List ℕ) → length values ≡ p.n → length out ≡ size (layout_of p f) p.n
      → every (holds (layout_of p f)) (Coefficient f) 0 values ≡ done tt → pack_call p f values out ≡ done (pack (layout_of p f) p.n values)
  unfolding pack_call
  pack_done values out e g h = grind (arith, nat_tests)

  pub unpack_goes : (packed : List ℕ) (out : List ℤ) → length packed ≡ size (layout_of p f) p.n → length out ≡ p.n
      → unpack_call p f packed out ≡ unpack (layout_of p f) (Coefficient f) p.n packed
  unfolding unpack_call
  unpack_goes packed out e g = grind (arith, nat_tests)

-- the hints
module _ (p : Set) where
  pub pack_hints_done : (values : List ℤ) (out : List ℕ) → length values ≡ p.n → length out ≡ size hint_layout p.n
      → every (holds hint_layout) any_hint 0 values ≡ done tt → ones values ≤ p.omega → pack_hints_call p values out ≡ done (pack hint_layout p.n values)
  unfolding pack_hints_call
  pack_hints_done values out e g h l = grind (arith, nat_tests)

  pub unpack_hints_goes : (packed : List ℕ) (out : List ℤ) → length packed ≡ size hint_layout p.n → length out ≡ p.n
      → unpack_hints_call p packed out ≡ read_hints p packed
  unfolding unpack_hints_call
  unpack_hints_goes packed out e g = grind (arith, nat_tests)
