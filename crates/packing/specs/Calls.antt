-- What packing and unpacking answer over lent buffers (SPEC 6.12).
use Rattle.std.specs.Prelude.{List, ℕ, eqb, leb, length, ℤ}
use Rattle.sets.specs.Set.{Set}
use Rattle.answers.specs.declared.Buffer.TheVariants.{Coefficients, Packed}
use Rattle.answers.specs.declared.Field.{Field}
use Rattle.answers.specs.declared.Refusal.TheVariants.{Length, Coefficient, Hint}
use Rattle.answers.specs.Result.{Result, done, ◌>>◌, need}
use Rattle.layouts.specs.Layouts.{layout_of, hint_layout, holds, every, size, pack, unpack}
use Rattle.layouts.specs.Hints.{ones, any_hint, read_hints}

unfoldable pub pack_call : Set → Field → List ℤ → List ℕ → Result (List ℕ)
pack_call p f values out =
    do
      need (eqb (length values) p.n) (Length Coefficients)
      need (eqb (length out) (size (layout_of p f) p.n)) (Length Packed)
      every (holds (layout_of p f)) (Coefficient f) 0 values
      done (pack (layout_of p f) p.n values)

unfoldable pub unpack_call : Set → Field → List ℕ → List ℤ → Result (List ℤ)
unpack_call p f packed out =
    do
      need (eqb (length packed) (size (layout_of p f) p.n)) (Length Packed)
      need (eqb (length out) p.n) (Length Coefficients)
      unpack (layout_of p f) (Coefficient f) p.n packed

-- SPEC 6.6: hints
unfoldable pub pack_hints_call : Set → List ℤ → List ℕ → Result (List ℕ)
pack_hints_call p values out =
    do
      need (eqb (length values) p.n) (Length Coefficients)
      need (eqb (length out) (size hint_layout p.n)) (Length Packed)
      every (holds hint_layout) any_hint 0 values
      need (leb (ones values) p.omega) Hint
      done (pack hint_layout p.n values)

unfoldable pub unpack_hints_call : Set → List ℕ → List ℤ → Result (List ℤ)
unpack_hints_call p packed out =
    do
      need (eqb (length packed) (size hint_layout p.n)) (Length Packed)
      need (eqb (length out) p.n) (Length Coefficients)
      read_hints p packed
