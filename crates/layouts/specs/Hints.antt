-- Hints: at most ω ones (SPEC 6.6).
use Rattle.std.specs.Prelude.{ℕ, ◌+◌, List, [], ◌∷◌, leb, ℤ, nat_abs}
use Rattle.sets.specs.Set.{Set}
use Rattle.answers.specs.declared.Refusal.{Refusal}
use Rattle.answers.specs.declared.Refusal.TheVariants.{Hint}
use Rattle.answers.specs.Result.{Result, done, ◌>>=◌, ◌>>◌, need}
use Rattle.layouts.specs.Layouts.{hint_layout, unpack}

-- how many of the hints are ones
unfoldable pub ones : List ℤ → ℕ
ones [] = 0
ones (x ∷ xs) = nat_abs x + ones xs

-- SPEC 6.6: refusal 6 names no place
abbrev pub any_hint : ℕ → Refusal
any_hint i = Hint

-- SPEC 6.6: a hint other than 0 or 1, or more than ω ones
unfoldable pub read_hints : Set → List ℕ → Result (List ℤ)
read_hints p bs =
    do
      h ← unpack hint_layout any_hint p.n bs
      need (leb (ones h) p.omega) Hint
      done h
