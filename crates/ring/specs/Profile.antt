-- The ring that a set's record names (SPEC 2.4), and the product in it (SPEC 2.3).
use Rattle.std.specs.Prelude.{ℕ, ◌/◌, List, ℤ}
use Rattle.sets.specs.Set.{Set}
use Rattle.sets.specs.declared.numbers.Ring.{Ring}
use Rattle.sets.specs.declared.numbers.Ring.TheVariants.{Trinomial, Prime}
use Rattle.ring.specs.Ring.{fold, fold_prime, product}

-- what is a ring's own: how exponents fold. wrap e k is coefficient k of X^e
pub record Profile : Type 0 where
  pub wrap : ℕ → ℕ → ℤ

-- SPEC 2.4: the profile of each ring, of degree n
abbrev pub profile_of : Ring → ℕ → Profile
profile_of Trinomial n = record { wrap = fold (n / 2) }
profile_of Prime n = record { wrap = fold_prime n }

-- the profile that the record names
abbrev pub profile : Set → Profile
profile p = profile_of p.ring p.n

-- SPEC 2.3: the product in the set's ring
abbrev pub mul : Set → List ℤ → List ℤ → List ℤ
mul p a b = product p.n p.q (profile p).wrap a b
