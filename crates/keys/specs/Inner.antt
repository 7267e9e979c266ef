-- Inner: what each step of key making leaves in the memory. No definition, and no promise of a public entry, rests on this file.
use Rattle.std.specs.Prelude.{List, ℕ, ℤ}
use Rattle.sets.specs.Set.{Set}
use Rattle.answers.specs.Result.{Result, done, ◌>>=◌}
use Rattle.shake.specs.Shake.{shake256}
use Rattle.packing.specs.declared.parts.Part.TheVariants as part
use Rattle.packing.specs.Parts.{bytes_of}
use Rattle.streams.specs.Streams.{expand_a, expand_s}
use Rattle.scheme.specs.Elements.{power_highs, power_lows}
use Rattle.scheme.specs.Keys.{key_t}
use Rattle.workspace.specs.declared.Place.TheVariants as place
use Rattle.workspace.specs.Inner.{Holds}

-- a, s1 and s2, as the definition draws them
pub record Drawn : Type 0 where
  pub a : List ℤ
  pub s1 : List ℤ
  pub s2 : List ℤ

unfoldable pub drawn_from : Set → List ℕ → List ℕ → Result Drawn
drawn_from p ζ seeds =
    do
      a ← expand_a p shake256 ζ
      s1 ← expand_s p shake256 (bytes_of p part.Xi1 seeds)
      s2 ← expand_s p shake256 (bytes_of p part.Xi2 seeds)
      done record { a = a; s1 = s1; s2 = s2 }

abbrev pub t_of : Set → Drawn → List ℤ
t_of p d = key_t p d.a d.s1 d.s2

-- they are in their places
pub record Held (p : Set) (d : Drawn) (work : List ℕ) : Type 0 where
  pub a : Holds p place.A d.a work
  pub s1 : Holds p place.S1 d.s1 work
  pub s2 : Holds p place.S2 d.s2 work

-- so are the two parts of t, and s1 and s2 still
pub record Rounded (p : Set) (d : Drawn) (work : List ℕ) : Type 0 where
  pub t1 : Holds p place.T1 (power_highs p (t_of p d)) work
  pub t0 : Holds p place.T0 (power_lows p (t_of p d)) work
  pub s1 : Holds p place.S1 d.s1 work
  pub s2 : Holds p place.S2 d.s2 work
