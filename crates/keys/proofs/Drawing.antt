-- a, s1 and s2, drawn one after the other.
use mathlib.Core.Path.{◌≡◌}
use mathlib.Core.List.{List}
use Prim.Native.Nat.{ℕ}
use native.Mathlib.Omega.{arith}
use Rattle.sets.specs.Set.{Set}
use Rattle.answers.specs.declared.Refusal.{Refusal}
use Rattle.answers.specs.Refusals.{Answer}
use Rattle.std.specs.Prelude.{Ok, Err}
use Rattle.answers.specs.Inner.{Gives}
use Rattle.answers.proofs.Giving.{bind_ill, bind_well, gives_then}
use Rattle.shake.specs.Shake.{shake256}
use Rattle.packing.specs.declared.parts.Part.TheVariants as part
use Rattle.packing.specs.Parts.{bytes_of}
use Rattle.streams.specs.Streams.{expand_a, expand_s}
use Rattle.workspace.specs.declared.Place.TheVariants as place
use Rattle.workspace.specs.Inner.{Fills}
use Rattle.workspace.proofs.Holding.{holds_kept}
use Rattle.keys.specs.Inner.{drawn_from, Held}

module _ (p : Set) (ζ seeds w0 w1 : List ℕ) (r1 : Answer) (f1 : Fills p place.A (expand_a p shake256 ζ) w0 r1 w1) where
  pub no_a : (why : Refusal) → r1 ≡ Err why → Gives (drawn_from p ζ seeds) (λ d. Held p d w1) (Err why)
  unfolding drawn_from
  no_a why e = bind_ill _ why (f1.gives.ill why e)

  module _ (d1 : r1 ≡ Ok tt) (w2 : List ℕ) (r2 : Answer) (f2 : Fills p place.S1 (expand_s p shake256 (bytes_of p part.Xi1 seeds)) w1 r2 w2) where
    pub no_s1 : (why : Refusal) → r2 ≡ Err why → Gives (drawn_from p ζ seeds) (λ d. Held p d w2) (Err why)
    unfolding drawn_from
    no_s1 why e =
        let A = f1.gives.well d1 in
        bind_well _ A.0 A.1 (bind_ill _ why (f2.gives.ill why e))

    pub drew_all : r2 ≡ Ok tt → (w3 : List ℕ) (r3 : Answer) → Fills p place.S2 (expand_s p shake256 (bytes_of p part.Xi2 seeds)) w2 r3 w3
        → Gives (drawn_from p ζ seeds) (λ d. Held p d w3) r3
    unfolding drawn_from
    drew_all d2 w3 r3 f3 =
        let A = f1.gives.well d1 in
        let B = f2.gives.well d2 in
        bind_well _ A.0 A.1
        (bind_well _ B.0 B.1
        (gives_then _
        (λ s2 e h. record {
          a = holds_kept f3.touched (λ x. omega arith) (holds_kept f2.touched (λ x. omega arith) A.2);
          s1 = holds_kept f3.touched (λ x. omega arith) B.2;
          s2 = h;
        })
        f3.gives))
