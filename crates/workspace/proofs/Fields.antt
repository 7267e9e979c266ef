-- Hints that were read into their place: bits, of which at most ω are ones.
use mathlib.Core.Path.{◌≡◌, refl, sym, subst, ◌∙◌}
use mathlib.Core.List.{List, map}
use Prim.Native.Nat.{ℕ, ◌≤◌, ◌<◌}
use native.Mathlib.Omega.{arith}
use lib.IntN.{ℤ, pos}
use lib.ListN.{get_or}
use Rattle.std.specs.Prelude.{Ok, Err}
use Rattle.sets.specs.Set.{Set}
use Rattle.sets.specs.Good.{Good}
use Rattle.answers.specs.declared.Refusal.TheVariants.{Hint}
use Rattle.answers.specs.Result.{done}
use Rattle.answers.proofs.Giving.{gives_well, gives_ill}
use Rattle.layouts.specs.Layouts.{hint_layout, unpack}
use Rattle.layouts.specs.Hints.{ones, any_hint, read_hints}
use Rattle.layouts.proofs.Hints.{read_hints_bad, read_hints_many, read_hints_few}
use Rattle.workspace.specs.declared.Place.TheVariants as place
use Rattle.workspace.specs.Inner.{slot, Holds, Bits, Fills}
use Rattle.workspace.proofs.HintBits.{bits_below, bits_unpacked, ones_again}

module _ {p : Set} (packed : List ℕ) {work more : List ℕ} where
  pub hints_bad : Fills p place.Hints (unpack hint_layout any_hint p.n packed) work (Err Hint) more → Fills p place.Hints (read_hints p packed) work (Err Hint) more
  hints_bad F = record { touched = F.touched; gives = gives_ill Hint (read_hints_bad p packed Hint (F.gives.ill Hint refl)) }

  module _ (G : Good p) (F : Fills p place.Hints (unpack hint_layout any_hint p.n packed) work (Ok tt) more) where
    found : (h : List ℤ) × (unpack hint_layout any_hint p.n packed ≡ done h) × Holds p place.Hints h more
    found = F.gives.well refl

    bits : Bits found.0
    bits = bits_unpacked p packed found.0 any_hint found.1

    pub hints_below : (t : ℕ) → get_or (slot p place.Hints more) t 0 ≤ 1
    hints_below t = subst (λ (xs : List ℕ). get_or xs t 0 ≤ 1) (sym found.2.here) (bits_below p G found.0 bits t)

    module _ {count : ℕ} (c : count ≡ ones (map pos (slot p place.Hints more))) where
      counted : count ≡ ones found.0
      counted = c ∙ ones_again p G found.0 (slot p place.Hints more) bits found.2.here

      pub hints_many : p.omega < count → Fills p place.Hints (read_hints p packed) work (Err Hint) more
      hints_many l = record {
        touched = F.touched;
        gives = gives_ill Hint (read_hints_many p packed found.0 found.1 (omega (arith, counted)));
      }

      pub hints_few : count ≤ p.omega → Fills p place.Hints (read_hints p packed) work (Ok tt) more
      hints_few l = record {
        touched = F.touched;
        gives = gives_well found.0 (read_hints_few p packed found.0 found.1 (omega (arith, counted))) found.2;
      }
