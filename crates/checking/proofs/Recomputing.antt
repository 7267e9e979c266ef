-- The high bits that the hints give, in the memory: w0 to w4 are the memories of the four steps.
use mathlib.Core.List.{List}
use Prim.Native.Nat.{ℕ}
use native.Mathlib.Omega.{arith}
use Rattle.sets.specs.Set.{Set}
use Rattle.sets.specs.Good.{Trinomial}
use Rattle.ring.specs.Profile.{mul}
use Rattle.ring.specs.Inner.{Residues}
use Rattle.layouts.specs.Layouts.{w1_layout}
use Rattle.scheme.specs.Check.{recomputed}
use Rattle.workspace.specs.declared.Place.{Place}
use Rattle.workspace.specs.declared.Place.TheVariants as place
use Rattle.workspace.specs.declared.arithmetic.Op.TheVariants.{LessScaled, Used}
use Rattle.workspace.specs.Inner.{slot, Holds, Made, made}
use Rattle.workspace.proofs.Holding.{holds_kept, residues_of}
use Rattle.workspace.proofs.HintBits.{bits_plain}
use Rattle.workspace.proofs.Making.{used_bits}
use Rattle.workspace.proofs.Packing.{Back, back_used}
use Rattle.checking.specs.Inner.{Inputs, highs_for, Loaded}

-- what a step of two places asks of them
abbrev Asks : Set → Place → Place → List ℕ → Type 0
Asks p i j work = Residues p (slot p i work) × Residues p (slot p j work)

module _ (p : Set) (T : Trinomial p) (i : Inputs) {w0 : List ℕ} (L : Loaded p i w0) where
  pub asks_az : Asks p place.A place.Z w0
  asks_az = (residues_of p T.good L.a, residues_of p T.good L.z)

  module _ {w1 : List ℕ} (az : Made p place.A place.Z place.Az (mul p) w0 w1) where
    held_c : Holds p place.C i.c w1
    held_c = holds_kept az.touched (λ e. omega arith) L.c

    held_t1 : Holds p place.T1 i.key.t1 w1
    held_t1 = holds_kept az.touched (λ e. omega arith) L.t1

    pub asks_ct : Asks p place.C place.T1 w1
    asks_ct = (residues_of p T.good held_c, residues_of p T.good held_t1)

    module _ {w2 : List ℕ} (ct : Made p place.C place.T1 place.W1 (mul p) w1 w2) where
      held_az : Holds p place.Az (mul p i.a i.signature.z) w2
      held_az = holds_kept ct.touched (λ e. omega arith) (az.here _ _ L.a L.z)

      held_ct : Holds p place.W1 (mul p i.c i.key.t1) w2
      held_ct = ct.here _ _ held_c held_t1

      pub asks_less : Asks p place.Az place.W1 w2
      asks_less = (residues_of p T.good held_az, residues_of p T.good held_ct)

      module _ {w3 : List ℕ} (less : Made p place.Az place.W1 place.W1 (made p LessScaled) w2 w3) where
        held_less : Holds p place.W1 (recomputed p i.a i.signature.z i.c i.key.t1) w3
        held_less = less.here _ _ held_az held_ct

        held_hints : Holds p place.Hints i.signature.h w3
        held_hints =
            holds_kept less.touched (λ e. omega arith)
            (holds_kept ct.touched (λ e. omega arith) (holds_kept az.touched (λ e. omega arith) L.hints))

        pub asks_used : Asks p place.Hints place.W1 w3
        asks_used = (residues_of p T.good held_hints, residues_of p T.good held_less)

        pub held_highs : {w4 : List ℕ} → Made p place.Hints place.W1 place.W1 (made p Used) w3 w4 → Holds p place.W1 (highs_for p i) w4
        held_highs used =
            rw (used_bits p T i.signature.h (recomputed p i.a i.signature.z i.c i.key.t1) (λ k l. bits_plain p T.good i.signature.h L.bits k)) at
            (used.here _ _ held_hints held_less)

-- they are packed as they are
pub highs_back : (p : Set) → Trinomial p → (i : Inputs) {work : List ℕ} → Holds p place.W1 (highs_for p i) work
    → Back p (w1_layout p) place.W1 (highs_for p i) work
highs_back p T i H = back_used p T i.signature.h (recomputed p i.a i.signature.z i.c i.key.t1) H
