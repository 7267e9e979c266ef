-- The shape of the state: five rows of five lanes. Assumes nothing.
use Prim.Native.Nat.{ℕ, zero, suc, ◌%◌, ◌^◌, ◌<◌}
use mathlib.Core.Path.{◌≡◌, refl, ◌∙◌, ap}
use mathlib.Core.List.{List, [], ◌∷◌}
use native.Mathlib.Omega.{arith}
use lib.ListN.{get_or, length, set}
use mir.Syntax.{w64}
use mir.Val.{Val}
use denote.Shadow.{shadow}
use denote.Laws.{Is}
use denote.Array.{Array, each}
use denote.Plain.{UInt}
use Rattle.keccak.specs.Keccak.{state, row, lane}

pub below_five : (P : ℕ → Type 0) → P 0 → P 1 → P 2 → P 3 → P 4 → (i : ℕ) → i < 5 → P i
below_five P p0 p1 p2 p3 p4 zero h = p0
below_five P p0 p1 p2 p3 p4 (suc zero) h = p1
below_five P p0 p1 p2 p3 p4 (suc (suc zero)) h = p2
below_five P p0 p1 p2 p3 p4 (suc (suc (suc zero))) h = p3
below_five P p0 p1 p2 p3 p4 (suc (suc (suc (suc zero)))) h = p4
below_five P p0 p1 p2 p3 p4 (suc (suc (suc (suc (suc i))))) h = absurd (omega arith)

-- five elements, stored one by one
pub stored : {A : Type 0} (l : List A) (r0 r1 r2 r3 r4 : A) → length l ≡ 5 → set (set (set (set (set l 0 r0) 1 r1) 2 r2) 3 r3) 4 r4 ≡ r0 ∷ r1 ∷ r2 ∷ r3 ∷ r4 ∷ []
stored [] r0 r1 r2 r3 r4 h = absurd (omega arith)
stored (a ∷ []) r0 r1 r2 r3 r4 h = absurd (omega arith)
stored (a ∷ b ∷ []) r0 r1 r2 r3 r4 h = absurd (omega arith)
stored (a ∷ b ∷ c ∷ []) r0 r1 r2 r3 r4 h = absurd (omega arith)
stored (a ∷ b ∷ c ∷ d ∷ []) r0 r1 r2 r3 r4 h = absurd (omega arith)
stored (a ∷ b ∷ c ∷ d ∷ e ∷ []) r0 r1 r2 r3 r4 h = refl
stored (a ∷ b ∷ c ∷ d ∷ e ∷ f ∷ l) r0 r1 r2 r3 r4 h = absurd (omega arith)

-- a lane of the state that f gives
pub lane_state : (f : ℕ → ℕ → ℕ) (x y : ℕ) → lane (state f) x y ≡ f (x % 5) (y % 5)
lane_state f x y =
    ap (λ (r : List ℕ). get_or r (x % 5) 0) (below_five (λ j. get_or (state f) j [] ≡ row f j) refl refl refl refl refl (y % 5) (omega arith)) ∙
    below_five (λ i. get_or (row f (y % 5)) i 0 ≡ f i (y % 5)) refl refl refl refl refl (x % 5) (omega arith)

-- what a function is told of a state that it is passed: every lane is below 2 ^ 64
row_below : (l : List ℕ) (us : List Val) → shadow (each ℕ (UInt w64).own_val l us) → (i : ℕ) → get_or l i 0 < 2 ^ 64
row_below [] us p i = omega arith
row_below (v ∷ l) [] p i = absurd p
row_below (v ∷ l) (u ∷ us) p zero = p.0.1
row_below (v ∷ l) (u ∷ us) p (suc i) = row_below l us p.1 i

rows_below : (s : List (List ℕ)) (us : List Val) → shadow (each (List ℕ) (Array (UInt w64) 5).own_val s us) → (j i : ℕ) → get_or (get_or s j []) i 0 < 2 ^ 64
rows_below [] us p j i = omega arith
rows_below (r ∷ s) [] p j i = absurd p
rows_below (r ∷ s) (u ∷ us) p zero i = row_below r p.0.0 p.0.1.1 i
rows_below (r ∷ s) (u ∷ us) p (suc j) i = rows_below s us p.1 j i

pub lanes_below : (s : List (List ℕ)) (vs : List Val) → Is (Array (Array (UInt w64) 5) 5) s vs → (x y : ℕ) → lane s x y < 2 ^ 64
lanes_below s vs p x y = rows_below s p.0 p.1.1 (y % 5) (x % 5)
