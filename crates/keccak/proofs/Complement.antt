-- Rounds of a held state are rounds of the state: lane by lane, each step takes a held lane to a held lane. Assumes nothing.
use Prim.Native.Nat.{ℕ, zero, suc, ◌+◌, ◌*◌, ◌%◌, ◌-◌, ◌^◌, ◌≤◌, ◌<◌}
use mathlib.Core.Path.{◌≡◌, refl, ◌∙◌, sym, ap, ap₂, subst, fun_ext}
use mathlib.Core.Bool.{Bool, true, false, not}
use mathlib.Core.List.{List, [], ◌∷◌}
use native.Mathlib.Omega.{arith}
use native.Mathlib.Nat.{mod-mod}
use native.Mathlib.Numerals.{add-one}
use lib.ListN.{get_or, length, drop}
use lib.Seq.{drop-cons}
use lib.Bits.{bit_xor, bit_and, bit_or, xor_lt, and_le_r}
use Rattle.keccak.specs.Keccak.{state, lane, rot, parity, effect, offsets, theta, rho, pi, chi, iota, at_origin, round, rounds, constants, keccak}
use Rattle.keccak.specs.Inner.{signed, differs, sign, flipped, effects, parity_sign, effect_sign, moved_sign, moved, gate, held_lane, held_round}
use Rattle.keccak.proofs.Shape.{below_five, lane_state}
use Rattle.keccak.proofs.Bits.{xor_not_l, xor_not_r, or_not, rot_not, rot_lt}

-- w is the lane v as it is held
pub record Held (s : Bool) (v w : ℕ) : Type 0 where
  pub below : v < 2 ^ 64
  pub is : w ≡ signed s v

-- ---- each operation

signed_xor : (s t : Bool) (v w : ℕ) → v < 2 ^ 64 → w < 2 ^ 64 → bit_xor (signed s v) (signed t w) ≡ signed (differs s t) (bit_xor v w)
signed_xor false false v w hv hw = refl
signed_xor false true v w hv hw = xor_not_r v w hv hw
signed_xor true false v w hv hw = xor_not_l v w hv hw
signed_xor true true v w hv hw =
    xor_not_l v ((2 ^ 64 - 1) - w) hv (omega arith) ∙ ap (λ (n : ℕ). (2 ^ 64 - 1) - n) (xor_not_r v w hv hw) ∙
    omega (arith, xor_lt 64 v w hv hw)

held_xor : {s t : Bool} {v v' w w' : ℕ} → Held s v w → Held t v' w' → Held (differs s t) (bit_xor v v') (bit_xor w w')
held_xor {s} {t} {v} {v'} p q = record {
  below = xor_lt 64 v v' p.below q.below;
  is = ap₂ bit_xor p.is q.is ∙ signed_xor s t v v' p.below q.below;
}

signed_rot : (s : Bool) (n v : ℕ) → n ≤ 64 → v < 2 ^ 64 → rot n (signed s v) ≡ signed s (rot n v)
signed_rot false n v h hv = refl
signed_rot true n v h hv = rot_not n v h hv

held_rot : {s : Bool} {v w : ℕ} (n : ℕ) → n ≤ 64 → Held s v w → Held s (rot n v) (rot n w)
held_rot {s} {v} n h p = record {
  below = rot_lt n v p.below;
  is = ap (rot n) p.is ∙ signed_rot s n v h p.below;
}

twice : (s : Bool) (v : ℕ) → v < 2 ^ 64 → signed s (signed s v) ≡ v
twice false v h = refl
twice true v h = omega arith

other : (s : Bool) (v : ℕ) → v < 2 ^ 64 → signed (not s) (signed s v) ≡ (2 ^ 64 - 1) - v
other false v h = refl
other true v h = refl

gate_is : (g s t : Bool) (v w : ℕ) → v < 2 ^ 64 → w < 2 ^ 64 → gate g s t (signed s v) (signed t w) ≡ signed g (bit_and ((2 ^ 64 - 1) - v) w)
gate_is false s t v w hv hw = ap₂ bit_and (other s v hv) (twice t w hw)
gate_is true s t v w hv hw = ap₂ bit_or (twice s v hv) (other t w hw) ∙ or_not v w hv hw

differs_twice : (s t : Bool) → differs s (differs s t) ≡ t
differs_twice true true = refl
differs_twice true false = refl
differs_twice false t = refl

held_chi : {s t u : Bool} {v v' v'' w w' w'' : ℕ} (r : Bool) → Held s v w → Held t v' w' → Held u v'' w''
    → Held r (bit_xor v (bit_and ((2 ^ 64 - 1) - v') v'')) (bit_xor w (gate (differs s r) t u w' w''))
held_chi {s} {t} {u} {v} {v'} {v''} {w} {w'} {w''} r p q o =
    let g : Held (differs s r) (bit_and ((2 ^ 64 - 1) - v') v'') (gate (differs s r) t u w' w'') =
    record {
      below = omega (arith, and_le_r ((2 ^ 64 - 1) - v') v'', o.below);
      is = ap₂ (gate (differs s r) t u) q.is o.is ∙ gate_is (differs s r) t u v' v'' q.below o.below;
    } in
    subst (λ (b : Bool). Held b (bit_xor v (bit_and ((2 ^ 64 - 1) - v') v'')) (bit_xor w (gate (differs s r) t u w' w''))) (differs_twice s r) (held_xor p g)

differs_not : (s : Bool) → differs s false ≡ s
differs_not true = refl
differs_not false = refl

held_iota : {s : Bool} {v w : ℕ} (rc x y : ℕ) → rc < 2 ^ 64 → Held s v w → Held s (at_origin rc v x y) (at_origin rc w x y)
held_iota {s} {v} {w} rc zero zero h p = subst (λ (b : Bool). Held b (bit_xor v rc) (bit_xor w rc)) (differs_not s) (held_xor p (record { below = h; is = refl }))
held_iota rc zero (suc y) h p = p
held_iota rc (suc x) y h p = p

-- ---- the round

-- every lane of b is that of a, as it is held
abbrev pub Holds : List (List ℕ) → List (List ℕ) → Type 0
Holds a b = (x y : ℕ) → Held (sign x y) (lane a x y) (lane b x y)

state_held : (f g : ℕ → ℕ → ℕ) → ((x y : ℕ) → Held (sign x y) (f x y) (g x y)) → Holds (state f) (state g)
state_held f g h x y = rw (lane_state f x y, lane_state g x y) (rw (mod-mod x 5, mod-mod y 5) at (h (x % 5) (y % 5)))

offset_le : (x y : ℕ) → lane offsets x y ≤ 64
offset_le x y =
    below_five (λ j. get_or (get_or offsets j []) (x % 5) 0 ≤ 64)
    (row_le (get_or offsets 0 []) (omega arith))
    (row_le (get_or offsets 1 []) (omega arith))
    (row_le (get_or offsets 2 []) (omega arith))
    (row_le (get_or offsets 3 []) (omega arith))
    (row_le (get_or offsets 4 []) (omega arith))
    (y % 5)
    (omega arith)
  where
    row_le : (l : List ℕ) → (get_or l 0 0 ≤ 64) × (get_or l 1 0 ≤ 64) × (get_or l 2 0 ≤ 64) × (get_or l 3 0 ≤ 64) × (get_or l 4 0 ≤ 64) → get_or l (x % 5) 0 ≤ 64
    row_le l h = below_five (λ i. get_or l i 0 ≤ 64) h.0 h.1 h.2 h.3 h.4 (x % 5) (omega arith)

-- a lane after a round, all its steps at once
abbrev round_lane : ℕ → List (List ℕ) → ℕ → ℕ → ℕ
round_lane rc a x y =
    at_origin rc (bit_xor (moved (effects a) a x y) (bit_and ((2 ^ 64 - 1) - moved (effects a) a (x + 1) y) (moved (effects a) a (x + 2) y))) x y

round_lanes : (rc : ℕ) (a : List (List ℕ)) → round rc a ≡ state (round_lane rc a)
unfolding round theta rho pi chi iota
round_lanes rc a = refl

module _ (a b : List (List ℕ)) (h : Holds a b) where
  parity_held : (x : ℕ) → Held (parity_sign x) (parity a x) (parity b x)
  parity_held x = held_xor (held_xor (held_xor (held_xor (h x 0) (h x 1)) (h x 2)) (h x 3)) (h x 4)

  effect_held : (x : ℕ) → Held (effect_sign x) (effect a x) (effect b x)
  effect_held x = held_xor (parity_held (x + 4)) (held_rot 1 (omega arith) (parity_held (x + 1)))

  effects_held : (x : ℕ) → x < 5 → Held (effect_sign x) (get_or (effects a) x 0) (get_or (effects b) x 0)
  effects_held x hx =
      below_five (λ i. Held (effect_sign i) (get_or (effects a) i 0) (get_or (effects b) i 0))
      (effect_held 0) (effect_held 1) (effect_held 2) (effect_held 3) (effect_held 4) x hx

  moved_held : (x y : ℕ) → Held (moved_sign x y) (moved (effects a) a x y) (moved (effects b) b x y)
  moved_held x y =
      held_rot (lane offsets (x + 3 * y) x) (offset_le (x + 3 * y) x)
      (held_xor (h (x + 3 * y) x) (effects_held ((x + 3 * y) % 5) (omega arith)))

  round_held : (rc : ℕ) → rc < 2 ^ 64 → Holds (round rc a) (held_round rc b)
  unfolding held_round
  round_held rc hrc =
      subst (λ (s : List (List ℕ)). Holds s (held_round rc b)) (sym (round_lanes rc a))
      (state_held (round_lane rc a) (held_lane rc (effects b) b) (λ x y. held_iota rc x y hrc (held_chi (sign x y) (moved_held x y) (moved_held (x + 1) y) (moved_held (x + 2) y))))

-- ---- all rounds, and the two flips around them

unfoldable pub held_rounds : List ℕ → List (List ℕ) → List (List ℕ)
held_rounds [] b = b
held_rounds (rc ∷ rcs) b = held_rounds rcs (held_round rc b)

-- the constants of two rounds at a time, one after the other
abbrev pub in_turn : List (List ℕ) → List ℕ
in_turn [] = []
in_turn (pair ∷ pairs) = get_or pair 0 0 ∷ get_or pair 1 0 ∷ in_turn pairs

-- two rounds more
pub held_rounds-drop : (pairs : List (List ℕ)) (i : ℕ) (b : List (List ℕ)) → i < length pairs
    → held_rounds (in_turn (drop (i + 1) pairs)) (held_round (get_or (get_or pairs i []) 1 0) (held_round (get_or (get_or pairs i []) 0 0) b))
    ≡ held_rounds (in_turn (drop i pairs)) b
unfolding held_rounds
held_rounds-drop pairs i b h = rw (add-one, drop-cons pairs i [] h)

abbrev pub Lanes : List ℕ → Type 0
Lanes [] = Unit {0}
Lanes (rc ∷ rcs) = (rc < 2 ^ 64) × Lanes rcs

rounds_held : (rcs : List ℕ) (a b : List (List ℕ)) → Lanes rcs → Holds a b → Holds (rounds rcs a) (held_rounds rcs b)
unfolding rounds held_rounds
rounds_held [] a b l h = h
rounds_held (rc ∷ rcs) a b l h = rounds_held rcs (round rc a) (held_round rc b) l.1 (round_held a b h rc l.0)

flipped_held : (a : List (List ℕ)) → ((x y : ℕ) → lane a x y < 2 ^ 64) → Holds a (flipped a)
flipped_held a h x y = record {
  below = h x y;
  is = lane_state (λ x y. signed (sign x y) (lane a x y)) x y ∙ (rw (mod-mod x 5, mod-mod y 5));
}

back : (a b : List (List ℕ)) → Holds a b → flipped b ≡ state (lane a)
back a b h = ap state (fun_ext (λ x. fun_ext (λ y. ap (signed (sign x y)) (h x y).is ∙ twice (sign x y) (lane a x y) (h x y).below)))

round_state : (rc : ℕ) (a : List (List ℕ)) → round rc a ≡ state (lane (round rc a))
unfolding round iota
round_state rc a = refl

rounds_state : (rcs : List ℕ) (a : List (List ℕ)) → 0 < length rcs → rounds rcs a ≡ state (lane (rounds rcs a))
unfolding rounds
rounds_state [] a h = absurd (omega arith)
rounds_state (rc ∷ []) a h = round_state rc a
rounds_state (rc ∷ rc' ∷ rcs) a h = rounds_state (rc' ∷ rcs) (round rc a) (omega arith)

constants_lanes : Lanes constants
unfolding constants
constants_lanes = omega arith

constants_some : 0 < length constants
unfolding constants
constants_some = omega arith

pub keccak_held : (a : List (List ℕ)) → ((x y : ℕ) → lane a x y < 2 ^ 64) → flipped (held_rounds constants (flipped a)) ≡ keccak a
unfolding keccak
keccak_held a h =
    back (keccak a) (held_rounds constants (flipped a)) (rounds_held constants a (flipped a) constants_lanes (flipped_held a h)) ∙
    sym (rounds_state constants a constants_some)
