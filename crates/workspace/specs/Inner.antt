-- Inner: the memory that a call works in, and what its places hold. No definition, and no promise of a public entry, rests on this file.
use Rattle.std.specs.Prelude.{◌≡◌, true, List, map, ℕ, ◌+◌, ◌-◌, ◌*◌, ◌%◌, ◌^◌, ◌≤◌, ◌<◌, ℤ, pos, length, get_or, take, drop, Ok, Err}
use Rattle.sets.specs.Set.{Set}
use Rattle.answers.specs.declared.Refusal.{Refusal}
use Rattle.answers.specs.Refusals.{Answer}
use Rattle.answers.specs.Result.{Result}
use Rattle.answers.specs.Inner.{Gives}
use Rattle.residues.specs.Remainder.{residue, signed}
use Rattle.rounding.specs.Rounding.{high_bits, make_hint, use_hint, power2_round}
use Rattle.ring.specs.Inner.{Residues}
use Rattle.layouts.specs.declared.layout.Layout.{Layout}
use Rattle.layouts.specs.Layouts.{holds}
use Rattle.layouts.specs.Inner.{Unpacked, Readable}
use Rattle.scheme.specs.Elements.{each, plus, minus, negated, scaled, highs, power_highs, power_lows, make_hints}
use Rattle.ring.specs.Ring.{at as coefficient}
use Rattle.workspace.specs.declared.Place.{Place}
use Rattle.workspace.specs.declared.Place.TheVariants.{A, S1, S2, T0, Y, W, C, Z, Rest, Ct0, Hints, T, T1, Az, W1}
use Rattle.workspace.specs.declared.arithmetic.Op.{Op}
use Rattle.workspace.specs.declared.arithmetic.Op.TheVariants.{Sum, Difference, LessScaled, Hint, Used, High, PowerHigh, PowerLow}

-- ---- places
-- element j of the memory: the n numbers from j·n on
abbrev pub element : ℕ → ℕ → List ℕ → List ℕ
element n j work = take n (drop (j * n) work)

-- which element a place is
abbrev pub at : Place → ℕ
at A = 0
at S1 = 1
at S2 = 2
at T0 = 3
at Y = 4
at W = 5
at C = 6
at Z = 7
at Rest = 8
at Ct0 = 9
at Hints = 10
at T = 4
at T1 = 5
at Az = 8
at W1 = 9

abbrev pub slot : Set → Place → List ℕ → List ℕ
slot p k work = element p.n (at k) work

-- where it starts and ends
pub record Spans (p : Set) (k : Place) (start end : ℕ) : Type 0 where
  pub starts : start ≡ at k * p.n
  pub ends : end ≡ start + p.n
  pub most : end ≤ 11 * p.n

-- there is an element for each place
abbrev pub Room : Set → List ℕ → Type 0
Room p work = 11 * p.n ≤ length work

-- no element but that of place k has changed
pub record Touched (p : Set) (k : Place) (work more : List ℕ) : Type 0 where
  pub long : length more ≡ length work
  pub kept : (j : ℕ) → (j ≡ at k → ⊥) → element p.n j more ≡ element p.n j work

-- ---- what places hold
-- place k holds a, as remainders by q
pub record Holds (p : Set) (k : Place) (a : List ℤ) (work : List ℕ) : Type 0 where
  pub long : length a ≡ p.n
  pub here : slot p k work ≡ map (residue p.q) a

-- the places up to k hold remainders
pub record Ready (p : Set) (k : Place) (work : List ℕ) : Type 0 where
  pub room : Room p work
  pub each : (j : Place) → at j ≤ at k → Residues p (slot p j work)

-- place k as whole numbers
abbrev pub values : Set → Place → List ℕ → List ℤ
values p k work = map (signed p.q) (slot p k work)

-- the layout has a code for each of them
pub record Packable (p : Set) (L : Layout) (k : Place) (work : List ℕ) : Type 0 where
  pub residues : Residues p (slot p k work)
  pub allowed : (i : ℕ) → i < p.n → holds L (signed p.q (get_or (slot p k work) i 0)) ≡ true

-- remainders by q whose centred values the layout has codes for
pub record Codable (L : Layout) (q : ℕ) (xs : List ℕ) : Type 0 where
  pub readable : Readable L q
  pub below : (k : ℕ) → get_or xs k 0 < q
  pub allowed : (k : ℕ) → k < length xs → holds L (signed q (get_or xs k 0)) ≡ true

-- hints: each coefficient is 0 or 1
abbrev pub Bits : List ℤ → Type 0
Bits h = (t : ℕ) → (b : ℕ) × (coefficient h t ≡ pos b) × (b ≤ 1)

-- ---- what a step leaves
-- place k is filled with the definition's element, or the definition refuses; no other place has changed
pub record Fills (p : Set) (k : Place) (m : Result (List ℤ)) (work : List ℕ) (r : Answer) (more : List ℕ) : Type 0 where
  pub touched : Touched p k work more
  pub gives : Gives m (λ a. Holds p k a more) r

-- what unpacking answers where the refusal of a bad code is f of its index
abbrev pub answer_with : (ℕ → Refusal) → Unpacked → Answer
answer_with f (Ok all) = Ok all
answer_with f (Err bad) = Err (f bad.index)

-- place k is made of places i and j by f
pub record Made (p : Set) (i j k : Place) (f : List ℤ → List ℤ → List ℤ) (work more : List ℕ) : Type 0 where
  pub touched : Touched p k work more
  pub here : (a b : List ℤ) → Holds p i a work → Holds p j b work → Holds p k (f a b) more

-- ---- arithmetic
-- one number made of two remainders
abbrev pub combined : Set → Op → ℕ → ℕ → ℕ
combined p Sum x y = (x + y) % p.q
combined p Difference x y = (x + (p.q - y)) % p.q
combined p LessScaled x y = (x + (p.q - y * 2 ^ p.d % p.q)) % p.q
combined p Hint x y = make_hint p (pos ((p.q - y) % p.q)) (pos ((x + y) % p.q))
combined p Used x y = use_hint p x (pos y)
combined p High x y = high_bits p (pos x)
combined p PowerHigh x y = (power2_round p (pos x)).high
combined p PowerLow x y = residue p.q (power2_round p (pos x)).low

-- the element that it makes of two elements: UseHint takes its hints as remainders, which bits are of themselves
abbrev pub made : Set → Op → List ℤ → List ℤ → List ℤ
made p Sum a b = plus p a b
made p Difference a b = minus p a b
made p LessScaled a b = minus p a (scaled p (pos (2 ^ p.d)) b)
made p Hint a b = make_hints p (negated p b) (plus p a b)
made p Used a b = each p (λ k. pos (use_hint p (residue p.q (coefficient a k)) (coefficient b k)))
made p High a b = highs p a
made p PowerHigh a b = power_highs p a
made p PowerLow a b = power_lows p a
