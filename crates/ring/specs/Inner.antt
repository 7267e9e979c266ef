-- Inner: the product over remainders, as the engine computes it. No definition, and no promise of a public entry, rests on this file.
use Rattle.std.specs.Prelude.{◌≡◌, cond, List, ℕ, zero, suc, ◌+◌, ◌-◌, ◌*◌, ◌^◌, ◌/◌, ◌≤◌, ◌<◌, ℤ, pos, ◌+ℤ◌, ◌*ℤ◌, leb, length, get_or, sum_by}
use Rattle.sets.specs.Set.{Set}
use Rattle.residues.specs.Remainder.{residue}
use Rattle.ring.specs.Ring.{sum, fold, prod, tab}
use Rattle.ring.specs.Profile.{profile}
use Rattle.ring.specs.declared.Row.{Row}

-- an element of remainders, read as one of whole numbers
abbrev pub whole : List ℕ → ℕ → ℤ
whole a k = pos (get_or a k 0)

-- the product of two elements of remainders
unfoldable pub multiplied : Set → List ℕ → List ℕ → List ℕ
multiplied p a b = tab p.n (λ k. residue p.q (prod p.n (profile p).wrap (whole a) (whole b) k))

-- n remainders
pub record Residues (p : Set) (a : List ℕ) : Type 0 where
  pub long : length a ≡ p.n
  pub each : (k : ℕ) → get_or a k 0 < p.q

-- f 0 + f 1 + .. + f (n - 1), of natural numbers
unfoldable pub total : ℕ → (ℕ → ℕ) → ℕ
total zero f = zero
total (suc n) f = total n f + f n

-- what a_i X^i brings to the coefficient of X^e before exponents are folded
abbrev pub meet : List ℕ → List ℕ → ℕ → ℕ → ℕ
meet a b e i = cond (leb i e) (get_or a i 0 * get_or b (e - i) 0) 0

-- b with fifteen zeros before it and fifteen behind
pub record Padded (b c : List ℕ) : Type 0 where
  pub long : length c ≡ length b + 30
  pub before : (k : ℕ) → k < 15 → get_or c k 0 ≡ 0
  pub inside : (k : ℕ) → get_or c (k + 15) 0 ≡ get_or b k 0

-- room for the rows of a pass from X^i on: each number is below 2^25, and i rows are in the sums
pub record Room (sums c : List ℕ) (i : ℕ) : Type 0 where
  pub some : 30 ≤ length c
  pub zeros : (k : ℕ) → length c ≤ k + 15 → get_or c k 0 ≡ 0
  pub wide : i + length c ≤ length sums + 15
  pub few : i ≤ 4096
  pub each : (k : ℕ) → get_or c k 0 < 2 ^ 25
  pub sofar : (e : ℕ) → get_or sums e 0 ≤ i * 2 ^ 50

-- the row of a's coefficient at a place, in a pass that begins fifteen places before `end`
abbrev pub row_of : List ℕ → ℕ → ℕ → Row
row_of a place end = record { factor = get_or a place 0; meets = end - place }

-- what a row, and what all rows of a pass, bring k places after the pass begins
abbrev pub one : List ℕ → Row → ℕ → ℕ
one c r k = r.factor * get_or c (k + r.meets) 0

abbrev pub pass : List ℕ → List Row → ℕ → ℕ
pass c rows k = sum_by (λ r. one c r k) rows

-- a row's number is below 2^25, and it begins within reach
pub record Near (r : Row) : Type 0 where
  pub small : r.factor < 2 ^ 25
  pub close : r.meets ≤ 15

-- what a pass from X^i on brings to the coefficient of X^e
abbrev pub brought : ℕ → (ℕ → ℕ) → ℕ → ℕ
brought i pass e = cond (leb i e) (pass (e - i)) 0

pub record Summed (sums : List ℕ) (i : ℕ) (pass : ℕ → ℕ) (more : List ℕ) : Type 0 where
  pub long : length more ≡ length sums
  pub each : (e : ℕ) → e < length sums → get_or more e 0 ≡ get_or sums e 0 + brought i pass e

-- zeros stand from a place up to another
pub record Passed (a : List ℕ) (from top at : ℕ) : Type 0 where
  pub start : from ≤ at
  pub most : at ≤ top
  pub zeros : (k : ℕ) → from ≤ k → k < at → get_or a k 0 ≡ 0

-- the same as `meet`, with the padded b in the place of b
abbrev pub meet_padded : List ℕ → List ℕ → ℕ → ℕ → ℕ
meet_padded a c e i = brought i (λ k. get_or a i 0 * get_or c (k + 15) 0) e

-- no row is in the sums yet, and there is room for all of them
pub record Unsummed (a c sums : List ℕ) : Type 0 where
  pub some : 0 < length a
  pub most : length a ≤ 4096
  pub wide : length sums ≡ 2 * length a + 14
  pub long : length c ≡ length a + 30
  pub before : (k : ℕ) → k < 15 → get_or c k 0 ≡ 0
  pub behind : (k : ℕ) → length c ≤ k + 15 → get_or c k 0 ≡ 0
  pub left : (k : ℕ) → get_or a k 0 < 2 ^ 25
  pub right : (k : ℕ) → get_or c k 0 < 2 ^ 25
  pub zeros : (e : ℕ) → get_or sums e 0 ≡ 0

-- all rows are
pub record Unfolded (a c sums : List ℕ) : Type 0 where
  pub wide : length sums ≡ 2 * length a + 14
  pub each : (e : ℕ) → e < length sums → get_or sums e 0 ≡ total (length a) (meet_padded a c e)

-- 2h remainders by q, to which c X^e can be added
pub record Foldable (h q : ℕ) (out : List ℕ) (e c : ℕ) : Type 0 where
  pub some : 0 < h
  pub most : h ≤ 2048
  pub room : q < 2 ^ 25
  pub long : length out ≡ 2 * h
  pub each : (k : ℕ) → get_or out k 0 < q
  pub reach : e < 4 * h
  pub small : c < q

-- it is added, with its exponent folded
pub record Folded (h q : ℕ) (out : List ℕ) (e c : ℕ) (more : List ℕ) : Type 0 where
  pub long : length more ≡ 2 * h
  pub each : (k : ℕ) → k < 2 * h → get_or more k 0 ≡ residue q (pos (get_or out k 0) +ℤ pos c *ℤ fold h e k)

-- every coefficient of the unfolded product is in, with its exponent folded
pub record FoldedAll (p : Set) (sums out : List ℕ) : Type 0 where
  pub long : length out ≡ p.n
  pub each : (k : ℕ) → k < p.n → get_or out k 0 ≡ residue p.q (sum (2 * p.n - 1) (λ e. pos (get_or sums e 0) *ℤ fold (p.n / 2) e k))
