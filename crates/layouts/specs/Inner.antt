-- Inner: what functions inside ask and answer; they read packed elements as remainders by q. No definition, and no promise of a public entry, rests on this file.
use Rattle.std.specs.Prelude.{Bool, List, [], ◌∷◌, ◌++◌, map, ℕ, suc, ◌*◌, ◌^◌, ◌≤◌, ◌<◌, length, take, drop, Option, None, Some, Result, Ok, Err}
use Rattle.answers.specs.Result.{pick}
use Rattle.residues.specs.Remainder.{residue}
use Rattle.digits.specs.Digits.{codes}
use Rattle.layouts.specs.declared.layout.Layout.{Layout}
use Rattle.layouts.specs.declared.unpack.BadCode.{BadCode}
use Rattle.layouts.specs.Layouts.{means, allowed}

-- a code fits its bits and a machine word, and no allowed value reaches q/2
pub record Readable (L : Layout) (q : ℕ) : Type 0 where
  pub some : 1 ≤ L.bits
  pub width : L.bits ≤ 20
  pub fits : L.most < 2 ^ L.bits
  pub base : 2 * L.base < q
  pub most : 2 * L.most < q
  pub room : q < 2 ^ 25

-- an element that passes the test is taken by f
abbrev pub taken : {A : Type 0} → (A → Bool) → (A → ℕ) → A → Option ℕ
taken ok f x = pick (ok x) (Some (f x)) None

-- every element was taken, or the lowest index of one that fails the test
abbrev pub Unpacked : Type 0
Unpacked = Result (Unit {0}) BadCode

abbrev pub bad_at : ℕ → Unpacked
bad_at i = Err record { index = i }

-- the lowest index, counted from i, of an element that fails the test
unfoldable pub scan : {A : Type 0} → (A → Bool) → ℕ → List A → Unpacked
scan ok i [] = Ok tt
scan ok i (x ∷ xs) = pick (ok x) (scan ok (suc i) xs) (bad_at i)

-- what a buffer holds at the end: all that is new, or what came before the bad place
abbrev pub written_to : Unpacked → List ℕ → List ℕ → List ℕ
written_to (Ok all) new old = new
written_to (Err bad) new old = take bad.index new ++ drop bad.index old

-- elements taken into a buffer that came with `old`: the answer, and what the buffer holds at the end
abbrev pub taken_to : {A : Type 0} → (A → Bool) → (A → ℕ) → List A → List ℕ → Unpacked × List ℕ
taken_to ok f xs old = (scan ok 0 xs, written_to (scan ok 0 xs) (map f xs) old)

-- what a code means, as a remainder
abbrev pub remainder : Layout → ℕ → ℕ → ℕ
remainder L q v = residue q (means L v)

abbrev pub remainders : Layout → ℕ → List ℕ → List ℕ
remainders L q vs = map (remainder L q) vs

-- what unpacking into `old` answers and leaves
abbrev pub unpacked_to : Layout → ℕ → List ℕ → List ℕ → Unpacked × List ℕ
unpacked_to L q bs old = taken_to (allowed L) (remainder L q) (codes L.bits (length old) bs) old
