-- The loop over the codes of one group of s.
use mathlib.Core.Path.{◌≡◌, sym, ap, ap₂, ◌∙◌}
use mathlib.Core.Bool.{Bool, true}
use mathlib.Core.List.{List, ◌∷◌}
use Prim.Native.Nat.{ℕ, suc, ◌+◌, ◌-◌, ◌/◌, ◌%◌, ◌^◌, ◌≤◌, ◌<◌}
use native.Mathlib.Omega.{arith}
use lib.IntN.{ℤ, pos}
use lib.ListN.{length}
use Rattle.digits.specs.Digits.{value, digits, codes}
use Rattle.outcome.specs.Outcome.{Is}
use Rattle.sets.specs.Set.{Set}
use Rattle.sampling.specs.Inner.{Free, kept, filled, is_s, means_s}
use Rattle.sampling.proofs.Filling.{kept_as, kept_free, filled_one, filled_full, filled_nil}

module _ (p : Set) (bs : List ℕ) (count : ℕ) (old : List ℤ) (first : ℕ) where
  abbrev Filled : List ℕ → ℕ → List ℤ → ℕ × List ℤ
  Filled xs found out = filled (is_s p) (means_s p) xs p.n found out

  abbrev all : ℕ × List ℤ
  all = Filled (codes p.sbits count bs) first old

  -- i codes are taken; those that are left are the digits of `left`, and decide the rest
  pub record Taking (out : List ℤ) (found i left : ℕ) : Type 0 where
    pub within : i ≤ count
    pub long : length out ≡ p.n
    pub free : Free (pos 0) found out
    pub same : Filled (digits (2 ^ p.sbits) (count - i) left) found out ≡ all

  pub taking_none : length old ≡ p.n → Free (pos 0) first old → (left : ℕ) → left ≡ value 256 bs → Taking old first 0 left
  unfolding codes
  taking_none e f left h = record {
    within = omega arith;
    long = e;
    free = f;
    same = ap (λ (xs : List ℕ). Filled xs first old) (ap₂ (digits (2 ^ p.sbits)) {x = count - 0} {y = count} (omega arith) h);
  }

  module _ (out : List ℤ) (found i left : ℕ) (T : Taking out found i left) where
    ends : {r : ℕ × List ℤ} → (found, out) ≡ r → Is r found out
    ends e = record { answers = ap (λ (x : ℕ × List ℤ). x.0) e; leaves = ap (λ (x : ℕ × List ℤ). x.1) e }

    -- n were found, or no code is left
    pub taking_full : p.n ≤ found → Is all found out
    taking_full l = ends (sym (filled_full (is_s p) (means_s p) (digits (2 ^ p.sbits) (count - i) left) p.n found out l) ∙ T.same)

    pub taking_all : count ≤ i → Is all found out
    unfolding digits
    taking_all l =
        let z : count - i ≡ 0 = omega arith in
        ends (sym (filled_nil (is_s p) (means_s p) p.n found out) ∙ (rw z at T.same))

    -- one code more
    pub taking_more : i < count → found < p.n → (v : ℕ) → v ≡ left % 2 ^ p.sbits
        → (passes : Bool) (x : ℤ) (out' : List ℤ) (found' : ℕ) → length out' ≡ length out → Is (kept passes x found out) found' out'
        → passes ≡ is_s p v → (passes ≡ true → x ≡ means_s p v) → Taking out' found' (i + 1) (left / 2 ^ p.sbits)
    unfolding digits
    taking_more h l v e passes x out' found' s K flag meant =
        let I : Is (kept (is_s p v) (means_s p v) found out) found' out' = rw flag at (kept_as passes x (means_s p v) found out found' out' meant K) in
        let n : count - i ≡ suc (count - (i + 1)) = omega arith in
        let next : Filled (left % 2 ^ p.sbits ∷ digits (2 ^ p.sbits) (count - (i + 1)) (left / 2 ^ p.sbits)) found out ≡ all = rw n at T.same in
        record {
          within = omega arith;
          long = s ∙ T.long;
          free = kept_free (pos 0) (is_s p v) (means_s p v) found out found' out' T.free I;
          same =
              sym (filled_one (is_s p) (means_s p) v (digits (2 ^ p.sbits) (count - (i + 1)) (left / 2 ^ p.sbits)) p.n found out found' out' l I) ∙
              (rw (← e) at next);
        }
