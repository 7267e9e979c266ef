-- A pass added to the sums, from the front: k places are done.
use Rattle.std.proofs.Common.{◌≡◌, ℕ, ◌+◌, ◌-◌, ◌*◌, ◌^◌, ◌<◌, ◌≤◌, List, length, get_or, set, arith}
use Rattle.std.proofs.Math.Nat.{mul-le-mul}
use Rattle.std.proofs.lemmas.Bool.Decides.{nat_tests}
use Rattle.std.proofs.lemmas.Grind.{common_steps}
use Rattle.std.proofs.lemmas.List.Sums.{sum_by-le}
use Rattle.ring.specs.declared.Row.{Row}
use Rattle.ring.specs.Inner.{one, pass, brought, Summed}

-- a product of two numbers below 2^25
pub small : {x y : ℕ} → x < 2 ^ 25 → y < 2 ^ 25 → x * y < 2 ^ 50
small {x} {y} l m = let h = mul-le-mul {n₁ = x} {m₁ = y} {n₂ = 2 ^ 25 - 1} {m₂ = 2 ^ 25 - 1} (omega arith) (omega arith) in omega arith

pub record Adding (sums : List ℕ) (i : ℕ) (pass : ℕ → ℕ) (k : ℕ) (now : List ℕ) : Type 0 where
  pub long : length now ≡ length sums
  pub behind : (e : ℕ) → e < i + k → get_or now e 0 ≡ get_or sums e 0 + brought i pass e
  pub ahead : (e : ℕ) → i + k ≤ e → get_or now e 0 ≡ get_or sums e 0

module _ (sums : List ℕ) (i : ℕ) (pass : ℕ → ℕ) (k : ℕ) (now : List ℕ) (A : Adding sums i pass k now) where
  pub adding_more : (v : ℕ) → v ≡ get_or now (i + k) 0 + pass k → i + k < length now → Adding sums i pass (k + 1) (set now (i + k) v)
  adding_more v e l = record {
    long = grind (arith, common_steps, A.long);
    behind = λ x n. grind (arith, common_steps, nat_tests, A.behind x, A.ahead x);
    ahead = λ x n. grind (arith, common_steps, A.ahead x);
  }

  -- past its last place a pass brings nothing, so all is done
  pub adding_all : ((x : ℕ) → k ≤ x → pass x ≡ 0) → Summed sums i pass now
  adding_all z = record {
    long = A.long;
    each = λ x n. grind (arith, common_steps, nat_tests, A.behind x, A.ahead x, z (x - i));
  }

-- where the padded factor ends, a pass brings nothing
pub late : (c : List ℕ) (rows : List Row) (x : ℕ) → ((s : ℕ) → get_or c (x + s) 0 ≡ 0) → pass c rows x ≡ 0
late c rows x z =
    let none = sum_by-le (λ r. one c r x) 0 rows (λ k d l. let r = get_or rows k d in rw (z r.meets) (omega arith)) in
    omega (arith, none)
