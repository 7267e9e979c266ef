-- What reading codes as remainders says of the definitions.
use mathlib.Core.Path.{◌≡◌, refl, sym, ap, ap₂, ◌∙◌}
use mathlib.Core.Bool.{Bool, true, false, cond}
use mathlib.Core.List.{List, [], ◌∷◌, map}
use Prim.Native.Nat.{ℕ, zero, suc, ◌+◌, ◌-◌, ◌*◌, ◌≤◌, ◌<◌}
use native.Mathlib.Nat.{mod-eq_of_lt}
use native.Mathlib.Omega.{arith}
use lib.ListN.{get_or}
use lib.IntN.{pos, nat_abs, ◌-ℤ◌}
use Rattle.answers.specs.declared.Refusal.{Refusal}
use Rattle.answers.specs.Result.{done, refused, pick}
use Rattle.residues.specs.Remainder.{residue, signed, centred}
use Rattle.residues.proofs.Differences.{pos_sub, sub_ge, sub_lt, abs_sub}
use Rattle.residues.proofs.Remainders.{residue_lt}
use Rattle.residues.proofs.Centres.{centred_small}
use Rattle.digits.specs.Digits.{codes}
use Rattle.layouts.specs.declared.layout.Layout.{Layout}
use Rattle.std.specs.Prelude.{Ok}
use Rattle.layouts.specs.Layouts.{means, allowed, unpack}
use Rattle.layouts.specs.Inner.{bad_at, Readable, scan, remainder, remainders}
use Rattle.answers.proofs.Results.{then-done, then-refused}
use Rattle.layouts.proofs.Kept.{allowed_ends}
use Rattle.layouts.proofs.Scans.{every_all, every_bad}

-- ---- base - v, by its sign
pub below_not : (q base v : ℕ) → base < q → v ≤ base → base - v ≡ residue q (pos base -ℤ pos v)
unfolding residue
below_not q base v h l =
    sym (ap (residue q) (pos_sub base v ∙ sub_ge l) ∙ mod-eq_of_lt {n = base - v} {m = q} (omega arith))

pub below_zero : (q base v : ℕ) → v < q → base < v → (q + base) - v ≡ residue q (pos base -ℤ pos v)
unfolding residue
below_zero q base v h l =
    sym (ap (residue q) (pos_sub base v ∙ sub_lt l) ∙ ap (λ (x : ℕ). (q - 1) - x) (mod-eq_of_lt {n = v - suc base} {m = q} (omega arith)) ∙ omega arith)

-- ---- allowed values are below q/2
module _ (L : Layout) (q : ℕ) (R : Readable L q) where
  pub some_q : 0 < q
  some_q = omega (arith, R.most)

  pub means_small : (v : ℕ) → allowed L v ≡ true → 2 * nat_abs (means L v) < q
  means_small v a = by L.down
    where
      e : (L.least ≤ v) × (v ≤ L.most)
      e = allowed_ends L v a

      by : (b : Bool) → 2 * nat_abs (cond b (pos L.base -ℤ pos v) (pos v)) < q
      by true = omega (arith, ap nat_abs (pos_sub L.base v) ∙ abs_sub L.base v, R.base, R.most, e)
      by false = omega (arith, R.most, e)

  pub signed_remainder : (v : ℕ) → allowed L v ≡ true → signed q (remainder L q v) ≡ means L v
  unfolding centred
  signed_remainder v a = centred_small q some_q (means L v) (means_small v a)

  -- the values, from the remainders
  pub signed_remainders : (i : ℕ) (vs : List ℕ) → scan (allowed L) i vs ≡ Ok tt → map (signed q) (remainders L q vs) ≡ map (means L) vs
  unfolding scan
  signed_remainders i [] e = refl
  signed_remainders i (v ∷ vs) e = by (allowed L v) refl e (signed_remainders (suc i) vs)
    where
      by : (b : Bool) → allowed L v ≡ b → pick b (scan (allowed L) (suc i) vs) (bad_at i) ≡ Ok tt
          → (scan (allowed L) (suc i) vs ≡ Ok tt → map (signed q) (remainders L q vs) ≡ map (means L) vs)
          → map (signed q) (remainders L q (v ∷ vs)) ≡ map (means L) (v ∷ vs)
      by true a e ih = ap₂ ◌∷◌ (signed_remainder v a) (ih e)
      by false a e ih = cc

  -- the remainders, from the values
  pub residues_means : (vs : List ℕ) → map (residue q) (map (means L) vs) ≡ remainders L q vs
  residues_means [] = refl
  residues_means (v ∷ vs) = ap (λ (xs : List ℕ). remainder L q v ∷ xs) (residues_means vs)

  pub remainders_below : (vs : List ℕ) (k : ℕ) → get_or (remainders L q vs) k 0 < q
  remainders_below [] k = some_q
  remainders_below (v ∷ vs) zero = residue_lt q some_q (means L v)
  remainders_below (v ∷ vs) (suc k) = remainders_below vs k

-- ---- the definition's unpacking, by the scan
module _ (L : Layout) (refusal : ℕ → Refusal) (n : ℕ) (bs : List ℕ) where
  pub unpack_all : scan (allowed L) 0 (codes L.bits n bs) ≡ Ok tt → unpack L refusal n bs ≡ done (map (means L) (codes L.bits n bs))
  unfolding unpack
  unpack_all e = then-done _ tt _ (every_all (allowed L) refusal 0 (codes L.bits n bs) e)

  pub unpack_bad : (i : ℕ) → scan (allowed L) 0 (codes L.bits n bs) ≡ bad_at i → unpack L refusal n bs ≡ refused (refusal i)
  unfolding unpack
  unpack_bad i e = then-refused _ (refusal i) _ (every_bad (allowed L) refusal 0 (codes L.bits n bs) i e)
