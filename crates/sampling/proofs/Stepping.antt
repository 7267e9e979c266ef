-- The loop over the places of the challenge.
use mathlib.Core.Path.{◌≡◌, sym, ap, ◌∙◌}
use mathlib.Core.List.{List, [], ◌∷◌, ◌++◌, append-nil, map}
use mathlib.Core.Logic.{⊎_elim}
use Prim.Native.Nat.{ℕ, ◌+◌, ◌-◌, ◌/◌, ◌%◌, ◌^◌, ◌≤◌, ◌<◌}
use native.Mathlib.Omega.{arith}
use lib.IntN.{ℤ, pos}
use lib.ListN.{length, get_or, take, drop, set, replicate, length-set, length-drop, length-replicate}
use Rattle.std.specs.Prelude.{Ok}
use Rattle.digits.specs.Digits.{value}
use Rattle.outcome.specs.Outcome.{Is}
use Rattle.sets.specs.Set.{Set}
use Rattle.sets.specs.Good.{Good}
use Rattle.sampling.specs.Samplers.{sign}
use Rattle.sampling.specs.Inner.{dry_stream, c_draws, placing, drawn_c}
use Rattle.residues.proofs.Order.{below_or}
use Rattle.sampling.proofs.Groups.{groups_none}
use Rattle.sampling.proofs.Placing.{Past, placing_signs, placing_used, placing_past, placed_all_lem, placed_some}

module _ (p : Set) (bs : List ℕ) where
  abbrev whole : ℕ × List ℤ
  whole = placing (c_draws p (drop 8 bs)) p.tau (p.n - p.tau) (value 256 (take 8 bs)) (replicate p.n (pos 0))

  -- the draws that are left decide the steps that are left
  pub record Stepping (out : List ℤ) (place signs : ℕ) (js : List ℕ) : Type 0 where
    pub long : length out ≡ p.n
    pub same : placing js (p.n - place) place signs out ≡ whole

  -- the signs do not matter where there is no draw
  pub stepping_none : Good p → (out : List ℤ) → out ≡ replicate p.n (pos 0) → (signs : ℕ) → (8 ≤ length bs → signs ≡ value 256 (take 8 bs))
      → (js : List ℕ) → js ≡ c_draws p (drop 8 bs) → Stepping out (p.n - p.tau) signs js
  stepping_none good out e signs f js d = record {
    long = ap length e ∙ length-replicate p.n (pos 0);
    same = rw (d, e) (steps ∙ ⊎_elim short (λ h. ap (λ (x : ℕ). placing (c_draws p (drop 8 bs)) p.tau (p.n - p.tau) x (replicate p.n (pos 0))) (f h)) (below_or (length bs) 8));
  }
    where
      steps : placing (c_draws p (drop 8 bs)) (p.n - (p.n - p.tau)) (p.n - p.tau) signs (replicate p.n (pos 0)) ≡ placing (c_draws p (drop 8 bs)) p.tau (p.n - p.tau) signs (replicate p.n (pos 0))
      steps = ap (λ (m : ℕ). placing (c_draws p (drop 8 bs)) m (p.n - p.tau) signs (replicate p.n (pos 0))) {x = p.n - (p.n - p.tau)} {y = p.tau} (omega (arith, good.few))

      short : length bs < 8 → placing (c_draws p (drop 8 bs)) p.tau (p.n - p.tau) signs (replicate p.n (pos 0)) ≡ whole
      short l =
          let none : c_draws p (drop 8 bs) ≡ [] = ap (map (λ v. v % 2 ^ p.jbits)) (groups_none 2 (drop 8 bs) (omega (arith, length-drop 8 bs))) in
          rw none (placing_signs p.n p.tau (p.n - p.tau) signs (value 256 (take 8 bs)) (replicate p.n (pos 0)))

  module _ (out : List ℤ) (place signs : ℕ) (js : List ℕ) (S : Stepping out place signs js) where
    pub stepping_all : p.n ≤ place → Is (drawn_c p bs) (Ok tt) out
    unfolding drawn_c
    stepping_all l = placed_all_lem p.n whole js place signs out S.same l

    -- every draw that is left is past its place
    pub stepping_dry : place < p.n → Past place js → Is (drawn_c p bs) dry_stream out
    unfolding drawn_c
    stepping_dry l h =
        placed_some p.n whole place signs out
        (sym (placing_past p.n js [] place signs out l h) ∙ ap (λ (ks : List ℕ). placing ks (p.n - place) place signs out) (append-nil js) ∙ S.same) l

    -- those before it are past its place, and one is not
    pub stepping_used : (xs : List ℕ) (j : ℕ) (more : List ℕ) → place < p.n → js ≡ xs ++ (j ∷ more) → Past place xs → j ≤ place
        → (k : ℕ) (out' : List ℤ) → out' ≡ set (set out place (get_or out k (pos 0))) k (sign (signs % 2)) → k ≡ j → Stepping out' (place + 1) (signs / 2) more
    stepping_used xs j more l e h u k out' g same_place = let f = rw same_place at g in record {
      long = ap length f ∙ length-set (set out place (get_or out j (pos 0))) j (sign (signs % 2)) ∙ length-set out place (get_or out j (pos 0)) ∙ S.long;
      same =
          ap (placing more (p.n - (place + 1)) (place + 1) (signs / 2)) f ∙
          sym (placing_used p.n j more place signs out l u) ∙
          sym (placing_past p.n xs (j ∷ more) place signs out l h) ∙
          ap (λ (ks : List ℕ). placing ks (p.n - place) place signs out) (sym e) ∙
          S.same;
    }
