-- What the challenge's sampler draws: τ coefficients 1 or -1, and n - τ zeros (SPEC 12.3).
use mathlib.Core.Path.{◌≡◌, refl, ap, ◌∙◌}
use mathlib.Core.Bool.{Bool, true, false, cond}
use mathlib.Core.List.{List, [], ◌∷◌}
use mathlib.Core.Logic.{◌⊎◌, ⊎_elim}
use Prim.Native.Nat.{ℕ, zero, suc, ◌+◌, ◌-◌, ◌/◌, ◌%◌, ◌≤◌, ◌<◌}
use native.Mathlib.Nat.{zero-add}
use native.Mathlib.Decide.{ℕ_discrete}
use native.Mathlib.Omega.{arith}
use borrow.Author.Tests.{leb-true}
use lib.Dec.{leb, eqb}
use lib.ListN.{length, get_or, set, length-set, replicate, length-replicate, get_or-replicate, get_or-eq_default}
use lib.Seq.{get_or-set_same, get_or-set_other}
use lib.IntN.{ℤ, pos, negsuc, nat_abs}
use Rattle.sets.specs.Set.{Set}
use Rattle.sets.specs.Good.{Good}
use Rattle.residues.proofs.Order.{below_or}
use Rattle.sampling.specs.Samplers.{drew, sign, placed, challenge}
use Rattle.sampling.proofs.Drawing.{not_dry}

-- the sum of the magnitudes, and how many coefficients are not 0
unfoldable pub magnitudes : List ℤ → ℕ
magnitudes [] = 0
magnitudes (x ∷ xs) = nat_abs x + magnitudes xs

unfoldable pub nonzeros : List ℤ → ℕ
nonzeros [] = 0
nonzeros (x ∷ xs) = cond (eqb (nat_abs x) 0) 0 1 + nonzeros xs

-- n coefficients -1, 0 and 1, of which m are not 0
pub record Sparse (n m : ℕ) (c : List ℤ) : Type 0 where
  pub long : length c ≡ n
  pub each : (k : ℕ) → nat_abs (get_or c k (pos 0)) ≤ 1
  pub sum : magnitudes c ≡ m

-- where each magnitude is 0 or 1, their sum counts those that are 1
pub sum_counts : (c : List ℤ) → ((k : ℕ) → nat_abs (get_or c k (pos 0)) ≤ 1) → nonzeros c ≡ magnitudes c
unfolding magnitudes nonzeros
sum_counts [] h = refl
sum_counts (x ∷ xs) h = let i = sum_counts xs (λ k. h (suc k)) in go (nat_abs x) (h 0) i
  where
    go : (a : ℕ) → a ≤ 1 → nonzeros xs ≡ magnitudes xs → cond (eqb a 0) 0 1 + nonzeros xs ≡ a + magnitudes xs
    go zero l e = omega arith
    go (suc zero) l e = omega arith
    go (suc (suc a)) l e = absurd (omega arith)

-- the sum over two lists that differ at one place
magnitudes_set : (c : List ℤ) (i : ℕ) (v : ℤ) → i < length c → magnitudes (set c i v) + nat_abs (get_or c i (pos 0)) ≡ magnitudes c + nat_abs v
unfolding magnitudes
magnitudes_set [] i v l = absurd (omega arith)
magnitudes_set (x ∷ xs) zero v l = omega arith
magnitudes_set (x ∷ xs) (suc i) v l = let e = magnitudes_set xs i v (omega arith) in omega arith

magnitudes_zeros : (n : ℕ) → magnitudes (replicate n (pos 0)) ≡ 0
unfolding magnitudes
magnitudes_zeros zero = refl
magnitudes_zeros (suc n) = omega (arith, magnitudes_zeros n)

pub at_zeros : {A : Type 0} (none : A) (n k : ℕ) → get_or (replicate n none) k none ≡ none
at_zeros none n k =
    ⊎_elim (λ l. get_or-replicate n k none none l) (λ l. get_or-eq_default (replicate n none) none (rw length-replicate l))
    (below_or k n)

sign_one : (b : ℕ) → nat_abs (sign b) ≡ 1
sign_one b = go (eqb b 1)
  where
    go : (t : Bool) → nat_abs (cond t (negsuc 0) (pos 1)) ≡ 1
    go true = refl
    go false = refl

set_each : (c : List ℤ) (i : ℕ) (v : ℤ) → nat_abs v ≤ 1 → ((k : ℕ) → nat_abs (get_or c k (pos 0)) ≤ 1) → (k : ℕ) → nat_abs (get_or (set c i v) k (pos 0)) ≤ 1
set_each c i v l h k = go (ℕ_discrete k i) (below_or i (length c))
  where
    go : Dec (k ≡ i) → (i < length c) ⊎ (length c ≤ i) → nat_abs (get_or (set c i v) k (pos 0)) ≤ 1
    go (yes e) w =
        ⊎_elim (λ m. rw (e, get_or-set_same c i v (pos 0) m) l)
        (λ m. rw (get_or-eq_default (set c i v) (pos 0) {n = k} (omega (arith, length-set c i v))) (omega arith)) w
    go (no e) w = rw (get_or-set_other c i k v (pos 0) e) (h k)

module _ (n : ℕ) (c : List ℤ) (m i j : ℕ) (v : ℤ) (S : Sparse n m c) (l : i < n) (u : j ≤ i) (z : (k : ℕ) → i ≤ k → get_or c k (pos 0) ≡ pos 0) (one : nat_abs v ≡ 1) where
  abbrev step : List ℤ
  step = set (set c i (get_or c j (pos 0))) j v

  kept : Dec (j ≡ i) → get_or (set c i (get_or c j (pos 0))) j (pos 0) ≡ get_or c j (pos 0)
  kept (yes e) = ap (λ (k : ℕ). get_or (set c i (get_or c j (pos 0))) k (pos 0)) e ∙ get_or-set_same c i (get_or c j (pos 0)) (pos 0) (omega (arith, S.long))
  kept (no e) = get_or-set_other c i j (get_or c j (pos 0)) (pos 0) e

  -- SPEC 5.5: one more that is not 0, since place i was empty
  step_sparse : Sparse n (suc m) step
  step_sparse = record {
    long = length-set (set c i (get_or c j (pos 0))) j v ∙ length-set c i (get_or c j (pos 0)) ∙ S.long;
    each = set_each (set c i (get_or c j (pos 0))) j v (omega arith) (set_each c i (get_or c j (pos 0)) (S.each j) S.each);
    sum =
        let a = magnitudes_set c i (get_or c j (pos 0)) (omega (arith, S.long)) in
        let b = magnitudes_set (set c i (get_or c j (pos 0))) j v (omega (arith, length-set c i (get_or c j (pos 0)), S.long)) in
        let none : nat_abs (get_or c i (pos 0)) ≡ 0 = ap nat_abs (z i (omega arith)) in
        let same : nat_abs (get_or (set c i (get_or c j (pos 0))) j (pos 0)) ≡ nat_abs (get_or c j (pos 0)) = ap nat_abs (kept (ℕ_discrete j i)) in
        omega (arith, S.sum);
  }

  -- and the places above i are still empty
  step_above : (k : ℕ) → i + 1 ≤ k → get_or step k (pos 0) ≡ pos 0
  step_above k h =
      get_or-set_other (set c i (get_or c j (pos 0))) j k v (pos 0) (λ e. omega arith) ∙
      get_or-set_other c i k (get_or c j (pos 0)) (pos 0) (λ e. omega arith) ∙ z k (omega arith)

-- m steps more: m more that are not 0
pub sparse_placed : (n : ℕ) (js : List ℕ) (m i signs o : ℕ) (c r : List ℤ) → Sparse n o c → i + m ≤ n → ((k : ℕ) → i ≤ k → get_or c k (pos 0) ≡ pos 0)
    → placed js m i signs c ≡ drew r → Sparse n (o + m) r
unfolding placed
sparse_placed n js zero i signs o c r S b z d =
    let s : c ≡ r = cc in
    rw (← s) (record { long = S.long; each = S.each; sum = S.sum ∙ omega arith })
sparse_placed n [] (suc m) i signs o c r S b z d = not_dry r d
sparse_placed n (j ∷ js) (suc m) i signs o c r S b z d =
    go (leb j i) refl (sparse_placed n js m (i + 1) (signs / 2) (suc o) c' r) (sparse_placed n js (suc m) i signs o c r S b z)
  where
    c' : List ℤ
    c' = set (set c i (get_or c j (pos 0))) j (sign (signs % 2))

    go : (t : Bool) → leb j i ≡ t
        → (Sparse n (suc o) c' → i + 1 + m ≤ n → ((k : ℕ) → i + 1 ≤ k → get_or c' k (pos 0) ≡ pos 0) → placed js m (i + 1) (signs / 2) c' ≡ drew r → Sparse n (suc o + m) r)
        → (placed js (suc m) i signs c ≡ drew r → Sparse n (o + suc m) r)
        → Sparse n (o + suc m) r
    go true t now later =
        let l : j ≤ i = leb-true j i t in
        let S' =
        now (step_sparse n c o i j (sign (signs % 2)) S (omega arith) l z (sign_one (signs % 2))) (omega arith)
        (step_above n c o i j (sign (signs % 2)) S (omega arith) l z (sign_one (signs % 2))) (rw t at d) in
        record { long = S'.long; each = S'.each; sum = S'.sum ∙ omega arith }
    go false t now later = later (rw t at d)

module _ (p : Set) (good : Good p) (bs : List ℕ) (c : List ℤ) (e : challenge p bs ≡ drew c) where
  pub sparse_challenge : Sparse p.n p.tau c
  unfolding challenge
  sparse_challenge =
      rw zero-add at
      (sparse_placed p.n _ p.tau (p.n - p.tau) _ 0 (replicate p.n (pos 0)) c
      (record {
        long = length-replicate p.n (pos 0);
        each = λ k. rw (at_zeros (pos 0) p.n k) (omega arith);
        sum = magnitudes_zeros p.n;
      })
      (omega (arith, good.few)) (λ k h. at_zeros (pos 0) p.n k) e)

  -- the magnitudes add up to τ, and so many coefficients are not 0
  pub challenge_sum : magnitudes c ≤ p.tau
  challenge_sum = omega (arith, sparse_challenge.sum)

  pub challenge_count : nonzeros c ≡ p.tau
  challenge_count = sum_counts c sparse_challenge.each ∙ sparse_challenge.sum
