-- The fold, one exponent after the other, and that its end is the product.
use mathlib.Core.Path.{◌≡◌, refl, sym, ap, ◌∙◌}
use mathlib.Core.List.{List}
use mathlib.Core.Logic.{⊎_elim}
use Prim.Native.Nat.{ℕ, ◌+◌, ◌-◌, ◌*◌, ◌/◌, ◌%◌, ◌^◌, ◌≤◌, ◌<◌}
use native.Mathlib.Nat.{mod-mod, mod-lt}
use native.Mathlib.Omega.{arith}
use native.Mathlib.Numerals.{add-one}
use lib.Dec.{leb}
use lib.IntN.{pos, ◌*ℤ◌}
use lib.ListN.{length, get_or, replicate, length-replicate, get_or-eq_default}
use Rattle.std.proofs.lemmas.Grind.{common_steps}
use Rattle.sets.specs.Set.{Set}
use Rattle.sets.specs.declared.numbers.Ring.{Ring}
use Rattle.sets.specs.Good.{Trinomial}
use Rattle.residues.specs.Remainder.{residue}
use Rattle.residues.proofs.Order.{below_or}
use Rattle.residues.proofs.Remainders.{residue_lt, residue_again, residue_plus, residue_times, residue_pos}
use Rattle.ring.specs.Ring.{sum, fold, prod, tab}
use Rattle.ring.specs.Profile.{profile_of}
use Rattle.ring.specs.Inner.{whole, multiplied, Residues, total, meet, meet_padded, Padded, Unsummed, Unfolded, Foldable, Folded, FoldedAll}
use Rattle.ring.proofs.Sums.{cong}
use Rattle.ring.proofs.Lists.{is_tab}
use Rattle.ring.proofs.Reindex.{by_exponent, moved, pos_total, pos_meet}
use Rattle.ring.proofs.Rowing.{total_cong, meet_padded_lem}

pub at_zeros : (n k : ℕ) → get_or {A = ℕ} (replicate n 0) k 0 ≡ 0
at_zeros n k = grind (arith, common_steps)

-- the exponents below e are folded in
pub record Reached (p : Set) (sums : List ℕ) (e : ℕ) (out : List ℕ) : Type 0 where
  pub long : length out ≡ p.n
  pub each : (k : ℕ) → k < p.n → get_or out k 0 ≡ residue p.q (sum e (λ x. pos (get_or sums x 0) *ℤ fold (p.n / 2) x k))

module _ (p : Set) (T : Trinomial p) where
  pub q_some : 0 < p.q
  q_some = let w = T.good.whole in omega arith

  abbrev h : ℕ
  h = p.n / 2

  pub reached_none : (sums out : List ℕ) → out ≡ replicate p.n 0 → Reached p sums 0 out
  unfolding sum
  reached_none sums out f = record {
    long = ap length f ∙ length-replicate {A = ℕ} p.n 0;
    each = λ k l. ap (λ (xs : List ℕ). get_or xs k 0) f ∙ at_zeros p.n k ∙ sym (residue_small_zero);
  }
    where
      residue_small_zero : residue p.q (pos 0) ≡ 0
      residue_small_zero = residue_pos p.q q_some 0 ∙ zero_mod_q
        where
          zero_mod_q : 0 % p.q ≡ 0
          zero_mod_q = native.Mathlib.Nat.zero-mod p.q

  -- c X^e can be added
  pub can_fold : (sums out : List ℕ) (e : ℕ) → Reached p sums e out → e < 2 * p.n - 1 → Foldable (p.n / 2) p.q out e (get_or sums e 0 % p.q)
  can_fold sums out e R l = record {
    some = omega (arith, T.even, T.good.n_some);
    most = omega (arith, T.even, T.good.n_room);
    room = T.good.q_room;
    long = R.long ∙ T.even;
    each = λ k. ⊎_elim (λ m. rw (R.each k m) (residue_lt p.q q_some _)) (λ m. rw (get_or-eq_default out 0 {n = k} (omega (arith, R.long))) q_some) (below_or k p.n);
    reach = omega (arith, T.even);
    small = mod-lt (get_or sums e 0) q_some;
  }

  pub reached_more : (sums out more : List ℕ) (e : ℕ) → Reached p sums e out → Folded (p.n / 2) p.q out e (get_or sums e 0 % p.q) more → Reached p sums (e + 1) more
  unfolding sum
  reached_more sums out more e R F = record {
    long = F.long ∙ sym T.even;
    each = λ k l.
        F.each k (rw T.even at l) ∙
        residue_plus p.q q_some (pos (get_or out k 0)) (sum e (λ x. pos (get_or sums x 0) *ℤ fold h x k))
        (pos (get_or sums e 0 % p.q) *ℤ fold h e k) (pos (get_or sums e 0) *ℤ fold h e k)
        (ap (λ (n : ℕ). residue p.q (pos n)) (R.each k l) ∙ residue_again p.q q_some (sum e (λ x. pos (get_or sums x 0) *ℤ fold h x k)))
        (residue_times p.q q_some (pos (get_or sums e 0 % p.q)) (pos (get_or sums e 0)) (fold h e k) (fold h e k)
        (residue_pos p.q q_some (get_or sums e 0 % p.q) ∙ mod-mod (get_or sums e 0) p.q ∙ sym (residue_pos p.q q_some (get_or sums e 0))) refl) ∙
        ap (λ (n : ℕ). residue p.q (sum n (λ x. pos (get_or sums x 0) *ℤ fold h x k))) (sym (add-one e));
  }

  module _ (a b : List ℕ) (A : Residues p a) (B : Residues p b) where
    -- room for the rows
    pub can_sum : (c sums : List ℕ) → Padded b c → length sums ≡ 2 * p.n + 14 → ((e : ℕ) → get_or sums e 0 ≡ 0) → Unsummed a c sums
    can_sum c sums P w z =
        let l = A.long in
        let m = B.long in
        record {
          some = omega (arith, T.good.n_some);
          most = omega (arith, T.good.n_room);
          wide = omega arith;
          long = P.long ∙ omega arith;
          before = P.before;
          behind = λ k g. past k g;
          left = λ k. omega (arith, A.each k, T.good.q_room);
          right = λ k. ⊎_elim (λ g. omega (arith, P.before k g)) (λ g. inner k g) (below_or k 15);
          zeros = z;
        }
      where
        inner : (k : ℕ) → 15 ≤ k → get_or c k 0 < 2 ^ 25
        inner k g =
            let e : get_or c k 0 ≡ get_or b (k - 15) 0 = ap (λ (x : ℕ). get_or c x 0) {x = k} {y = k - 15 + 15} (omega arith) ∙ P.inside (k - 15) in
            omega (arith, B.each (k - 15), T.good.q_room)

        past : (k : ℕ) → length c ≤ k + 15 → get_or c k 0 ≡ 0
        past k g =
            let n = P.long in
            ap (λ (x : ℕ). get_or c x 0) {x = k} {y = k - 15 + 15} (omega arith) ∙ P.inside (k - 15) ∙ get_or-eq_default b 0 (omega arith)

    -- what a and b bring to X^e, as whole numbers
    meets : (e : ℕ) → pos (total p.n (meet a b e)) ≡ sum p.n (λ i. whole a i *ℤ moved (whole b) i e)
    meets e =
        pos_total p.n (meet a b e) ∙
        cong p.n (λ i. pos (meet a b e i)) (λ i. whole a i *ℤ moved (whole b) i e) (λ i l. pos_meet (leb i e) (get_or a i 0) (get_or b (e - i) 0))

    product_folded : (c sums out : List ℕ) → Padded b c → Unfolded a c sums → FoldedAll p sums out
        → out ≡ tab p.n (λ k. residue p.q (prod p.n (fold h) (whole a) (whole b) k))
    product_folded c sums out P U F =
        is_tab 0 out p.n (λ k. residue p.q (prod p.n (fold h) (whole a) (whole b) k)) F.long
        (λ k l.
        F.each k l ∙
        ap (residue p.q)
        (cong (2 * p.n - 1) (λ e. pos (get_or sums e 0) *ℤ fold h e k) (λ e. sum p.n (λ i. whole a i *ℤ moved (whole b) i e) *ℤ fold h e k)
        (λ e m. ap (λ z. z *ℤ fold h e k) (summed e m)) ∙
        sym (by_exponent p.n (2 * p.n - 1) (fold h) (whole a) (whole b) k (omega (arith, T.good.n_some))
        (λ j m. ap pos (get_or-eq_default b 0 (omega (arith, B.long)))))))
      where
        summed : (e : ℕ) → e < 2 * p.n - 1 → pos (get_or sums e 0) ≡ sum p.n (λ i. whole a i *ℤ moved (whole b) i e)
        summed e m =
            ap pos
            (U.each e (omega (arith, U.wide, A.long)) ∙ ap (λ (n : ℕ). total n (meet_padded a c e)) A.long ∙
            total_cong p.n (meet_padded a c e) (meet a b e) (λ i l. meet_padded_lem a b c e i P)) ∙
            meets e

    -- the engine folds as the trinomial ring does, which the set's record names
    pub product_of : (c sums out : List ℕ) → Padded b c → Unfolded a c sums → FoldedAll p sums out → out ≡ multiplied p a b
    unfolding multiplied
    product_of c sums out P U F =
        product_folded c sums out P U F ∙
        ap (λ (r : Ring). tab p.n (λ k. residue p.q (prod p.n (profile_of r p.n).wrap (whole a) (whole b) k))) (sym T.kind)
