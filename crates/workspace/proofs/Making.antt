-- What is made of places, number by number, is what the definitions make of the elements that the places hold.
use mathlib.Core.Path.{◌≡◌, refl, sym, ap, ◌∙◌}
use mathlib.Core.List.{List, [], ◌∷◌, map}
use Prim.Native.Nat.{ℕ, zero, suc, ◌+◌, ◌-◌, ◌*◌, ◌%◌, ◌^◌, ◌≤◌, ◌<◌}
use native.Mathlib.Nat.{mod-lt, mul_comm, mul-le-mul_right, le_of_lt}
use native.Mathlib.Omega.{arith}
use lib.IntN.{ℤ, pos, nat_abs, neg_ℤ, ◌+ℤ◌, ◌-ℤ◌, ◌*ℤ◌}
use lib.ListN.{length, get_or, set, length-map}
use Rattle.sets.specs.Set.{Set, alpha, steps}
use Rattle.sets.specs.Good.{Trinomial}
use Rattle.residues.specs.Remainder.{residue, signed, centred}
use Rattle.residues.proofs.Remainders.{residue_lt, residue_pos, residue_small, residue_again, residue_add, residue_sub, residue_negated, residue_neg, residue_times}
use Rattle.residues.proofs.Centres.{centred_small}
use Rattle.rounding.specs.Rounding.{high_bits, make_hint, use_hint, power2_round}
use Rattle.rounding.proofs.Congruent.{q_pos, q_wide, high_cong, hint_cong, use_cong, power_cong}
use Rattle.rounding.specs.declared.Split.{Split}
use Rattle.rounding.proofs.Hints.{bit, high_lt, use_lt}
use Rattle.rounding.proofs.Halves.{power_high_le}
use Rattle.ring.specs.Ring.{at as coefficient, tab, product}
use Rattle.ring.specs.Inner.{multiplied}
use Rattle.ring.specs.Profile.{mul}
use Rattle.ring.proofs.Lists.{length_tab, map_tab, tab_cong, at_tab, is_tab}
use Rattle.ring.proofs.Signed.{at_reduced, product_residues}
use Rattle.scheme.specs.Elements.{plus, negated, scaled, centring, use_hints}
use Rattle.workspace.specs.declared.arithmetic.Op.{Op}
use Rattle.workspace.specs.declared.arithmetic.Op.TheVariants.{Sum, Difference, LessScaled, Hint, Used, High, PowerHigh, PowerLow}
use Rattle.workspace.specs.Inner.{at, slot, Room, Spans, Holds, Made, combined, made}
use Rattle.workspace.specs.declared.Place.{Place}
use Rattle.workspace.proofs.Memory.{Wrote, at_element, within}
use Rattle.workspace.proofs.Writing.{Writing, writing_more, writing_all, unwritten}

module _ (p : Set) (T : Trinomial p) where
  abbrev pub reduced : List ℤ → List ℕ
  reduced a = map (residue p.q) a

  hq : 0 < p.q
  hq = q_pos p T.good

  at_res : (a : List ℤ) → length a ≡ p.n → (k : ℕ) → k < p.n → get_or (reduced a) k 0 ≡ residue p.q (coefficient a k)
  at_res a l k b = at_reduced p T a k (omega arith)

  -- high bits are below m, which is below q, and so are hints
  high_room : {h : ℕ} → h < steps p → h < p.q
  high_room {h} l = let m = mul-le-mul_right (steps p) (step_some) in omega (arith, T.good.whole, mul_comm (alpha p) (steps p))
    where
      step_some : 1 ≤ alpha p
      step_some = omega (arith, T.good.some)

  bit_small : (z r : ℤ) → make_hint p z r < p.q
  bit_small z r = let b = bit p z r in omega (arith, T.good.some, q_wide p T.good)

  -- ---- two elements, or one
  module _ (a b : List ℤ) where
    -- coefficient k of what is made
    coefficient_of : Op → ℕ → ℤ
    coefficient_of Sum k = coefficient a k +ℤ coefficient b k
    coefficient_of Difference k = coefficient a k -ℤ coefficient b k
    coefficient_of LessScaled k = coefficient a k -ℤ coefficient (scaled p (pos (2 ^ p.d)) b) k
    coefficient_of Hint k = pos (make_hint p (coefficient (negated p b) k) (coefficient (plus p a b) k))
    coefficient_of Used k = pos (use_hint p (residue p.q (coefficient a k)) (coefficient b k))
    coefficient_of High k = pos (high_bits p (coefficient a k))
    coefficient_of PowerHigh k = pos (power2_round p (coefficient a k)).high
    coefficient_of PowerLow k = (power2_round p (coefficient a k)).low

    made_tab : (op : Op) → made p op a b ≡ tab p.n (coefficient_of op)
    unfolding coefficient_of
    made_tab Sum = refl
    made_tab Difference = refl
    made_tab LessScaled = refl
    made_tab Hint = refl
    made_tab Used = refl
    made_tab High = refl
    made_tab PowerHigh = refl
    made_tab PowerLow = refl

    -- x - 2^d·y
    less_scaled_at : (k : ℕ) → k < p.n → (residue p.q (coefficient a k) + (p.q - residue p.q (coefficient b k) * 2 ^ p.d % p.q)) % p.q ≡ residue p.q (coefficient a k -ℤ coefficient (scaled p (pos (2 ^ p.d)) b) k)
    less_scaled_at k l =
        let s : residue p.q (coefficient (scaled p (pos (2 ^ p.d)) b) k) ≡ residue p.q (coefficient b k) * 2 ^ p.d % p.q =
        ap (residue p.q) (at_tab (pos 0) p.n (λ k. pos (2 ^ p.d) *ℤ coefficient b k) k l) ∙
        residue_times p.q hq (pos (2 ^ p.d)) (pos (2 ^ p.d)) (coefficient b k) (pos (residue p.q (coefficient b k))) refl (sym (residue_again p.q hq (coefficient b k))) ∙
        residue_pos p.q hq (2 ^ p.d * residue p.q (coefficient b k)) ∙
        ap (λ (x : ℕ). x % p.q) (mul_comm (2 ^ p.d) (residue p.q (coefficient b k))) in
        sym (residue_sub p.q hq (coefficient a k) (coefficient (scaled p (pos (2 ^ p.d)) b) k) ∙ ap (λ (x : ℕ). (residue p.q (coefficient a k) + (p.q - x)) % p.q) s)

    -- MakeHint(-y, x + y)
    minus_b : (k : ℕ) → k < p.n → residue p.q (pos ((p.q - residue p.q (coefficient b k)) % p.q)) ≡ residue p.q (coefficient (negated p b) k)
    minus_b k l =
        residue_small p.q hq ((p.q - residue p.q (coefficient b k)) % p.q) (mod-lt (p.q - residue p.q (coefficient b k)) hq) ∙
        sym (residue_negated p.q hq (residue p.q (coefficient b k)) (le_of_lt (residue_lt p.q hq (coefficient b k)))) ∙
        residue_neg p.q hq (pos (residue p.q (coefficient b k))) (coefficient b k) (residue_again p.q hq (coefficient b k)) ∙
        ap (residue p.q) (sym (at_tab (pos 0) p.n (λ k. neg_ℤ (coefficient b k)) k l))

    sum_ab : (k : ℕ) → k < p.n → residue p.q (pos ((residue p.q (coefficient a k) + residue p.q (coefficient b k)) % p.q)) ≡ residue p.q (coefficient (plus p a b) k)
    sum_ab k l =
        residue_small p.q hq ((residue p.q (coefficient a k) + residue p.q (coefficient b k)) % p.q) (mod-lt (residue p.q (coefficient a k) + residue p.q (coefficient b k)) hq) ∙
        sym (residue_add p.q hq (coefficient a k) (coefficient b k)) ∙
        ap (residue p.q) (sym (at_tab (pos 0) p.n (λ k. coefficient a k +ℤ coefficient b k) k l))

    combined_at_lem : (op : Op) (k : ℕ) → k < p.n → combined p op (residue p.q (coefficient a k)) (residue p.q (coefficient b k)) ≡ residue p.q (coefficient_of op k)
    unfolding coefficient_of
    combined_at_lem Sum k l = sym (residue_add p.q hq (coefficient a k) (coefficient b k))
    combined_at_lem Difference k l = sym (residue_sub p.q hq (coefficient a k) (coefficient b k))
    combined_at_lem LessScaled k l = less_scaled_at k l
    combined_at_lem Hint k l =
        hint_cong p T.good _ (coefficient (negated p b) k) _ (coefficient (plus p a b) k) (minus_b k l) (sum_ab k l) ∙
        sym (residue_small p.q hq (make_hint p (coefficient (negated p b) k) (coefficient (plus p a b) k)) (bit_small (coefficient (negated p b) k) (coefficient (plus p a b) k)))
    combined_at_lem Used k l =
        use_cong p T.good (residue p.q (coefficient a k)) _ (coefficient b k) (residue_again p.q hq (coefficient b k)) ∙
        sym (residue_small p.q hq (use_hint p (residue p.q (coefficient a k)) (coefficient b k)) (high_room (use_lt p T.good (residue p.q (coefficient a k)) (coefficient b k))))
    combined_at_lem High k l =
        high_cong p T.good _ (coefficient a k) (residue_again p.q hq (coefficient a k)) ∙
        sym (residue_small p.q hq (high_bits p (coefficient a k)) (high_room (high_lt p T.good (coefficient a k))))
    combined_at_lem PowerHigh k l =
        ap (λ (s : Split). s.high) (power_cong p T.good _ (coefficient a k) (residue_again p.q hq (coefficient a k))) ∙
        sym (residue_small p.q hq (power2_round p (coefficient a k)).high (let m = power_high_le p T.good (coefficient a k) in omega (arith, T.good.t1_half)))
    combined_at_lem PowerLow k l = ap (λ (s : Split). residue p.q s.low) (power_cong p T.good _ (coefficient a k) (residue_again p.q hq (coefficient a k)))

    pub made_is : (op : Op) → length a ≡ p.n → length b ≡ p.n
        → tab p.n (λ k. combined p op (get_or (reduced a) k 0) (get_or (reduced b) k 0)) ≡ reduced (made p op a b)
    made_is op la lb =
        tab_cong p.n _ _ (λ k l. rw (at_res a la k l, at_res b lb k l) (combined_at_lem op k l)) ∙
        sym (map_tab (residue p.q) p.n (coefficient_of op)) ∙ ap reduced (sym (made_tab op))

    pub made_length : (op : Op) → length (made p op a b) ≡ p.n
    made_length op = ap length (made_tab op) ∙ length_tab p.n (coefficient_of op)

    -- hints that are bits are their own remainders
    pub used_bits : ((k : ℕ) → k < p.n → residue p.q (coefficient a k) ≡ nat_abs (coefficient a k)) → made p Used a b ≡ use_hints p a b
    used_bits h = tab_cong p.n _ _ (λ k l. ap (λ (x : ℕ). pos (use_hint p x (coefficient b k))) (h k l))

  -- ---- back to whole numbers
  module _ (a : List ℤ) (la : length a ≡ p.n) where
    -- the numbers again, centred
    pub centring_is : map (signed p.q) (reduced a) ≡ centring p a
    unfolding centred
    centring_is =
        is_tab (pos 0) (map (signed p.q) (reduced a)) p.n (λ k. centred p.q (coefficient a k)) (length-map (reduced a) (signed p.q) ∙ length-map a (residue p.q) ∙ la)
        (λ k l. mapped (signed p.q) (reduced a) k (omega (arith, length-map a (residue p.q))) ∙ ap (signed p.q) (at_res a la k l))
      where
        mapped : (f : ℕ → ℤ) (xs : List ℕ) (k : ℕ) → k < length xs → get_or (map f xs) k (pos 0) ≡ f (get_or xs k 0)
        mapped f [] k l = absurd (omega arith)
        mapped f (x ∷ xs) zero l = refl
        mapped f (x ∷ xs) (suc k) l = mapped f xs k (omega arith)

    -- and as they were, where they are small
    pub small_back : ((k : ℕ) → k < p.n → 2 * nat_abs (coefficient a k) < p.q) → map (signed p.q) (reduced a) ≡ a
    small_back h =
        centring_is ∙
        sym (is_tab (pos 0) a p.n (λ k. centred p.q (coefficient a k)) la (λ k l. sym (centred_small p.q hq (coefficient a k) (h k l))))

-- ---- places
module _ (p : Set) (T : Trinomial p) (i j k : Place) (work more : List ℕ) where
  made_of : (f : List ℤ → List ℤ → List ℤ) (new : List ℕ) → Wrote p.n (at k) new work more
      → ((a b : List ℤ) → Holds p i a work → Holds p j b work → (length (f a b) ≡ p.n) × (new ≡ map (residue p.q) (f a b))) → Made p i j k f work more
  made_of f new w h = record {
    touched = record { long = w.long; kept = w.kept };
    here = λ a b A B. record { long = (h a b A B).0; here = w.here ∙ (h a b A B).1 };
  }

  -- coefficient by coefficient
  abbrev pub combined_at : Op → List ℕ
  combined_at op = tab p.n (λ t. combined p op (get_or (slot p i work) t 0) (get_or (slot p j work) t 0))

  pub made_combined : (op : Op) → Wrote p.n (at k) (combined_at op) work more → Made p i j k (made p op) work more
  made_combined op w =
      made_of (made p op) _ w
      (λ a b A B. (
        made_length p T a b op,
        (λ x. tab p.n (λ t. combined p op (get_or (A.here x) t 0) (get_or (B.here x) t 0))) ∙ made_is p T a b op A.long B.long,
      ))

  -- the product
  length_product : (a b : List ℤ) → length (mul p a b) ≡ p.n
  unfolding product
  length_product a b = length_tab p.n _

  pub made_product : Wrote p.n (at k) (multiplied p (slot p i work) (slot p j work)) work more → Made p i j k (mul p) work more
  made_product w =
      made_of (mul p) _ w
      (λ a b A B. (length_product a b, (λ x. multiplied p (A.here x) (B.here x)) ∙ product_residues p T a b A.long B.long))

-- number by number, where the elements start as the code has found it
abbrev pub made_from : Set → Op → ℕ → ℕ → List ℕ → List ℕ
made_from p op first second work = tab p.n (λ t. combined p op (get_or work (first + t) 0) (get_or work (second + t) 0))

module _ {p : Set} {i j k : Place} {first first_end second second_end to to_end : ℕ} {work more : List ℕ} (room : Room p work)
    (I : Spans p i first first_end) (J : Spans p j second second_end) (K : Spans p k to to_end) (op : Op) {t : ℕ}
    (W : Writing p.n to (made_from p op first second work) work t more) where
  pub made_more : {v : ℕ} → t < p.n → v ≡ combined p op (get_or more (first + t) 0) (get_or more (second + t) 0)
      → Writing p.n to (made_from p op first second work) work (t + 1) (set more (to + t) v)
  made_more l e =
      writing_more W l (omega (arith, K.ends, K.most))
      (e ∙ (λ x. combined p op (unwritten I K W l x) (unwritten J K W l x)) ∙ sym (at_tab 0 p.n _ t l))

  pub made_all : Trinomial p → p.n ≤ t → Made p i j k (made p op) work more
  made_all T l =
      made_combined p T i j k work more op
      (rw (sym same) (writing_all W (at k) K.starts (within p k work room) (length_tab p.n _) l))
    where
      same : made_from p op first second work ≡ combined_at p T i j k work more op
      same = tab_cong p.n _ _ (λ t l. rw (I.starts, J.starts, at_element p.n (at i) t work l, at_element p.n (at j) t work l) refl)
