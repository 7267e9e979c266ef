-- The rows of a product, added pass by pass from the front: n rows are in the sums.
use mathlib.Core.Path.{◌≡◌, refl, sym, ap, ◌∙◌}
use mathlib.Core.Bool.{Bool, true, false, cond}
use mathlib.Core.List.{List, [], ◌∷◌}
use mathlib.Core.Logic.{⊎_elim}
use Prim.Native.Nat.{ℕ, zero, suc, ◌+◌, ◌-◌, ◌*◌, ◌^◌, ◌≤◌, ◌<◌}
use native.Mathlib.Nat.{mul-zero, zero-mul}
use native.Mathlib.Numerals.{add-one}
use native.Mathlib.Omega.{arith}
use native.Mathlib.Decide.{le_ind}
use borrow.Author.Tests.{le-leb, lt-leb}
use lib.Dec.{leb}
use lib.ListN.{length, get_or, get_or-eq_default}
use Rattle.residues.proofs.Order.{below_or}
use Rattle.ring.specs.declared.Row.{Row}
use Rattle.ring.specs.Inner.{total, meet, meet_padded, row_of, one, pass, Near, brought, Padded, Room, Summed, Passed, Unsummed, Unfolded}
use Rattle.ring.proofs.Adding.{small}

-- ---- sums of natural numbers
pub total_more : (n : ℕ) (f : ℕ → ℕ) → total (n + 1) f ≡ total n f + f n
unfolding total
total_more n f = ap (λ (m : ℕ). total m f) (add-one n)

pub total_rest : (m : ℕ) (f : ℕ → ℕ) (n : ℕ) → m ≤ n → ((i : ℕ) → m ≤ i → i < n → f i ≡ 0) → total n f ≡ total m f
unfolding total
total_rest m f n l =
    le_ind {n = m} (λ n. ((i : ℕ) → m ≤ i → i < n → f i ≡ 0) → total n f ≡ total m f) (λ h. refl)
    (λ n l ih h. omega (arith, ih (λ i a b. h i a (omega arith)), h n l (omega arith))) n l

-- four of them, where those between are 0
total_four : (f : ℕ → ℕ) (i i1 i2 i3 : ℕ) → i + 1 ≤ i1 → i1 + 1 ≤ i2 → i2 + 1 ≤ i3
    → ((k : ℕ) → i + 1 ≤ k → k < i1 → f k ≡ 0) → ((k : ℕ) → i1 + 1 ≤ k → k < i2 → f k ≡ 0) → ((k : ℕ) → i2 + 1 ≤ k → k < i3 → f k ≡ 0)
    → total (i3 + 1) f ≡ total i f + (f i + f i1 + f i2 + f i3)
total_four f i i1 i2 i3 l1 l2 l3 z1 z2 z3 =
    omega (
      arith,
      total_more i f,
      total_more i1 f,
      total_more i2 f,
      total_more i3 f,
      total_rest (i + 1) f i1 l1 z1,
      total_rest (i1 + 1) f i2 l2 z2,
      total_rest (i2 + 1) f i3 l3 z3,
    )

total_bound : (n b : ℕ) (f : ℕ → ℕ) → ((i : ℕ) → f i ≤ b) → total n f ≤ n * b
unfolding total
total_bound zero b f h = omega (arith, zero-mul b)
total_bound (suc n) b f h = omega (arith, total_bound n b f h, h n)

pub total_cong : (n : ℕ) (f g : ℕ → ℕ) → ((i : ℕ) → i < n → f i ≡ g i) → total n f ≡ total n g
unfolding total
total_cong zero f g h = refl
total_cong (suc n) f g h = λ j. total_cong n f g (λ i l. h i (omega arith)) j + h n (omega arith) j

-- a sum of four is brought as each of them is
spread : (b : Bool) (x y z u : ℕ) → cond b (0 + x + y + z + u) 0 ≡ cond b x 0 + cond b y 0 + cond b z 0 + cond b u 0
spread true x y z u = omega arith
spread false x y z u = refl

alone : (b : Bool) (x : ℕ) → cond b (0 + x) 0 ≡ cond b x 0
alone true x = omega arith
alone false x = refl

-- ---- one row
module _ (a c : List ℕ) (e i : ℕ) where
  met : i ≤ e → meet_padded a c e i ≡ get_or a i 0 * get_or c (e - i + 15) 0
  met l = rw (le-leb i e l)

  unmet : e < i → meet_padded a c e i ≡ 0
  unmet l = rw (lt-leb i e l)

  -- past a's end a row is empty
  empty : length a ≤ i → meet_padded a c e i ≡ 0
  empty l =
      ⊎_elim unmet (λ m. met m ∙ ap (λ (x : ℕ). x * get_or c (e - i + 15) 0) (get_or-eq_default a 0 l) ∙ zero-mul (get_or c (e - i + 15) 0)) (below_or e i)

  bounded : ((k : ℕ) → get_or a k 0 < 2 ^ 25) → ((k : ℕ) → get_or c k 0 < 2 ^ 25) → meet_padded a c e i ≤ 2 ^ 50
  bounded h g =
      ⊎_elim (λ l. let z = unmet l in omega arith) (λ m. let z = met m in let s = small (h i) (g (e - i + 15)) in omega arith) (below_or e i)

-- how far the rows are added: those of the first i places are in
pub record Sofar (a c sums : List ℕ) (i : ℕ) (now : List ℕ) : Type 0 where
  pub wide : length now ≡ length sums
  pub each : (e : ℕ) → e < length sums → get_or now e 0 ≡ total i (meet_padded a c e)

module _ (a c sums : List ℕ) (U : Unsummed a c sums) where
  -- ---- the rows of a pass
  -- row j meets c where row i does, so many places less: fifteen zeros stand before c's first number
  shifted : (e i j : ℕ) → i ≤ e → i ≤ j → j ≤ i + 15 → meet_padded a c e j ≡ one c (row_of a j (i + 15)) (e - i)
  shifted e i j l h g =
      ⊎_elim
      (λ m.
      unmet a c e j m ∙ sym (ap (λ (y : ℕ). get_or a j 0 * y) (U.before (e - i + (i + 15 - j)) (omega arith)) ∙ mul-zero (get_or a j 0)))
      (λ m. met a c e j m ∙ ap (λ (y : ℕ). get_or a j 0 * get_or c y 0) {x = e - j + 15} {y = e - i + (i + 15 - j)} (omega arith))
      (below_or e j)

  -- the rows of a pass from X^i on
  abbrev just : ℕ → List Row
  just i = row_of a i (i + 15) ∷ []

  abbrev four : ℕ → ℕ → ℕ → ℕ → List Row
  four i i1 i2 i3 = row_of a i (i + 15) ∷ row_of a i1 (i + 15) ∷ row_of a i2 (i + 15) ∷ row_of a i3 (i + 15) ∷ []

  -- each is within reach
  pub near : (i j : ℕ) (r : Row) → i ≤ j → r ≡ row_of a j (i + 15) → Near r
  near i j r l e = rw e (record { small = U.left j; close = omega arith })

  -- so a pass from X^i on brings what row j does
  brings : (e i j : ℕ) → i ≤ j → j ≤ i + 15 → meet_padded a c e j ≡ brought i (one c (row_of a j (i + 15))) e
  brings e i j h g = ⊎_elim (λ m. unmet a c e j (omega arith) ∙ sym (before m)) (λ m. shifted e i j m h g ∙ sym (behind m)) (below_or e i)
    where
      before : e < i → brought i (one c (row_of a j (i + 15))) e ≡ 0
      before m = rw (lt-leb i e m)

      behind : i ≤ e → brought i (one c (row_of a j (i + 15))) e ≡ one c (row_of a j (i + 15)) (e - i)
      behind m = rw (le-leb i e m)

  pub sofar_none : Sofar a c sums 0 sums
  unfolding total
  sofar_none = record { wide = refl; each = λ e l. U.zeros e }

  -- room for the next pass
  pub room : (i : ℕ) (now : List ℕ) → Sofar a c sums i now → i < length a → Room now c i
  room i now S l = record {
    some = omega (arith, U.long);
    zeros = U.behind;
    wide = omega (arith, U.long, U.wide, S.wide);
    few = omega (arith, U.most);
    each = U.right;
    sofar = λ e. ⊎_elim (λ m. inside e m) (λ m. let z = get_or-eq_default now 0 {n = e} (omega (arith, S.wide)) in omega arith) (below_or e (length sums));
  }
    where
      inside : (e : ℕ) → e < length sums → get_or now e 0 ≤ i * 2 ^ 50
      inside e m = rw (S.each e m) (total_bound i (2 ^ 50) (meet_padded a c e) (λ j. bounded a c e j U.left U.right))

  -- a zero brings nothing
  nothing : (e k : ℕ) → get_or a k 0 ≡ 0 → meet_padded a c e k ≡ 0
  nothing e k z = ⊎_elim (unmet a c e k) (λ m. met a c e k m ∙ ap (λ (x : ℕ). x * get_or c (e - k + 15) 0) z ∙ zero-mul (get_or c (e - k + 15) 0)) (below_or e k)

  pub sofar_skip : (i : ℕ) (now : List ℕ) → Sofar a c sums i now → get_or a i 0 ≡ 0 → Sofar a c sums (i + 1) now
  sofar_skip i now S z = record {
    wide = S.wide;
    each = λ e l. S.each e l ∙ omega (arith, total_more i (meet_padded a c e), nothing e i z);
  }

  -- the three places that were found, with zeros between them
  module _ (i i1 i2 i3 : ℕ) (P1 : Passed a (i + 1) (i + 15 - 2) i1) (P2 : Passed a (i1 + 1) (i + 15 - 1) i2) (P3 : Passed a (i2 + 1) (i + 15) i3) where
    gathered : (e : ℕ) → total (i3 + 1) (meet_padded a c e) ≡ total i (meet_padded a c e) + (meet_padded a c e i + meet_padded a c e i1 + meet_padded a c e i2 + meet_padded a c e i3)
    gathered e =
        total_four (meet_padded a c e) i i1 i2 i3 P1.start P2.start P3.start (λ k l m. nothing e k (P1.zeros k l m)) (λ k l m. nothing e k (P2.zeros k l m))
        (λ k l m. nothing e k (P3.zeros k l m))

    pub sofar_four : (now more : List ℕ) → Sofar a c sums i now
        → Summed now i (pass c (four i i1 i2 i3)) more → Sofar a c sums (i3 + 1) more
    sofar_four now more S M = record {
      wide = M.long ∙ S.wide;
      each = λ e l.
          omega (
            arith,
            M.each e (omega (arith, S.wide)),
            S.each e l,
            gathered e,
            spread (leb i e) (one c (row_of a i (i + 15)) (e - i)) (one c (row_of a i1 (i + 15)) (e - i)) (one c (row_of a i2 (i + 15)) (e - i)) (one c (row_of a i3 (i + 15)) (e - i)),
            brings e i i (omega arith) (omega arith),
            brings e i i1 (omega (arith, P1.start)) (omega (arith, P1.most)),
            brings e i i2 (omega (arith, P1.start, P2.start)) (omega (arith, P2.most)),
            brings e i i3 (omega (arith, P1.start, P2.start, P3.start)) P3.most,
          );
    }

    -- the row stands alone
    pub sofar_one : (now more : List ℕ) → Sofar a c sums i now → get_or a i1 0 ≡ 0 → get_or a i2 0 ≡ 0 → get_or a i3 0 ≡ 0
        → Summed now i (pass c (just i)) more → Sofar a c sums (i3 + 1) more
    sofar_one now more S z1 z2 z3 M = record {
      wide = M.long ∙ S.wide;
      each = λ e l.
          omega (
            arith,
            M.each e (omega (arith, S.wide)),
            S.each e l,
            gathered e,
            alone (leb i e) (one c (row_of a i (i + 15)) (e - i)),
            nothing e i1 z1,
            nothing e i2 z2,
            nothing e i3 z3,
            brings e i i (omega arith) (omega arith),
          );
    }

  pub sofar_all : (i : ℕ) (now : List ℕ) → Sofar a c sums i now → length a ≤ i → Unfolded a c now
  sofar_all i now S l = record {
    wide = S.wide ∙ U.wide;
    each = λ e m. S.each e (omega (arith, S.wide)) ∙ total_rest (length a) (meet_padded a c e) i l (λ k h g. empty a c e k h);
  }

-- with b padded, what a row meets is what it meets in b
pub meet_padded_lem : (a b c : List ℕ) (e i : ℕ) → Padded b c → meet_padded a c e i ≡ meet a b e i
meet_padded_lem a b c e i P = ap (λ (x : ℕ). cond (leb i e) (get_or a i 0 * x) 0) (P.inside (e - i))
