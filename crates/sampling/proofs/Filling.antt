-- Draws that pass, written into a buffer one after the other, and what that is in the definitions' terms.
use mathlib.Core.Path.{◌≡◌, refl, sym, ap, ap₂, ◌∙◌}
use mathlib.Core.Bool.{Bool, true, false, ◌&&◌}
use mathlib.Core.List.{List, [], ◌∷◌, ◌++◌, map}
use mathlib.Core.Logic.{⊎_elim}
use Prim.Native.Nat.{ℕ, zero, suc, ◌+◌, ◌-◌, ◌≤◌, ◌<◌}
use native.Mathlib.Nat.{add-zero, zero-add}
use native.Mathlib.Numerals.{add-one}
use native.Mathlib.Omega.{arith}
use borrow.Author.Tests.{eqb-true, lt-ltb, le-ltb, eq-eqb, ne_eqb}
use lib.Dec.{ltb, eqb, eqb-suc-suc, eqb-zero-suc}
use lib.IntN.{ℤ}
use lib.ListN.{length, take, drop, set, replicate, length-set, length-replicate, take-append-drop}
use lib.Seq.{take-suc-set, drop-set-lt, take_all, append_snoc, get_or-set_other}
use Rattle.residues.proofs.Order.{below_or}
use Rattle.outcome.specs.Outcome.{Is}
use Rattle.buffers.specs.Buffers.{overlay}
use Rattle.buffers.proofs.Copies.{overlay_all}
use Rattle.answers.specs.Result.{pick}
use Rattle.sampling.specs.Samplers.{Drawn, dry, drew, also, first}
use Rattle.std.specs.Prelude.{Ok, Err}
use Rattle.sampling.specs.Inner.{Sampled, dry_stream, verdict, passing, gathered, Free, kept, filled}

-- what an answer and a buffer say of a stream
abbrev pub said : Sampled → List ℤ → Drawn
said (Ok u) zs = drew zs
said (Err e) zs = dry

-- a value counts only where its draw passes
pub kept_as : {A : Type 0} (b : Bool) (x y : A) (f : ℕ) (out : List A) (f' : ℕ) (out' : List A) → (b ≡ true → x ≡ y) → Is (kept b x f out) f' out'
    → Is (kept b y f out) f' out'
kept_as true x y f out f' out' h k = rw (← h refl) k
kept_as false x y f out f' out' h k = k

module _ {A : Type 0} (none : A) where
  free_set : (f : ℕ) (out : List A) (x : A) → Free none f out → Free none (f + 1) (set out f x)
  free_set f out x F k l = get_or-set_other out f k x none (λ e. omega arith) ∙ F k (omega arith)

  pub kept_free : (b : Bool) (x : A) (f : ℕ) (out : List A) (f' : ℕ) (out' : List A) → Free none f out → Is (kept b x f out) f' out' → Free none f' out'
  kept_free true x f out f' out' F k = rw (k.answers, k.leaves) (free_set f out x F)
  kept_free false x f out f' out' F k = rw (k.answers, k.leaves) F

module _ {A : Type 0} (ok : ℕ → Bool) (means : ℕ → A) where
  abbrev Passing : List ℕ → ℕ → List A
  Passing xs m = passing ok means xs m

  passing_nil : (m : ℕ) → Passing [] m ≡ []
  unfolding passing
  passing_nil zero = refl
  passing_nil (suc m) = refl

  passing_zero : (xs : List ℕ) → Passing xs 0 ≡ []
  unfolding passing
  passing_zero [] = refl
  passing_zero (x ∷ xs) = refl

  passing_cons : (x : ℕ) (xs : List ℕ) (m : ℕ) → Passing (x ∷ xs) (suc m) ≡ pick (ok x) (means x ∷ Passing xs m) (Passing xs (suc m))
  unfolding passing
  passing_cons x xs m = refl

  pub passing_most : (xs : List ℕ) (m : ℕ) → length (Passing xs m) ≤ m
  unfolding passing
  passing_most xs zero = omega (arith, ap length (passing_zero xs))
  passing_most [] (suc m) = omega arith
  passing_most (x ∷ xs) (suc m) = go (ok x) (passing_most xs m) (passing_most xs (suc m))
    where
      go : (b : Bool) → length (passing ok means xs m) ≤ m → length (passing ok means xs (suc m)) ≤ suc m
          → length (pick b (means x ∷ passing ok means xs m) (passing ok means xs (suc m))) ≤ suc m
      go true l k = omega arith
      go false l k = k

  -- the definition draws m coefficients exactly if so many pass, and draws those
  pub first_passing : (f : A → ℤ) (xs : List ℕ) (m : ℕ)
      → first ok (λ v. f (means v)) xs m ≡ pick (eqb (length (Passing xs m)) m) (drew (map f (Passing xs m))) dry
  unfolding first passing
  first_passing f [] zero = refl
  first_passing f (x ∷ xs) zero = refl
  first_passing f [] (suc m) = sym (rw (eqb-zero-suc m))
  first_passing f (x ∷ xs) (suc m) = go (ok x) (first_passing f xs m) (first_passing f xs (suc m))
    where
      F : ℕ → Drawn
      F k = first ok (λ v. f (means v)) xs k

      D : ℕ → List A → Drawn
      D k ys = pick (eqb (length ys) k) (drew (map f ys)) dry

      used : (b : Bool) (ys : List A) → also (f (means x)) (pick b (drew (map f ys)) dry) ≡ pick b (drew (map f (means x ∷ ys))) dry
      used true ys = refl
      used false ys = refl

      go : (b : Bool) → F m ≡ D m (passing ok means xs m) → F (suc m) ≡ D (suc m) (passing ok means xs (suc m))
          → pick b (also (f (means x)) (F m)) (F (suc m)) ≡ D (suc m) (pick b (means x ∷ passing ok means xs m) (passing ok means xs (suc m)))
      go true i j =
          ap (also (f (means x))) i ∙ used (eqb (length (passing ok means xs m)) m) (passing ok means xs m) ∙
          ap (λ (t : Bool). pick t (drew (map f (means x ∷ passing ok means xs m))) dry) (sym (eqb-suc-suc (length (passing ok means xs m)) m))
      go false i j = j

  abbrev Filled : List ℕ → ℕ → ℕ → List A → ℕ × List A
  Filled xs n f out = filled ok means xs n f out

  -- one draw
  pub filled_one : (x : ℕ) (xs : List ℕ) (n f : ℕ) (out : List A) (f' : ℕ) (out' : List A) → f < n → Is (kept (ok x) (means x) f out) f' out'
      → Filled (x ∷ xs) n f out ≡ Filled xs n f' out'
  unfolding filled
  filled_one x xs n f out f' out' l k = go (ok x) (ltb f n) (lt-ltb f n l) k
    where
      go : (b t : Bool) → t ≡ true → Is (kept b (means x) f out) f' out'
          → pick (t && b) (filled ok means xs n (f + 1) (set out f (means x))) (filled ok means xs n f out) ≡ filled ok means xs n f' out'
      go true true e k = rw (k.answers, k.leaves)
      go false true e k = rw (k.answers, k.leaves)
      go true false e k = let z : ◌≡◌ {A = ℕ} 0 1 = cc in absurd (omega arith)
      go false false e k = let z : ◌≡◌ {A = ℕ} 0 1 = cc in absurd (omega arith)

  -- n were found
  pub filled_full : (xs : List ℕ) (n f : ℕ) (out : List A) → n ≤ f → Filled xs n f out ≡ (f, out)
  unfolding filled
  filled_full [] n f out l = refl
  filled_full (x ∷ xs) n f out l = rw (le-ltb f n l) (filled_full xs n f out l)

  -- no draw is left
  pub filled_nil : (n f : ℕ) (out : List A) → Filled [] n f out ≡ (f, out)
  unfolding filled
  filled_nil n f out = refl

  -- some draws, and then others
  pub filled_append : (xs ys : List ℕ) (n f : ℕ) (out : List A) → Filled (xs ++ ys) n f out ≡ Filled ys n (Filled xs n f out).0 (Filled xs n f out).1
  unfolding filled
  filled_append [] ys n f out = refl
  filled_append (x ∷ xs) ys n f out =
      go (ltb f n && ok x) (filled ok means xs n (f + 1) (set out f (means x))) (filled ok means xs n f out)
      (filled_append xs ys n (f + 1) (set out f (means x))) (filled_append xs ys n f out)
    where
      go : (b : Bool) (d e : ℕ × List A) {a c : ℕ × List A} → a ≡ filled ok means ys n d.0 d.1 → c ≡ filled ok means ys n e.0 e.1
          → pick b a c ≡ filled ok means ys n (pick b d e).0 (pick b d e).1
      go true d e h k = h
      go false d e h k = k

  -- what is found goes over what the buffer held from f on
  pub record Passed (f : ℕ) (out zs : List A) (r : ℕ × List A) : Type 0 where
    pub count : r.0 ≡ f + length zs
    pub list : r.1 ≡ take f out ++ (zs ++ drop (f + length zs) out)

  passed_none : (f : ℕ) (out : List A) → Passed f out [] (f, out)
  passed_none f out = record { count = omega arith; list = sym (ap (λ (k : ℕ). take f out ++ drop k out) (add-zero f) ∙ take-append-drop f out) }

  passed_one : (f : ℕ) (out : List A) (z : A) (zs : List A) (r : ℕ × List A) → f < length out → Passed (f + 1) (set out f z) zs r → Passed f out (z ∷ zs) r
  passed_one f out z zs r l P = record {
    count = P.count ∙ omega arith;
    list =
        P.list ∙
        ap₂ (λ (a b : List A). a ++ (zs ++ b)) (ap (λ (k : ℕ). take k (set out f z)) (add-one f) ∙ take-suc-set out f z l)
        (drop-set-lt (f + 1 + length zs) out f z (omega arith) ∙ ap (λ (k : ℕ). drop k out) {x = f + 1 + length zs} {y = f + suc (length zs)} (omega arith)) ∙
        append_snoc (take f out) z (zs ++ drop (f + suc (length zs)) out);
  }

  filled_passed : (xs : List ℕ) (n f : ℕ) (out : List A) → f ≤ n → length out ≡ n → Passed f out (Passing xs (n - f)) (Filled xs n f out)
  unfolding filled
  filled_passed [] n f out l e = rw (passing_nil (n - f)) (passed_none f out)
  filled_passed (x ∷ xs) n f out l e =
      ⊎_elim
      (λ h.
      let m : n - f ≡ suc (n - suc f) = omega arith in
      let k : n - (f + 1) ≡ n - suc f = omega arith in
      let w : f < length out = omega arith in
      let u : f + 1 ≤ n = omega arith in
      let i = filled_passed xs n (f + 1) more u (length-set out f (means x) ∙ e) in
      let a = passed_one f out (means x) (Passing xs (n - suc f)) (Filled xs n (f + 1) more) w (rw k at i) in
      let b = rw m at (filled_passed xs n f out l e) in
      rw (m, passing_cons x xs (n - suc f), lt-ltb f n h) (go (ok x) a b))
      (λ h.
      let m : n - f ≡ 0 = omega arith in
      rw (m, passing_zero (x ∷ xs), le-ltb f n h, filled_full xs n f out h) (passed_none f out))
      (below_or f n)
    where
      more : List A
      more = set out f (means x)

      go : (b : Bool) {c d : List A} {r s : ℕ × List A} → Passed f out c r → Passed f out d s → Passed f out (pick b c d) (pick b r s)
      go true u v = u
      go false u v = v

  module _ (none : A) where
    -- the places behind those that are found stay zeros
    pub filled_free : (xs : List ℕ) (n f : ℕ) (out : List A) → Free none f out → Free none (Filled xs n f out).0 (Filled xs n f out).1
    unfolding filled
    filled_free [] n f out F = F
    filled_free (x ∷ xs) n f out F =
        go (ltb f n && ok x) (filled ok means xs n (f + 1) (set out f (means x))) (filled ok means xs n f out)
        (filled_free xs n (f + 1) (set out f (means x)) (free_set none f out (means x) F)) (filled_free xs n f out F)
      where
        go : (b : Bool) (r s : ℕ × List A) → Free none r.0 r.1 → Free none s.0 s.1 → Free none (pick b r s).0 (pick b r s).1
        go true r s u v = u
        go false r s u v = v

    -- from zeros on: n coefficients were found, or no draw is left and they were not
    module _ (xs : List ℕ) (n : ℕ) where
      abbrev found : List A
      found = passing ok means xs n

      abbrev zeros : List A
      zeros = replicate n none

      gathered_is : (f : ℕ) (out : List A) → Filled xs n 0 zeros ≡ (f, out) → (f ≡ length found) × (out ≡ overlay found zeros)
      gathered_is f out h =
          let z : n - 0 ≡ n = omega arith in
          let P : Passed 0 zeros found (f, out) = rw (z, h) at (filled_passed xs n 0 zeros (omega arith) (length-replicate n none)) in (
            P.count ∙ zero-add (length found),
            P.list ∙ ap₂ ◌++◌ (sym (take_all (length zeros) found (omega (arith, length-replicate n none, passing_most xs n))))
                (ap (λ (k : ℕ). drop k zeros) (zero-add (length found))),
          )

      pub found_all : (ys : List ℕ) (f : ℕ) (out : List A) → Filled ys n f out ≡ Filled xs n 0 zeros → n ≤ f → Is (gathered none n found) (Ok tt) out
      found_all ys f out h l =
          let g = gathered_is f out (sym h ∙ filled_full ys n f out l) in
          record { answers = sym (ap verdict (eq-eqb (length found) n (omega (arith, passing_most xs n)))); leaves = g.1 }

      pub found_some : (f : ℕ) (out : List A) → Filled [] n f out ≡ Filled xs n 0 zeros → f < n → Is (gathered none n found) dry_stream out
      found_some f out h l =
          let g = gathered_is f out (sym h ∙ filled_nil n f out) in
          record { answers = sym (ap verdict (ne_eqb (length found) n (λ z. omega arith))); leaves = g.1 }

      -- and what they are in the definition's terms
      pub tied : (f : A → ℤ) (r : Sampled) (out : List A) → Is (gathered none n found) r out → first ok (λ v. f (means v)) xs n ≡ said r (map f out)
      tied f r out I = rw (I.answers, I.leaves) (first_passing f xs n ∙ go (eqb (length found) n) refl)
        where
          go : (b : Bool) → eqb (length found) n ≡ b → pick b (drew (map f found)) dry ≡ said (verdict b) (map f (overlay found zeros))
          go true t = ap (λ (ys : List A). drew (map f ys)) (sym (overlay_all found zeros (length-replicate n none ∙ sym (eqb-true (length found) n t))))
          go false t = refl
