-- The steps of the challenge.
use mathlib.Core.Path.{◌≡◌, refl, sym, ap, ◌∙◌}
use mathlib.Core.Bool.{Bool, true, false}
use mathlib.Core.List.{List, [], ◌∷◌, ◌++◌}
use Prim.Native.Nat.{ℕ, zero, suc, ◌+◌, ◌-◌, ◌/◌, ◌%◌, ◌≤◌, ◌<◌}
use native.Mathlib.Omega.{arith}
use borrow.Author.Tests.{le-leb, lt-leb, ne_eqb}
use lib.Dec.{leb, eqb, eqb-suc-zero}
use lib.IntN.{ℤ, pos}
use lib.ListN.{set, get_or}
use Rattle.outcome.specs.Outcome.{Is}
use Rattle.answers.specs.Result.{pick}
use Rattle.sampling.specs.Samplers.{Drawn, dry, drew, sign, placed}
use Rattle.std.specs.Prelude.{Ok}
use Rattle.sampling.specs.Inner.{dry_stream, verdict, placing, placed_all}

-- the definition draws an element exactly if no step is left
pub placed_placing : (js : List ℕ) (m i signs : ℕ) (c : List ℤ)
    → placed js m i signs c ≡ pick (eqb (placing js m i signs c).0 0) (drew (placing js m i signs c).1) dry
unfolding placed placing
placed_placing [] zero i signs c = refl
placed_placing (j ∷ js) zero i signs c = refl
placed_placing [] (suc m) i signs c = sym (ap (λ (b : Bool). pick b (drew c) dry) (eqb-suc-zero m))
placed_placing (j ∷ js) (suc m) i signs c =
    go (leb j i) (placing js m (i + 1) (signs / 2) more) (placing js (suc m) i signs c)
    (placed_placing js m (i + 1) (signs / 2) more) (placed_placing js (suc m) i signs c)
  where
    more : List ℤ
    more = set (set c i (get_or c j (pos 0))) j (sign (signs % 2))

    go : (b : Bool) (r s : ℕ × List ℤ) {d e : Drawn} → d ≡ pick (eqb r.0 0) (drew r.1) dry → e ≡ pick (eqb s.0 0) (drew s.1) dry
        → pick b d e ≡ pick (eqb (pick b r s).0 0) (drew (pick b r s).1) dry
    go true r s h k = h
    go false r s h k = k

-- draws past place i, which are drawn again
abbrev pub Past : ℕ → List ℕ → Type 0
Past i [] = Unit {0}
Past i (j ∷ js) = (i < j) × Past i js

-- ---- one step after the other, up to place n
module _ (n : ℕ) where
  abbrev Placing : List ℕ → ℕ → ℕ → List ℤ → ℕ × List ℤ
  Placing js i signs c = placing js (n - i) i signs c

  -- a draw that is used, and one that is drawn again
  pub placing_used : (j : ℕ) (js : List ℕ) (i signs : ℕ) (c : List ℤ) → i < n → j ≤ i
      → Placing (j ∷ js) i signs c ≡ Placing js (i + 1) (signs / 2) (set (set c i (get_or c j (pos 0))) j (sign (signs % 2)))
  unfolding placing
  placing_used j js i signs c l h =
      let m : n - i ≡ suc (n - (i + 1)) = omega arith in
      rw (m, le-leb j i h)

  pub placing_again : (j : ℕ) (js : List ℕ) (i signs : ℕ) (c : List ℤ) → i < n → i < j → Placing (j ∷ js) i signs c ≡ Placing js i signs c
  unfolding placing
  placing_again j js i signs c l h =
      let m : n - i ≡ suc (n - (i + 1)) = omega arith in
      rw (m, lt-leb j i h)

  pub placing_past : (xs js : List ℕ) (i signs : ℕ) (c : List ℤ) → i < n → Past i xs → Placing (xs ++ js) i signs c ≡ Placing js i signs c
  placing_past [] js i signs c l h = refl
  placing_past (x ∷ xs) js i signs c l h = placing_again x (xs ++ js) i signs c l h.0 ∙ placing_past xs js i signs c l h.1

  -- every step is done
  pub placing_full : (js : List ℕ) (i signs : ℕ) (c : List ℤ) → n ≤ i → Placing js i signs c ≡ (0, c)
  unfolding placing
  placing_full js i signs c l = let m : n - i ≡ 0 = omega arith in rw m (done js)
    where
      done : (js : List ℕ) → placing js 0 i signs c ≡ (0, c)
      done [] = refl
      done (j ∷ js) = refl

  -- no draw is left, and the signs do not matter then
  pub placing_signs : (m i signs signs' : ℕ) (c : List ℤ) → placing [] m i signs c ≡ placing [] m i signs' c
  unfolding placing
  placing_signs zero i signs signs' c = refl
  placing_signs (suc m) i signs signs' c = refl

  pub placing_nil : (i signs : ℕ) (c : List ℤ) → i < n → Placing [] i signs c ≡ (n - i, c)
  unfolding placing
  placing_nil i signs c l = let m : n - i ≡ suc (n - suc i) = omega arith in rw m refl

  module _ (W : ℕ × List ℤ) where
    pub placed_all_lem : (js : List ℕ) (i signs : ℕ) (c : List ℤ) → Placing js i signs c ≡ W → n ≤ i → Is (placed_all W) (Ok tt) c
    placed_all_lem js i signs c h l = let e = sym (placing_full js i signs c l) ∙ h in record { answers = ap (λ (r : ℕ × List ℤ). verdict (eqb r.0 0)) e; leaves = ap (λ (r : ℕ × List ℤ). r.1) e }

    pub placed_some : (i signs : ℕ) (c : List ℤ) → Placing [] i signs c ≡ W → i < n → Is (placed_all W) dry_stream c
    placed_some i signs c h l =
        let e = sym (placing_nil i signs c l) ∙ h in
        record {
          answers = sym (ap verdict (ne_eqb (n - i) 0 (λ z. omega arith))) ∙ ap (λ (r : ℕ × List ℤ). verdict (eqb r.0 0)) e;
          leaves = ap (λ (r : ℕ × List ℤ). r.1) e;
        }
