-- The memory of signing from stage to stage: what it holds, and what the next stage adds.
use Rattle.std.proofs.Common.{◌≡◌, refl, sym, ap, ap₂, subst, ◌∙◌, List, [], ◌∷◌, ◌++◌, map, ℕ, suc, ◌≤◌, ◌<◌, arith, lit≤, lit<, ℤ, length, get_or, drop}
use native.Mathlib.Decide.{ℕ_discrete}
use Rattle.std.proofs.Math.ListN.{length-map, get_or-append}
use Rattle.sets.specs.Set.{Set}
use Rattle.sets.specs.Good.{Trinomial}
use Rattle.residues.specs.Remainder.{residue, signed}
use Rattle.residues.proofs.Centres.{residue_signed}
use Rattle.rounding.proofs.Congruent.{q_pos}
use Rattle.ring.specs.Profile.{mul}
use Rattle.ring.specs.Inner.{Residues}
use Rattle.shake.specs.Shake.{shake256}
use Rattle.streams.specs.Streams.{expand_y}
use Rattle.scheme.specs.Try.{Signer}
use Rattle.workspace.specs.declared.Place.{Place}
use Rattle.workspace.specs.declared.Place.TheVariants as place
use Rattle.workspace.specs.declared.arithmetic.Op.TheVariants as op
use Rattle.workspace.specs.Inner.{element, at, slot, Room, Touched, Holds, Ready, values, Made, made}
use Rattle.workspace.proofs.Holding.{residues_of, own, holds_kept}
use Rattle.tries.specs.Inner.{signer_in, y_of, w_of, elements, element_at, Through}

module _ (p : Set) (S : Signer) where
  -- ---- what is kept, and one place more
  pub through_kept : (κ : ℕ) (c : List ℤ) {x : Place} {work more : List ℕ} (k : Place) → Touched p x work more → at k < at x → Through p S κ c k work → Through p S κ c k more
  through_kept κ c k t l u j m = holds_kept t (λ e. omega arith) (u j m)

  -- the same element under another name
  renamed : (κ : ℕ) (c : List ℤ) {work : List ℕ} (x j : Place) → at j ≡ at x → Holds p x (element_at p S κ c x) work → Holds p j (element_at p S κ c j) work
  renamed κ c {work} x j y h = record {
    long = ap (λ (i : ℕ). length (get_or (elements p S κ c) i [])) y ∙ h.long;
    here =
        ap (λ (i : ℕ). element p.n i work) y ∙ h.here ∙
        ap (λ (i : ℕ). map (residue p.q) (get_or (elements p S κ c) i [])) (sym y);
  }

  pub through_first : (κ : ℕ) (c : List ℤ) {work : List ℕ} (x : Place) → at x ≡ 0 → Holds p x (element_at p S κ c x) work → Through p S κ c x work
  through_first κ c x e h j l = renamed κ c x j (omega arith) h

  pub through_next : (κ : ℕ) (c : List ℤ) {work more : List ℕ} (k x : Place) → at x ≡ suc (at k) → Touched p x work more → Through p S κ c k work
      → Holds p x (element_at p S κ c x) more → Through p S κ c x more
  through_next κ c {work} {more} k x e t u h j l = go (ℕ_discrete (at j) (at x))
    where
      go : Dec (at j ≡ at x) → Holds p j (element_at p S κ c j) more
      go (yes y) = renamed κ c x j y h
      go (no y) = holds_kept t y (u j (omega arith))

  pub through_less : (κ : ℕ) (c : List ℤ) {work : List ℕ} (k i : Place) → at i ≤ at k → Through p S κ c k work → Through p S κ c i work
  through_less κ c k i l u j m = u j (omega arith)

  -- the key's elements are those of every try, and those before the challenge are those of every challenge
  same_front : (front xs ys : List (List ℤ)) (i : ℕ) → i < length front → get_or (front ++ xs) i [] ≡ get_or (front ++ ys) i []
  same_front front xs ys i l = get_or-append front xs [] i l ∙ sym (get_or-append front ys [] i l)

  become : {j : Place} {a b : List ℤ} {work : List ℕ} → a ≡ b → Holds p j a work → Holds p j b work
  become {j} {work = work} e h = subst (λ (a : List ℤ). Holds p j a work) e h

  pub through_key : (κ κ' : ℕ) (c c' : List ℤ) {work : List ℕ} → Through p S κ c place.T0 work → Through p S κ' c' place.T0 work
  through_key κ κ' c c' u j l =
      become (same_front (S.a ∷ S.s1 ∷ S.s2 ∷ S.t0 ∷ []) (drop 4 (elements p S κ c)) (drop 4 (elements p S κ' c')) (at j) (omega arith)) (u j l)

  pub through_challenge : (κ : ℕ) (c c' : List ℤ) {work : List ℕ} → Through p S κ c place.W work → Through p S κ c' place.W work
  through_challenge κ c c' u j l =
      become (same_front (S.a ∷ S.s1 ∷ S.s2 ∷ S.t0 ∷ y_of p S κ ∷ w_of p S κ ∷ []) (drop 6 (elements p S κ c)) (drop 6 (elements p S κ c')) (at j) (omega arith)) (u j l)

  pub through_ready : Trinomial p → (κ : ℕ) (c : List ℤ) (k : Place) {work : List ℕ} → Room p work → Through p S κ c k work → Ready p k work
  through_ready T κ c k r u = record { room = r; each = λ j l. residues_of p T.good (u j l) }

  -- ---- y and w, z, w - c·s2, c·t0 and the hints
  pub stage_y : (κ : ℕ) (ρ : List ℕ) {work more : List ℕ} → S.rho ≡ ρ → Through p S κ [] place.T0 work → Touched p place.Y work more
      → Holds p place.Y (expand_y p shake256 ρ κ) more → Through p S κ [] place.Y more
  stage_y κ ρ e u t h = through_next κ [] place.T0 place.Y refl t u (become (ap (λ (x : List ℕ). expand_y p shake256 x κ) (sym e)) h)

  pub stage_w : (κ : ℕ) {work more : List ℕ} → Through p S κ [] place.Y work → Made p place.A place.Y place.W (mul p) work more → Through p S κ [] place.W more
  stage_w κ u m = through_next κ [] place.Y place.W refl m.touched u (m.here _ _ (u place.A (lit≤ tt)) (u place.Y (lit≤ tt)))

  module _ (κ : ℕ) (c : List ℤ) {work more : List ℕ} where
    pub stage_c : Through p S κ [] place.W work → Touched p place.C work more → Holds p place.C c more → Through p S κ c place.C more
    stage_c u t h = through_next κ c place.W place.C refl t (through_challenge κ [] c u) h

    pub stage_z : {last : List ℕ} → Through p S κ c place.C work → Made p place.C place.S1 place.Z (mul p) work more
        → Made p place.Y place.Z place.Z (made p op.Sum) more last → Through p S κ c place.Z last
    stage_z u m n =
        through_next κ c place.C place.Z refl n.touched (through_kept κ c place.C m.touched (lit< tt) u)
        (n.here _ _ (holds_kept m.touched (λ e. omega arith) (u place.Y (lit≤ tt))) (m.here _ _ (u place.C (lit≤ tt)) (u place.S1 (lit≤ tt))))

    pub stage_rest : {last : List ℕ} → Through p S κ c place.Z work → Made p place.C place.S2 place.Rest (mul p) work more
        → Made p place.W place.Rest place.Rest (made p op.Difference) more last → Through p S κ c place.Rest last
    stage_rest u m n =
        through_next κ c place.Z place.Rest refl n.touched (through_kept κ c place.Z m.touched (lit< tt) u)
        (n.here _ _ (holds_kept m.touched (λ e. omega arith) (u place.W (lit≤ tt))) (m.here _ _ (u place.C (lit≤ tt)) (u place.S2 (lit≤ tt))))

    pub stage_ct0 : Through p S κ c place.Rest work → Made p place.C place.T0 place.Ct0 (mul p) work more → Through p S κ c place.Ct0 more
    stage_ct0 u m = through_next κ c place.Rest place.Ct0 refl m.touched u (m.here _ _ (u place.C (lit≤ tt)) (u place.T0 (lit≤ tt)))

    pub stage_hints : Through p S κ c place.Ct0 work → Made p place.Rest place.Ct0 place.Hints (made p op.Hint) work more → Through p S κ c place.Hints more
    stage_hints u m = through_next κ c place.Ct0 place.Hints refl m.touched u (m.here _ _ (u place.Rest (lit≤ tt)) (u place.Ct0 (lit≤ tt)))

-- ---- the key of a memory lies in it
module _ (p : Set) (T : Trinomial p) (work : List ℕ) where
  map_back : (xs : List ℕ) → ((k : ℕ) → get_or xs k 0 < p.q) → xs ≡ map (residue p.q) (map (signed p.q) xs)
  map_back [] b = refl
  map_back (x ∷ xs) b = ap₂ ◌∷◌ (sym (residue_signed p.q (q_pos p T.good) x (b 0))) (map_back xs (λ k. b (suc k)))

  own_signed : (k : Place) → Residues p (slot p k work) → Holds p k (values p k work) work
  own_signed k r = record { long = length-map (slot p k work) (signed p.q) ∙ r.long; here = map_back (slot p k work) r.each }

  -- nothing has changed
  same : (k : Place) → Touched p k work work
  same k = record { long = refl; kept = λ j d. refl }

  pub through_signer : (μ ρ : List ℕ) → Ready p place.T0 work → (κ : ℕ) (c : List ℤ) → Through p (signer_in p work μ ρ) κ c place.T0 work
  through_signer μ ρ R κ c =
      let S = signer_in p work μ ρ in
      through_next p S κ c place.S2 place.T0 refl (same place.T0)
      (through_next p S κ c place.S1 place.S2 refl (same place.S2)
      (through_next p S κ c place.A place.S1 refl (same place.S1)
      (through_first p S κ c place.A refl (own p T.good place.A work (R.each place.A (lit≤ tt))))
      (own_signed place.S1 (R.each place.S1 (lit≤ tt))))
      (own_signed place.S2 (R.each place.S2 (lit≤ tt))))
      (own_signed place.T0 (R.each place.T0 (lit≤ tt)))
