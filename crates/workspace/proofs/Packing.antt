-- Places whose values a layout keeps: they can be packed, and as whole numbers they are what the place holds.
use mathlib.Core.Path.{◌≡◌, refl, sym, ap, subst, ◌∙◌}
use mathlib.Core.Bool.{true}
use mathlib.Core.List.{List, [], ◌∷◌, map}
use Prim.Native.Nat.{ℕ, zero, suc, ◌-◌, ◌*◌, ◌≤◌, ◌<◌}
use native.Mathlib.Omega.{arith}
use lib.IntN.{ℤ, pos, nat_abs}
use lib.ListN.{length, get_or, length-map}
use Rattle.sets.specs.Set.{Set, steps}
use Rattle.sets.specs.Good.{Trinomial}
use Rattle.answers.specs.declared.Refusal.{Refusal}
use Rattle.answers.specs.Result.{done}
use Rattle.residues.specs.Remainder.{residue, signed, centred, magnitude}
use Rattle.residues.proofs.Centres.{residue_centred, centred_again}
use Rattle.rounding.specs.Rounding.{high_bits, make_hint, use_hint, power2_round, norm}
use Rattle.rounding.proofs.Hints.{use_lt}
use Rattle.rounding.proofs.Congruent.{q_pos}
use Rattle.rounding.proofs.Norms.{norm_each}
use Rattle.ring.specs.Ring.{at}
use Rattle.ring.proofs.Lists.{length_tab, at_tab, map_tab, tab_cong, is_tab}
use Rattle.ring.proofs.Signed.{at_reduced}
use Rattle.layouts.specs.declared.layout.Layout.{Layout}
use Rattle.packing.specs.declared.parts.Part.{Part}
use Rattle.layouts.specs.Layouts.{t1_layout, t0_layout, s_layout, z_layout, w1_layout, hint_layout, code, holds, size, unpack}
use Rattle.packing.specs.Parts.{total, parts_of}
use Rattle.layouts.specs.Inner.{Readable}
use Rattle.packing.specs.Inner.{size_in}
use Rattle.layouts.proofs.Kept.{Kept, kept_plain, holds_of}
use Rattle.layouts.proofs.Elements.{Element, was_read}
use Rattle.layouts.proofs.Reading.{means_small}
use Rattle.layouts.proofs.Room.{t1_readable, t0_readable, s_readable, z_readable, w1_readable, hint_readable}
use Rattle.sampling.proofs.Drawing.{Each, Small}
use Rattle.scheme.specs.Elements.{centring, highs, power_highs, power_lows, make_hints, use_hints}
use Rattle.scheme.proofs.Allowed.{kept_s, kept_z, kept_t1, kept_t0, kept_w1, kept_hint}
use Rattle.workspace.specs.declared.Place.{Place}
use Rattle.workspace.specs.Inner.{slot, Room, Holds, values, Packable}
use Rattle.workspace.proofs.Making.{small_back}
use Rattle.workspace.proofs.Holding.{residues_of}

at_mapped : (f : ℕ → ℤ) (xs : List ℕ) (k : ℕ) → k < length xs → at (map f xs) k ≡ f (get_or xs k 0)
at_mapped f [] k l = absurd (omega arith)
at_mapped f (x ∷ xs) zero l = refl
at_mapped f (x ∷ xs) (suc k) l = at_mapped f xs k (omega arith)

pub record Back (p : Set) (L : Layout) (k : Place) (a : List ℤ) (work : List ℕ) : Type 0 where
  pub packable : Packable p L k work
  pub same : values p k work ≡ a

module _ (p : Set) (T : Trinomial p) where
  module _ (L : Layout) (R : Readable L p.q) {k : Place} {a : List ℤ} {work : List ℕ} (E : Element L p.n a) (H : Holds p k a work) where
    small : (i : ℕ) → i < p.n → 2 * nat_abs (at a i) < p.q
    small i l =
        let K = E.kept i l in
        subst (λ (z : ℤ). 2 * nat_abs z < p.q) K.back (means_small L p.q R (code L (at a i)) K.allowed)

    again : values p k work ≡ a
    again = ap (map (signed p.q)) H.here ∙ small_back p T a E.long small

    each_allowed : (i : ℕ) → i < p.n → holds L (signed p.q (get_or (slot p k work) i 0)) ≡ true
    each_allowed i l =
        ap (holds L)
        (sym (at_mapped (signed p.q) (slot p k work) i (omega (arith, (residues_of p T.good H).long))) ∙ ap (λ (xs : List ℤ). at xs i) again) ∙
        holds_of L (at a i) (E.kept i l)

    pub back : Back p L k a work
    back = record { packable = record { residues = residues_of p T.good H; allowed = each_allowed }; same = again }

  module _ {k : Place} {work : List ℕ} where
    pub back_s : {s : List ℤ} → Each (Small p.eta) p.n s → Holds p k s work → Back p (s_layout p) k s work
    back_s {s} E = back (s_layout p) (s_readable p T.good) (record { long = E.long; kept = λ i l. kept_s p T.good (at s i) (E.each i l) })

    module _ (t : List ℤ) where
      pub back_t1 : Holds p k (power_highs p t) work → Back p (t1_layout p) k (power_highs p t) work
      back_t1 =
          back (t1_layout p) (t1_readable p T.good)
          (record {
            long = length_tab p.n (λ i. pos (power2_round p (at t i)).high);
            kept = λ i l. rw (at_tab (pos 0) p.n (λ i. pos (power2_round p (at t i)).high) i l) (kept_t1 p T.good (at t i));
          })

      pub back_t0 : Holds p k (power_lows p t) work → Back p (t0_layout p) k (power_lows p t) work
      back_t0 =
          back (t0_layout p) (t0_readable p T.good)
          (record {
            long = length_tab p.n (λ i. (power2_round p (at t i)).low);
            kept = λ i l. rw (at_tab (pos 0) p.n (λ i. (power2_round p (at t i)).low) i l) (kept_t0 p T.good (at t i));
          })

      pub back_highs : Holds p k (highs p t) work → Back p (w1_layout p) k (highs p t) work
      back_highs =
          back (w1_layout p) (w1_readable p T.good)
          (record {
            long = length_tab p.n (λ i. pos (high_bits p (at t i)));
            kept = λ i l. rw (at_tab (pos 0) p.n (λ i. pos (high_bits p (at t i))) i l) (kept_w1 p T.good (at t i));
          })

  -- z, which the place holds before it is centred
  module _ {k : Place} {a : List ℤ} {work : List ℕ} (H : Holds p k a work) where
    centred_held : Holds p k (centring p a) work
    centred_held = record { long = length_tab p.n _; here = H.here ∙ sym centred_residues }
      where
        centred_residues : map (residue p.q) (centring p a) ≡ map (residue p.q) a
        centred_residues =
            map_tab (residue p.q) p.n (λ i. centred p.q (at a i)) ∙
            tab_cong p.n _ _ (λ i l. residue_centred p.q (q_pos p T.good) (at a i)) ∙
            sym (is_tab 0 (map (residue p.q) a) p.n (λ i. residue p.q (at a i)) (length-map a (residue p.q) ∙ H.long)
            (λ i l. at_reduced p T a i (omega (arith, H.long))))

    z_kept : norm p.q (centring p a) < p.gamma1 - p.beta → (i : ℕ) → i < p.n → Kept (z_layout p) (at (centring p a) i)
    z_kept small i l =
        kept_z p T.good (at (centring p a) i)
        (let m = norm_each p.q (centring p a) i (omega (arith, length_tab p.n (λ t. centred p.q (at a t)))) in
        let e : magnitude p.q (at (centring p a) i) ≡ nat_abs (at (centring p a) i) =
        ap nat_abs (ap (centred p.q) at_i ∙ centred_again p.q (q_pos p T.good) (at a i) ∙ sym at_i) in
        omega arith)
      where
        at_i : at (centring p a) i ≡ centred p.q (at a i)
        at_i = at_tab (pos 0) p.n (λ t. centred p.q (at a t)) i l

    pub back_z : norm p.q (centring p a) < p.gamma1 - p.beta → Back p (z_layout p) k (centring p a) work
    back_z small = back (z_layout p) (z_readable p T.good) (record { long = length_tab p.n _; kept = z_kept small }) centred_held

  pub back_used : {k : Place} {work : List ℕ} (h r : List ℤ) → Holds p k (use_hints p h r) work → Back p (w1_layout p) k (use_hints p h r) work
  back_used h r =
      back (w1_layout p) R
      (record {
        long = length_tab p.n (λ i. pos (used i));
        kept = λ i l. rw (at_tab (pos 0) p.n (λ i. pos (used i)) i l) (kept_plain p.w1bits (steps p - 1) (used i) R.fits (most i));
      })
    where
      R : Readable (w1_layout p) p.q
      R = w1_readable p T.good

      used : ℕ → ℕ
      used i = use_hint p (nat_abs (at h i)) (at r i)

      most : (i : ℕ) → used i ≤ steps p - 1
      most i = let l = use_lt p T.good (nat_abs (at h i)) (at r i) in omega arith

  pub back_hints : {k : Place} {work : List ℕ} (z r : List ℤ) → Holds p k (make_hints p z r) work → Back p hint_layout k (make_hints p z r) work
  back_hints z r =
      back hint_layout (hint_readable p T.good)
      (record {
        long = length_tab p.n (λ i. pos (make_hint p (at z i) (at r i)));
        kept = λ i l. rw (at_tab (pos 0) p.n (λ i. pos (make_hint p (at z i) (at r i))) i l) (kept_hint p T.good (at z i) (at r i));
      })

  -- values that were unpacked
  pub back_read : (L : Layout) → Readable L p.q → (refusal : ℕ → Refusal) (bs : List ℕ) {k : Place} {a : List ℤ} {work : List ℕ}
      → unpack L refusal p.n bs ≡ done a → Holds p k a work → Back p L k a work
  back_read L R refusal bs {a = a} e H = back L R (was_read L p.n refusal bs a e).element H
