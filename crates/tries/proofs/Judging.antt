-- A try fails for the first reason that holds, and passes where none does.
use Rattle.std.proofs.Common.{◌≡◌, sym, ap, ◌∙◌, true, List, ℕ, ◌-◌, ◌≤◌, ◌<◌, pos, map, length, get_or, arith, leb}
use borrow.Author.Tests.{le-leb, lt-leb}
use Rattle.sets.specs.Set.{Set}
use Rattle.sets.specs.Good.{Trinomial}
use Rattle.rounding.specs.Rounding.{norm}
use Rattle.shake.specs.Shake.{shake256}
use Rattle.layouts.specs.Hints.{ones}
use Rattle.packing.specs.Parts.{pack_signature}
use Rattle.ring.specs.Profile.{mul}
use Rattle.sampling.specs.Samplers.{Drawn, drew, dry}
use Rattle.streams.specs.Streams.{expand_c}
use Rattle.workspace.specs.declared.Place.{Place}
use Rattle.workspace.specs.declared.Place.TheVariants as place
use Rattle.workspace.specs.Inner.{slot}
use Rattle.scheme.specs.Elements.{highs, lows}
use Rattle.scheme.specs.Try.{passes, fails, ChallengeDry, ZLarge, LowLarge, Ct0Large, ManyOnes, Signer, commit, response, masked, hints, judged, try}
use Rattle.scheme.specs.Sign.{first_pass}
use Rattle.tries.specs.Inner.{y_of, w_of, Passes}
use Rattle.tries.proofs.Norms.{size_of, low_size, Below, below_place, norm_large, norm_small, sizes, sizes_centred, sizes_low}
use Rattle.tries.proofs.Trying.{first_stop, Begun, Reached, hint_values}

judge : (p : Set) (S : Signer) (κ : ℕ) {c~ : List ℕ} (d : Drawn) → c~ ≡ commit p shake256 S.mu (highs p (w_of p S κ)) → expand_c p shake256 c~ ≡ d
    → try p shake256 S κ ≡ judged p S (y_of p S κ) (w_of p S κ) c~ d
unfolding try
judge p S κ {c~} d e f =
    ap (λ (x : List ℕ). judged p S (y_of p S κ) (w_of p S κ) x (expand_c p shake256 x)) (sym e) ∙
    ap (λ (x : Drawn). judged p S (y_of p S κ) (w_of p S κ) c~ x) f

module _ {p : Set} {S : Signer} {κ : ℕ} {work c~ : List ℕ} {size : ℕ} where
  pub fails_dry : Begun p S κ work c~ size → expand_c p shake256 c~ ≡ dry → try p shake256 S κ ≡ fails ChallengeDry
  unfolding judged
  fails_dry B d = judge p S κ dry B.is d

  module _ {k : Place} (D : Reached p S κ k work c~ size) where
    -- ---- what the tests say that have been passed
    abbrev pub ZSmall : Type 0
    ZSmall = norm p.q (response p S (y_of p S κ) D.c) < p.gamma1 - p.beta

    abbrev pub LowSmall : Type 0
    LowSmall = norm p.q (lows p (masked p S (w_of p S κ) D.c)) < p.gamma2 - p.beta

    abbrev pub Ct0Small : Type 0
    Ct0Small = norm p.q (mul p D.c S.t0) < p.gamma2

    -- ---- what the one says that is not
    fails_z : leb (p.gamma1 - p.beta) (norm p.q (response p S (y_of p S κ) D.c)) ≡ true → try p shake256 S κ ≡ fails ZLarge
    unfolding judged
    fails_z b = judge p S κ (drew D.c) D.is D.drawn ∙ rw b

    module _ (z : ZSmall) where
      fails_low : leb (p.gamma2 - p.beta) (norm p.q (lows p (masked p S (w_of p S κ) D.c))) ≡ true → try p shake256 S κ ≡ fails LowLarge
      unfolding judged
      fails_low b = judge p S κ (drew D.c) D.is D.drawn ∙ rw (lt-leb _ _ z, b)

      module _ (l : LowSmall) where
        fails_ct0 : leb p.gamma2 (norm p.q (mul p D.c S.t0)) ≡ true → try p shake256 S κ ≡ fails Ct0Large
        unfolding judged
        fails_ct0 b = judge p S κ (drew D.c) D.is D.drawn ∙ rw (lt-leb _ _ z, lt-leb _ _ l, b)

        module _ (o : Ct0Small) where
          fails_ones : p.omega < ones (hints p S (w_of p S κ) D.c) → try p shake256 S κ ≡ fails ManyOnes
          unfolding judged
          fails_ones b = judge p S κ (drew D.c) D.is D.drawn ∙ rw (lt-leb _ _ z, lt-leb _ _ l, lt-leb _ _ o, lt-leb _ _ b)

          does_pass : ones (hints p S (w_of p S κ) D.c) ≤ p.omega
              → try p shake256 S κ ≡ passes (pack_signature p record { c~ = c~; z = response p S (y_of p S κ) D.c; h = hints p S (w_of p S κ) D.c })
          unfolding judged
          does_pass b = judge p S κ (drew D.c) D.is D.drawn ∙ rw (lt-leb _ _ z, lt-leb _ _ l, lt-leb _ _ o, le-leb _ _ b)

-- ---- the same by the numbers that the code reads: xs is what it reads of the place, all of which or up to one of which are small
pub each_below : {p : Set} → Trinomial p → {S : Signer} {κ : ℕ} {k : Place} {work c~ xs : List ℕ} {size : ℕ} → Reached p S κ k work c~ size → xs ≡ slot p k work
    → (i : ℕ) → get_or xs i 0 < p.q
each_below {p} T {k = k} D e i = below_place p T e (D.held k (omega arith)) i

module _ {p : Set} (T : Trinomial p) {S : Signer} {κ : ℕ} {work c~ xs : List ℕ} {size : ℕ} where
  module _ (D : Reached p S κ place.Z work c~ size) (e : xs ≡ slot p place.Z work) where
    pub z_small : {i : ℕ} → Below (size_of p) (p.gamma1 - p.beta) xs i → length xs ≤ i → ZSmall D
    z_small h l = norm_small (sizes_centred p T e (D.held place.Z (omega arith))) _ (omega (arith, T.good.beta1)) (λ t m. h t (omega arith))

    pub z_large : (i : ℕ) → i < length xs → p.gamma1 - p.beta ≤ size_of p (get_or xs i 0) → try p shake256 S κ ≡ fails ZLarge
    z_large i l h = fails_z D (norm_large (sizes_centred p T e (D.held place.Z (omega arith))) _ i l h)

  module _ (D : Reached p S κ place.Rest work c~ size) (e : xs ≡ slot p place.Rest work) where
    pub low_small : {i : ℕ} → Below (low_size p) (p.gamma2 - p.beta) xs i → length xs ≤ i → LowSmall D
    low_small h l = norm_small (sizes_low p T e (D.held place.Rest (omega arith))) _ (omega (arith, T.good.beta2)) (λ t m. h t (omega arith))

    pub low_large : ZSmall D → (i : ℕ) → i < length xs → p.gamma2 - p.beta ≤ low_size p (get_or xs i 0) → try p shake256 S κ ≡ fails LowLarge
    low_large z i l h = fails_low D z (norm_large (sizes_low p T e (D.held place.Rest (omega arith))) _ i l h)

  module _ (D : Reached p S κ place.Ct0 work c~ size) (e : xs ≡ slot p place.Ct0 work) where
    pub ct0_small : {i : ℕ} → Below (size_of p) p.gamma2 xs i → length xs ≤ i → Ct0Small D
    ct0_small h l = norm_small (sizes p T e (D.held place.Ct0 (omega arith))) _ (omega (arith, T.good.beta2)) (λ t m. h t (omega arith))

    pub ct0_large : ZSmall D → LowSmall D → (i : ℕ) → i < length xs → p.gamma2 ≤ size_of p (get_or xs i 0) → try p shake256 S κ ≡ fails Ct0Large
    ct0_large z s i l h = fails_ct0 D z s (norm_large (sizes p T e (D.held place.Ct0 (omega arith))) _ i l h)

-- ---- and by the count of the hints' ones
module _ {p : Set} (T : Trinomial p) {S : Signer} {κ : ℕ} {work c~ : List ℕ} {size count : ℕ} (D : Reached p S κ place.Hints work c~ size) (z : ZSmall D)
    (l : LowSmall D) (o : Ct0Small D) (e : count ≡ ones (map pos (slot p place.Hints work))) where
  counted : ones (hints p S (w_of p S κ) D.c) ≡ count
  counted = ap ones (sym (hint_values T D)) ∙ sym e

  pub ones_many : p.omega < count → try p shake256 S κ ≡ fails ManyOnes
  ones_many b = fails_ones D z l o (omega (arith, counted))

  pub passing : {limit : ℕ} → κ < limit → first_pass (try p shake256 S) κ (limit - κ) ≡ first_pass (try p shake256 S) 0 limit → count ≤ p.omega → Passes p S limit κ work c~
  passing {limit} m rest b = record {
    below = m;
    c = D.c;
    held = D.held;
    small = z;
    found = sym rest ∙ first_stop (try p shake256 S) κ limit _ m (does_pass D z l o (omega (arith, counted)));
  }
