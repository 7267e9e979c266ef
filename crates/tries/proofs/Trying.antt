-- The tries: what holds at the head of each, and what each end of it gives.
use Rattle.std.proofs.Common.{◌≡◌, refl, sym, ap, subst, ◌∙◌, List, [], map, ℕ, suc, ◌+◌, ◌-◌, ◌*◌, ◌≤◌, ◌<◌, add-one, arith, ℤ, pos, length, get_or, ⊎_elim, true, false, Ok, Err, is_err}
use Rattle.std.proofs.Math.Nat.{sub-zero}
use Rattle.sets.specs.Set.{Set}
use Rattle.sets.specs.Good.{Trinomial}
use Rattle.answers.specs.declared.Refusal.TheVariants.{Spent}
use Rattle.answers.specs.Result.{done, refused}
use Rattle.answers.proofs.Results.{not_done}
use Rattle.residues.specs.Remainder.{residue}
use Rattle.residues.proofs.Remainders.{residue_small}
use Rattle.residues.proofs.Order.{below_or}
use Rattle.rounding.specs.Rounding.{make_hint}
use Rattle.rounding.proofs.Congruent.{q_pos, q_wide}
use Rattle.rounding.proofs.Hints.{bit}
use Rattle.shake.specs.Shake.{shake256}
use Rattle.ring.specs.Ring.{at as coefficient, tab}
use Rattle.ring.specs.Profile.{mul}
use Rattle.ring.specs.Inner.{Residues}
use Rattle.ring.proofs.Lists.{map_tab, tab_cong, at_tab, past_tab}
use Rattle.sampling.specs.Samplers.{Drawn, drew, dry, drawn}
use Rattle.streams.specs.Streams.{expand_c}
use Rattle.sampling.proofs.Drawing.{drawn_done}
use Rattle.answers.specs.declared.Refusal.{Refusal}
use Rattle.answers.specs.Refusals.{Answer}
use Rattle.workspace.specs.declared.Place.{Place}
use Rattle.workspace.specs.declared.Place.TheVariants as place
use Rattle.workspace.specs.Inner.{at, slot, Touched, Holds, Ready, Fills}
use Rattle.workspace.proofs.Holding.{residues_of}
use Rattle.scheme.specs.Elements.{plus, negated, highs, make_hints}
use Rattle.scheme.specs.Try.{Try, passes, fails, Reason, ChallengeDry, Signer, commit, masked, hints, try}
use Rattle.scheme.specs.Sign.{first_pass, or_next}
use Rattle.tries.specs.Inner.{signer_in, w_of, Through}
use Rattle.tries.proofs.Stages.{through_kept, through_key, through_less, through_signer, through_ready, stage_c}

-- ---- the first try that passes
module _ (t : ℕ → Try) (next limit : ℕ) where
  pub first_on : (r : Reason) → next < limit → t next ≡ fails r → first_pass t next (limit - next) ≡ first_pass t (next + 1) (limit - (next + 1))
  unfolding first_pass
  first_on r l e =
      ap (first_pass t next) {x = limit - next} {y = suc (limit - (next + 1))} (omega arith) ∙
      ap (λ (x : Try). or_next x next (first_pass t (suc next) (limit - (next + 1)))) e ∙
      ap (λ (k : ℕ). first_pass t k (limit - (next + 1))) (sym (add-one next))

  pub first_stop : (σ : List ℕ) → next < limit → t next ≡ passes σ → first_pass t next (limit - next) ≡ done record { count = next + 1; bytes = σ }
  unfolding first_pass
  first_stop σ l e =
      ap (first_pass t next) {x = limit - next} {y = suc (limit - (next + 1))} (omega arith) ∙
      ap (λ (x : Try). or_next x next (first_pass t (suc next) (limit - (next + 1)))) e

  pub first_end : limit ≤ next → first_pass t next (limit - next) ≡ refused Spent
  unfolding first_pass
  first_end l = ap (first_pass t next) {x = limit - next} {y = 0} (omega arith)

-- ---- the head of a try: the key is where it was, and what is left of the tries is what is left of the definition's
pub record Trying (p : Set) (μ ρ : List ℕ) (limit : ℕ) (work₀ c₀ work c~ : List ℕ) (next : ℕ) : Type 0 where
  pub upto : next ≤ limit
  pub long : length work ≡ length work₀
  pub long_c : length c~ ≡ length c₀
  pub key : Through p (signer_in p work₀ μ ρ) 0 [] place.T0 work
  pub rest : first_pass (try p shake256 (signer_in p work₀ μ ρ)) next (limit - next) ≡ first_pass (try p shake256 (signer_in p work₀ μ ρ)) 0 limit

pub trying_none : (p : Set) → Trinomial p → (μ ρ : List ℕ) (limit : ℕ) (work₀ c₀ : List ℕ) → Ready p place.T0 work₀ → Trying p μ ρ limit work₀ c₀ work₀ c₀ 0
trying_none p T μ ρ limit work₀ c₀ R = record {
  upto = omega arith;
  long = refl;
  long_c = refl;
  key = through_signer p T work₀ μ ρ R 0 [];
  rest = ap (first_pass (try p shake256 (signer_in p work₀ μ ρ)) 0) (sub-zero limit);
}

module _ {p : Set} {μ ρ : List ℕ} {limit : ℕ} {work₀ c₀ work c~ : List ℕ} {next : ℕ} (T : Trinomial p) (R : Ready p place.T0 work₀)
    (Y : Trying p μ ρ limit work₀ c₀ work c~ next) where
  pub trying_ready : Ready p place.T0 work
  trying_ready = through_ready p (signer_in p work₀ μ ρ) T 0 [] place.T0 (rw Y.long R.room) Y.key

  pub trying_key : Through p (signer_in p work₀ μ ρ) next [] place.T0 work
  trying_key = through_key p (signer_in p work₀ μ ρ) 0 next [] [] Y.key

-- ---- y, w and c̃ are there
pub record Begun (p : Set) (S : Signer) (κ : ℕ) (work c~ : List ℕ) (size : ℕ) : Type 0 where
  pub long : length work ≡ size
  pub is : c~ ≡ commit p shake256 S.mu (highs p (w_of p S κ))
  pub held : Through p S κ [] place.W work

pub begun : {p : Set} {S : Signer} {κ : ℕ} {work more c~ : List ℕ} {size : ℕ} → Through p S κ [] place.W work → Touched p place.W1 work more
    → ((w : List ℤ) → Holds p place.W w work → c~ ≡ commit p shake256 S.mu (highs p w)) → length work ≡ size → Begun p S κ more c~ size
begun {p} {S} {κ} u t e l = record { long = t.long ∙ l; is = e (w_of p S κ) (u place.W (omega arith)); held = through_kept p S κ [] place.W t (omega arith) u }

-- ---- the challenge is there too, and all places up to k
pub record Reached (p : Set) (S : Signer) (κ : ℕ) (k : Place) (work c~ : List ℕ) (size : ℕ) : Type 0 where
  pub long : length work ≡ size
  pub is : c~ ≡ commit p shake256 S.mu (highs p (w_of p S κ))
  pub c : List ℤ
  pub drawn : expand_c p shake256 c~ ≡ drew c
  pub held : Through p S κ c k work

-- the next places
abbrev pub reached : {p : Set} {S : Signer} {κ : ℕ} {k : Place} {work more c~ : List ℕ} {size : ℕ} → Reached p S κ k work c~ size → (x : Place)
    → ((S : Signer) (κ : ℕ) (c : List ℤ) → Through p S κ c k work → Through p S κ c x more) → length more ≡ length work → Reached p S κ x more c~ size
reached {S = S} {κ = κ} D x f l = record { long = l ∙ D.long; is = D.is; c = D.c; drawn = D.drawn; held = f S κ D.c D.held }

module _ {p : Set} (T : Trinomial p) {S : Signer} {κ : ℕ} {k : Place} {work c~ : List ℕ} {size : ℕ} (D : Reached p S κ k work c~ size) where
  pub reached_ready : 11 * p.n ≤ size → Ready p k work
  reached_ready r = through_ready p S T κ D.c k (rw D.long r) D.held

  pub reached_residues : (j : Place) → at j ≤ at k → Residues p (slot p j work)
  reached_residues j l = residues_of p T.good (D.held j l)

-- what the code has found of an answer
not_err : (r : Answer) → false ≡ is_err r → r ≡ Ok tt
not_err (Ok t) e = refl
not_err (Err why) e = cc

err : (r : Answer) → true ≡ is_err r → (why : Refusal) × (r ≡ Err why)
err (Ok t) e = absurd (cc)
err (Err why) e = (why, refl)

drawn_dry : (d : Drawn) (r : Refusal) → drawn d ≡ refused r → d ≡ dry
drawn_dry dry r e = refl
drawn_dry (drew c) r e = absurd (not_done r c (sym e))

module _ {p : Set} {S : Signer} {κ : ℕ} {work c~ : List ℕ} {size : ℕ} (B : Begun p S κ work c~ size) {more : List ℕ} {r : Answer}
    (f : Fills p place.C (drawn (expand_c p shake256 c~)) work r more) where
  pub reached_c : false ≡ is_err r → Reached p S κ place.C more c~ size
  reached_c e =
      let g = f.gives.well (not_err r e) in
      record {
        long = f.touched.long ∙ B.long;
        is = B.is;
        c = g.0;
        drawn = drawn_done (expand_c p shake256 c~) g.0 g.1;
        held = stage_c p S κ g.0 B.held f.touched g.2;
      }

  pub is_dry : true ≡ is_err r → expand_c p shake256 c~ ≡ dry
  is_dry e = let why = err r e in drawn_dry (expand_c p shake256 c~) why.0 (f.gives.ill why.0 why.1)

  pub w_kept : Through p S κ [] place.W more × (length more ≡ size)
  w_kept = (through_kept p S κ [] place.W f.touched (omega arith) B.held, f.touched.long ∙ B.long)

-- ---- on to the next try
module _ {p : Set} {μ ρ : List ℕ} {limit : ℕ} {work₀ c₀ work c~ : List ℕ} {next : ℕ} (Y : Trying p μ ρ limit work₀ c₀ work c~ next) (l : next < limit) where
  trying_from : {r : Reason} {more last : List ℕ} (c : List ℤ) (k : Place) → 3 ≤ at k → Through p (signer_in p work₀ μ ρ) next c k more → length more ≡ length work
      → try p shake256 (signer_in p work₀ μ ρ) next ≡ fails r → length last ≡ length c~ → Trying p μ ρ limit work₀ c₀ more last (next + 1)
  trying_from {r} c k f u m e b = record {
    upto = omega arith;
    long = m ∙ Y.long;
    long_c = b ∙ Y.long_c;
    key = through_key p (signer_in p work₀ μ ρ) next 0 c [] (through_less p (signer_in p work₀ μ ρ) next c k place.T0 f u);
    rest = sym (first_on (try p shake256 (signer_in p work₀ μ ρ)) next limit r l e) ∙ Y.rest;
  }

  pub trying_dry : {more last : List ℕ} → Through p (signer_in p work₀ μ ρ) next [] place.W more × (length more ≡ length work)
      → try p shake256 (signer_in p work₀ μ ρ) next ≡ fails ChallengeDry → length last ≡ length c~ → Trying p μ ρ limit work₀ c₀ more last (next + 1)
  trying_dry u e b = trying_from [] place.W (omega arith) u.0 u.1 e b

  pub trying_more : {r : Reason} {k : Place} {more last : List ℕ} → Reached p (signer_in p work₀ μ ρ) next k more last (length work) → 3 ≤ at k
      → try p shake256 (signer_in p work₀ μ ρ) next ≡ fails r → length last ≡ length c~ → Trying p μ ρ limit work₀ c₀ more last (next + 1)
  trying_more {k = k} D f e b = trying_from D.c k f D.held D.long e b

-- ---- the hints are bits
module _ (p : Set) (T : Trinomial p) (k : Place) (z r : List ℤ) (work : List ℕ) (H : Holds p k (make_hints p z r) work) where
  hint_bits : slot p k work ≡ tab p.n (λ t. make_hint p (coefficient z t) (coefficient r t))
  hint_bits =
      H.here ∙ map_tab (residue p.q) p.n (λ t. pos (make_hint p (coefficient z t) (coefficient r t))) ∙
      tab_cong p.n _ _ (λ t l. residue_small p.q (q_pos p T.good) (make_hint p (coefficient z t) (coefficient r t)) (let b = bit p (coefficient z t) (coefficient r t) in omega (arith, T.good.some, q_wide p T.good)))

  pub bits_values : map pos (slot p k work) ≡ make_hints p z r
  bits_values = ap (map pos) hint_bits ∙ map_tab pos p.n (λ t. make_hint p (coefficient z t) (coefficient r t))

  pub bits_bit : (i : ℕ) → get_or (slot p k work) i 0 ≤ 1
  bits_bit i = subst (λ (xs : List ℕ). get_or xs i 0 ≤ 1) (sym hint_bits) (⊎_elim inside outside (below_or i p.n))
    where
      inside : i < p.n → get_or (tab p.n (λ t. make_hint p (coefficient z t) (coefficient r t))) i 0 ≤ 1
      inside l = subst (λ (x : ℕ). x ≤ 1) (sym (at_tab 0 p.n (λ t. make_hint p (coefficient z t) (coefficient r t)) i l)) (bit p (coefficient z i) (coefficient r i))

      outside : p.n ≤ i → get_or (tab p.n (λ t. make_hint p (coefficient z t) (coefficient r t))) i 0 ≤ 1
      outside l = subst (λ (x : ℕ). x ≤ 1) (sym (past_tab 0 p.n (λ t. make_hint p (coefficient z t) (coefficient r t)) i l)) (omega arith)

module _ {p : Set} (T : Trinomial p) {S : Signer} {κ : ℕ} {work c~ : List ℕ} {size : ℕ} (D : Reached p S κ place.Hints work c~ size) where
  abbrev ct0 : List ℤ
  ct0 = mul p D.c S.t0

  abbrev kept : List ℤ
  kept = masked p S (w_of p S κ) D.c

  pub hint_values : map pos (slot p place.Hints work) ≡ hints p S (w_of p S κ) D.c
  hint_values = bits_values p T place.Hints (negated p ct0) (plus p kept ct0) work (D.held place.Hints (omega arith))

  pub hint_bit : (i : ℕ) → get_or (slot p place.Hints work) i 0 ≤ 1
  hint_bit i = bits_bit p T place.Hints (negated p ct0) (plus p kept ct0) work (D.held place.Hints (omega arith)) i
