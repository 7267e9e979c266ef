-- The first try that passes, and what a try that passes has passed.
use mathlib.Core.Path.{◌≡◌, refl, sym, ap, ◌∙◌}
use mathlib.Core.Bool.{Bool, true, false}
use mathlib.Core.List.{List}
use mathlib.Core.Logic.{◌⊎◌, inl, inr}
use Prim.Native.Nat.{ℕ, zero, suc, ◌+◌, ◌-◌, ◌≤◌, ◌<◌}
use native.Mathlib.Omega.{arith}
use native.Mathlib.Decide.{ℕ_discrete}
use borrow.Author.Tests.{leb-true, leb-false}
use lib.IntN.{ℤ}
use Rattle.answers.specs.declared.Refusal.TheVariants.{Spent}
use Rattle.answers.specs.Result.{Result, done, refused, pick}
use Rattle.rounding.specs.Rounding.{norm}
use Rattle.ring.specs.Profile.{mul}
use Rattle.layouts.specs.Hints.{ones}
use Rattle.packing.specs.Parts.{pack_signature}
use Rattle.sampling.specs.Samplers.{Drawn, drew, dry}
use Rattle.scheme.specs.Elements.{lows}
use Rattle.scheme.specs.Try.{Reason, ZLarge, LowLarge, Ct0Large, ManyOnes, Try, passes, fails, Signer, response, masked, hints, judged}
use Rattle.scheme.specs.Sign.{Signed, or_next, first_pass}
use Rattle.sets.specs.Set.{Set}

-- ---- the first
pub record First (t : ℕ → Try) (κ m : ℕ) (s : Signed) : Type 0 where
  pub at_try : ℕ
  pub from : κ ≤ at_try
  pub upto : at_try < κ + m
  pub passed : t at_try ≡ passes s.bytes
  pub counted : s.count ≡ at_try + 1
  pub earlier : (j : ℕ) → κ ≤ j → j < at_try → (r : Reason) × (t j ≡ fails r)

pub first_passed : (t : ℕ → Try) (κ m : ℕ) (s : Signed) → first_pass t κ m ≡ done s → First t κ m s
unfolding first_pass
first_passed t κ zero s e = let z : ◌≡◌ {A = ℕ} 0 1 = cc in absurd (omega arith)
first_passed t κ (suc m) s e = go (t κ) refl (first_passed t (suc κ) m s)
  where
    go : (x : Try) → t κ ≡ x → (first_pass t (suc κ) m ≡ done s → First t (suc κ) m s) → First t κ (suc m) s
    go (passes σ) q ih =
        let d : done (record { count = κ + 1; bytes = σ }) ≡ done s = rw q at e in
        let f : ◌≡◌ {A = Signed} (record { count = κ + 1; bytes = σ }) s = cc in
        record {
          at_try = κ;
          from = omega arith;
          upto = omega arith;
          passed = q ∙ ap (λ (x : Signed). passes x.bytes) f;
          counted = sym (ap (λ (x : Signed). x.count) f);
          earlier = λ j l h. absurd (omega arith);
        }
    go (fails r) q ih =
        let F = ih (rw q at e) in
        record {
          at_try = F.at_try;
          from = omega arith;
          upto = omega arith;
          passed = F.passed;
          counted = F.counted;
          earlier = λ j l h. before F j l h (ℕ_discrete j κ);
        }
      where
        before : (F : First t (suc κ) m s) (j : ℕ) → κ ≤ j → j < F.at_try → Dec (j ≡ κ) → (r : Reason) × (t j ≡ fails r)
        before F j l h (yes p) = (r, ap t p ∙ q)
        before F j l h (no p) = F.earlier j (omega arith) h

pub all_failed : (t : ℕ → Try) (κ m : ℕ) → first_pass t κ m ≡ refused Spent → (j : ℕ) → κ ≤ j → j < κ + m → (r : Reason) × (t j ≡ fails r)
unfolding first_pass
all_failed t κ zero e j l h = absurd (omega arith)
all_failed t κ (suc m) e j l h = go (t κ) refl (all_failed t (suc κ) m) (ℕ_discrete j κ)
  where
    go : (x : Try) → t κ ≡ x → (first_pass t (suc κ) m ≡ refused Spent → (j : ℕ) → suc κ ≤ j → j < suc κ + m → (r : Reason) × (t j ≡ fails r)) → Dec (j ≡ κ) → (r : Reason) × (t j ≡ fails r)
    go (passes σ) q ih d =
        let f : ◌≡◌ {A = Result Signed} (done (record { count = κ + 1; bytes = σ })) (refused Spent) = rw q at e in
        let z : ◌≡◌ {A = ℕ} 0 1 = cc in absurd (omega arith)
    go (fails r) q ih (yes p) = (r, ap t p ∙ q)
    go (fails r) q ih (no p) = ih (rw q at e) j (omega arith) (omega arith)

-- tries end with a signature or with refusal 8
pub ends : (t : ℕ → Try) (κ m : ℕ) → ((s : Signed) × (first_pass t κ m ≡ done s)) ⊎ (first_pass t κ m ≡ refused Spent)
unfolding first_pass
ends t κ zero = inr refl
ends t κ (suc m) = go (t κ) (ends t (suc κ) m)
  where
    go : (x : Try) → ((s : Signed) × (first_pass t (suc κ) m ≡ done s)) ⊎ (first_pass t (suc κ) m ≡ refused Spent)
        → ((s : Signed) × (or_next x κ (first_pass t (suc κ) m) ≡ done s)) ⊎ (or_next x κ (first_pass t (suc κ) m) ≡ refused Spent)
    go (passes σ) r = inl (record { count = κ + 1; bytes = σ }, refl)
    go (fails f) r = r

-- ---- a try that passes
reject : (b : Bool) (r : Reason) (t : Try) (σ : List ℕ) → pick b (fails r) t ≡ passes σ → (b ≡ false) × (t ≡ passes σ)
reject true r t σ e = let z : ◌≡◌ {A = ℕ} 0 1 = cc in absurd (omega arith)
reject false r t σ e = (refl, e)

accept : (b : Bool) (x : List ℕ) (r : Reason) (σ : List ℕ) → pick b (passes x) (fails r) ≡ passes σ → (b ≡ true) × (σ ≡ x)
accept true x r σ e = (refl, cc)
accept false x r σ e = let z : ◌≡◌ {A = ℕ} 0 1 = cc in absurd (omega arith)

pub record Passed (p : Set) (S : Signer) (y w : List ℤ) (c~ : List ℕ) (d : Drawn) (σ : List ℕ) : Type 0 where
  pub c : List ℤ
  pub drawn_is : d ≡ drew c
  pub z_small : norm p.q (response p S y c) < p.gamma1 - p.beta
  pub low_small : norm p.q (lows p (masked p S w c)) < p.gamma2 - p.beta
  pub ct0_small : norm p.q (mul p c S.t0) < p.gamma2
  pub few_ones : ones (hints p S w c) ≤ p.omega
  pub signature_is : σ ≡ pack_signature p record { c~ = c~; z = response p S y c; h = hints p S w c }

pub passed_of : (p : Set) (S : Signer) (y w : List ℤ) (c~ : List ℕ) (d : Drawn) (σ : List ℕ) → judged p S y w c~ d ≡ passes σ → Passed p S y w c~ d σ
unfolding judged
passed_of p S y w c~ dry σ e = let z : ◌≡◌ {A = ℕ} 0 1 = cc in absurd (omega arith)
passed_of p S y w c~ (drew c) σ e =
    let a = reject _ ZLarge _ σ e in
    let b = reject _ LowLarge _ σ a.1 in
    let g = reject _ Ct0Large _ σ b.1 in
    let h = accept _ (pack_signature p record { c~ = c~; z = response p S y c; h = hints p S w c }) ManyOnes σ g.1 in
    record {
      c = c;
      drawn_is = refl;
      z_small = leb-false _ _ a.0;
      low_small = leb-false _ _ b.0;
      ct0_small = leb-false _ _ g.0;
      few_ones = leb-true _ _ h.0;
      signature_is = h.1;
    }
