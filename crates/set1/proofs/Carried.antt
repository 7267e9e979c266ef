-- Demand 3 of the code: over the contracts of make_keys, sign and check as the checker reads them.
-- Any two seeds from which make_keys answers `Ok`, any message, any limit, any buffers: if sign, given that secret key, answers `Ok`, then check, given
-- that public key, that signature and that message, answers `Ok`; if sign answers that its tries ran out, then each of those tries fails for one of the
-- reasons 1 to 5; and sign answers nothing else where its lengths and its limit are right.
use mathlib.Core.Path.{◌≡◌, sym, ap, subst, ◌∙◌}
use mathlib.Core.Logic.{◌⊎◌, ⊎_elim, inl, inr}
use mathlib.Core.List.{List}
use Prim.Native.Nat.{ℕ, ◌≤◌}
use native.Mathlib.Omega.{arith}
use borrow.Author.Tests.{leb-true}
use contract.Lifetimes.{Lfts}
use denote.Triple.Clauses.{AtExit}
use borrow.Fn.Kinds.{Dens, ended_of}
use lib.Dec.{eqb, leb}
use lib.ListN.{length}
use Rattle.outcome.specs.Outcome.{Is}
use Rattle.sets.specs.Set.{set1, message_max, try_max}
use Rattle.answers.specs.declared.Refusal.{Refusal}
use Rattle.answers.specs.declared.NotSigned.{NotSigned}
use Rattle.answers.specs.declared.Refusal.TheVariants.{Length, LongMessage, Spent}
use Rattle.answers.specs.declared.Buffer.TheVariants.{SecretKey as SecretBuffer, Signature as SignatureBuffer}
use Rattle.std.specs.Prelude.{Ok, Err}
use Rattle.answers.specs.Refusals.{Answer, Signing, report_of, signing_report}
use Rattle.answers.specs.Result.{Result, done, refused, told, outcome}
use Rattle.answers.proofs.Results.{need_inv}
use Rattle.answers.proofs.Reports.{report_one, signing_one}
use Rattle.shake.specs.Shake.{shake256}
use Rattle.packing.specs.Parts.{total, secret_parts, signature_parts}
use Rattle.scheme.specs.Keys.{Pair, make_keys}
use Rattle.scheme.specs.Sign.{Signed, rho_of, count_at, sign_with, sign, sign_told, sign_outcome}
use Rattle.scheme.specs.Check.{check}
use Rattle.scheme.specs.Demand3.{Keys, AllFail}
use Rattle.set1.proofs.Demand3.{demand3_set1}
use Rattle.set1.proofs.make_keys.Reads as make_keys
use Rattle.set1.proofs.make_keys.Kinds as make_keys_kinds
use Rattle.set1.proofs.sign.Reads as signing
use Rattle.set1.proofs.sign.Kinds as signing_kinds
use Rattle.set1.proofs.check.Reads as checking
use Rattle.set1.proofs.check.Kinds as checking_kinds

-- ---- what an answer says of the definition's result
clash : {A : Type 0} (r : Refusal) → ◌≡◌ {A = Answer} (Ok tt) (Err r) → A
clash r e = let z : ◌≡◌ {A = ℕ} 0 1 = cc in absurd (omega arith)

made_keys : (m : Result Pair) (old new : Pair) → Is (outcome m old) (report_of (Ok tt)) new → m ≡ done new
made_keys (done p) old new i = ap done (sym i.leaves)
made_keys (refused r) old new i = clash r (report_one (Ok tt) (Err r) i.answers)

signed_not : {A : Type 0} (n k : ℕ) (r : Refusal) → ◌≡◌ {A = Signing} (Ok n) (Err (record { why = r; tries = k })) → A
signed_not n k r e = let z : ◌≡◌ {A = ℕ} 0 1 = cc in absurd (omega arith)

signed_one : (limit n : ℕ) (m : Result Signed) (old new : List ℕ) → Is (sign_outcome limit m old) (signing_report (Ok n)) new
    → m ≡ done record { count = n; bytes = new }
signed_one limit n (done s) old new i =
    let e : ◌≡◌ {A = Signing} (Ok n) (Ok s.count) = signing_one (Ok n) (Ok s.count) i.answers in
    let c : n ≡ s.count = cc in
    λ t. done record { count = sym c t; bytes = sym i.leaves t }
signed_one limit n (refused r) old new i = signed_not n (count_at limit r) r (signing_one (Ok n) (Err (record { why = r; tries = count_at limit r })) i.answers)

spent_one : (limit n : ℕ) (m : Result Signed) (old new : List ℕ) → Is (sign_outcome limit m old) (signing_report (Err (record { why = Spent; tries = n }))) new
    → (m ≡ refused Spent) × (n ≡ limit)
spent_one limit n (done s) old new i = signed_not s.count n Spent (sym (signing_one (Err (record { why = Spent; tries = n })) (Ok s.count) i.answers))
spent_one limit n (refused r) old new i =
    let e : ◌≡◌ {A = Signing} (Err (record { why = Spent; tries = n })) (Err (record { why = r; tries = count_at limit r })) = signing_one (Err (record { why = Spent; tries = n })) (Err (record { why = r; tries = count_at limit r })) i.answers in
    let g : ◌≡◌ {A = NotSigned} (record { why = Spent; tries = n }) (record { why = r; tries = count_at limit r }) = cc in
    let f : Spent ≡ r = ap (λ (x : NotSigned). x.why) g in
    let k : n ≡ count_at limit r = ap (λ (x : NotSigned). x.tries) g in
    (ap refused (sym f), k ∙ ap (count_at limit) (sym f))

told_done : (m : Result (Unit {0})) → m ≡ done tt → (a : Answer) → report_of a ≡ told m → a ≡ Ok tt
told_done m e a t = report_one a (Ok tt) (t ∙ ap told e)

-- a message that was signed is within the limit
within_limit : (sk M : List ℕ) (limit : ℕ) (out : List ℕ) (s : Signed) → sign set1 shake256 sk M limit out ≡ done s → length M ≤ message_max
unfolding sign sign_with
within_limit sk M limit out s e =
    let a = need_inv (eqb (length sk) (total (secret_parts set1))) (Length SecretBuffer) _ s e in
    let b = need_inv (eqb (length out) (total (signature_parts set1))) (Length SignatureBuffer) _ s a.1 in
    let c = need_inv (leb (length M) message_max) LongMessage _ s b.1 in
    leb-true (length M) message_max c.0

-- ---- the three calls
module _
    -- make_keys was called and answered `Ok`
    (κ₁ : Lfts 4) (a₁ : Dens κ₁ make_keys_kinds.ps) (s₁ : AtExit (ended_of 4 make_keys_kinds.ps make_keys_kinds.r) κ₁)
    (made : make_keys.Post κ₁ a₁ (Ok tt) s₁)
    -- sign was called with that secret key
    (κ₂ : Lfts 3) (a₂ : Dens κ₂ signing_kinds.ps) (r₂ : Signing) (s₂ : AtExit (ended_of 3 signing_kinds.ps signing_kinds.r) κ₂)
    (signed : signing.Post κ₂ a₂ r₂ s₂) (key : a₂.0.now ≡ s₁.1.1.1.0.now) where
  abbrev message : List ℕ
  message = a₂.1.0.now

  abbrev limit : ℕ
  limit = a₂.1.1.0

  abbrev pair : Pair
  pair = record { public = s₁.1.1.0.now; secret = s₁.1.1.1.0.now }

  abbrev keys : Keys set1 shake256
  keys = record {
    zeta = a₁.0.now;
    zeta_prime = a₁.1.0.now;
    public_out = a₁.1.1.0.now;
    secret_out = a₁.1.1.1.0.now;
    pair = record { public = s₁.1.1.0.now; secret = s₁.1.1.1.0.now };
    made = made_keys (make_keys set1 shake256 a₁.0.now a₁.1.0.now a₁.1.1.0.now a₁.1.1.1.0.now)
        record { public = a₁.1.1.0.now; secret = a₁.1.1.1.0.now } record { public = s₁.1.1.0.now; secret = s₁.1.1.1.0.now } made;
  }

  at_key : (m : Result Signed) → sign set1 shake256 a₂.0.now message limit a₂.1.1.1.0.now ≡ m
      → sign set1 shake256 pair.secret message limit a₂.1.1.1.0.now ≡ m
  at_key m e = ap (λ (k : List ℕ). sign set1 shake256 k message limit a₂.1.1.1.0.now) (sym key) ∙ e

  -- what was signed is accepted
  pub signed_is_accepted : (n : ℕ) → r₂ ≡ Ok n
      → (κ₃ : Lfts 3) (a₃ : Dens κ₃ checking_kinds.ps) (r₃ : Answer) (s₃ : AtExit (ended_of 3 checking_kinds.ps checking_kinds.r) κ₃)
      → checking.Post κ₃ a₃ r₃ s₃
      → a₃.0.now ≡ s₁.1.1.0.now → a₃.1.0.now ≡ s₂.1.1.1.0.now → a₃.1.1.0.now ≡ a₂.1.0.now
      → r₃ ≡ Ok tt
  signed_is_accepted n e κ₃ a₃ r₃ s₃ checked public signature same =
      let i = subst (λ (r : Signing). signing.Post κ₂ a₂ r s₂) e signed in
      let m = at_key _ (signed_one limit n (sign set1 shake256 a₂.0.now message limit a₂.1.1.1.0.now) a₂.1.1.1.0.now s₂.1.1.1.0.now i) in
      let c = demand3_set1.accepted keys message limit a₂.1.1.1.0.now _ (within_limit _ message limit _ _ m) m in
      told_done (check set1 shake256 a₃.0.now a₃.1.0.now a₃.1.1.0.now) ((λ t. check set1 shake256 (public t) (signature t) (same t)) ∙ c) r₃ checked

  -- and if the tries ran out, each of them fails
  pub spent_all_fail : (n : ℕ) → r₂ ≡ Err (record { why = Spent; tries = n })
      → (n ≡ a₂.1.1.0) × AllFail set1 shake256 s₁.1.1.1.0.now a₂.1.0.now (rho_of set1 shake256 s₁.1.1.1.0.now a₂.1.0.now) a₂.1.1.0
  spent_all_fail n e =
      let i = subst (λ (r : Signing). signing.Post κ₂ a₂ r s₂) e signed in
      let m = spent_one limit n (sign set1 shake256 a₂.0.now message limit a₂.1.1.1.0.now) a₂.1.1.1.0.now s₂.1.1.1.0.now i in
      (m.1, demand3_set1.spent keys message limit a₂.1.1.1.0.now (at_key _ m.0))

  -- there is no third answer
  pub signs_or_spent : length a₂.1.1.1.0.now ≡ total (signature_parts set1) → length a₂.1.0.now ≤ message_max → 1 ≤ a₂.1.1.0 → a₂.1.1.0 ≤ try_max
      → ((n : ℕ) × (r₂ ≡ Ok n)) ⊎ (r₂ ≡ Err (record { why = Spent; tries = a₂.1.1.0 }))
  signs_or_spent o m l u =
      ⊎_elim
      (λ s. inl (s.0.count, answer (Ok s.0.count) (ap (sign_told limit) (at_own _ s.1))))
      (λ e. inr (answer (Err (record { why = Spent; tries = limit })) (ap (sign_told limit) (at_own _ e))))
      (demand3_set1.answers keys message limit a₂.1.1.1.0.now o m l u)
    where
      at_own : (x : Result Signed) → sign set1 shake256 pair.secret message limit a₂.1.1.1.0.now ≡ x
          → sign set1 shake256 a₂.0.now message limit a₂.1.1.1.0.now ≡ x
      at_own x e = ap (λ (k : List ℕ). sign set1 shake256 k message limit a₂.1.1.1.0.now) key ∙ e

      answer : (x : Signing) → sign_told limit (sign set1 shake256 a₂.0.now message limit a₂.1.1.1.0.now) ≡ signing_report x → r₂ ≡ x
      answer x e = signing_one r₂ x (signed.answers ∙ e)
