-- Demand 3: for every set that fits, every hash that gives as many bytes as it is asked for, every two seeds from which key making succeeds, and every ρ.
use mathlib.Core.Path.{◌≡◌, refl, sym, ap, ◌∙◌}
use mathlib.Core.Bool.{◌&&◌}
use mathlib.Core.List.{List}
use mathlib.Core.Logic.{◌⊎◌}
use Prim.Native.Nat.{ℕ, ◌≤◌}
use native.Mathlib.Omega.{arith}
use borrow.Author.Tests.{eq-eqb, le-leb}
use lib.Dec.{eqb, leb, lit≤}
use lib.ListN.{length}
use Rattle.sets.specs.Set.{message_max, try_max, Set}
use Rattle.answers.specs.declared.Buffer.TheVariants.{SecretKey as SecretBuffer, Signature as SignatureBuffer}
use Rattle.answers.specs.declared.Refusal.{Refusal}
use Rattle.answers.specs.declared.Refusal.TheVariants.{Length, LongMessage, TryLimit, Spent}
use Rattle.answers.specs.Refusals.{refusal_number}
use Rattle.answers.specs.Result.{Result, done, refused, ◌>>=◌}
use Rattle.answers.proofs.Results.{bind_done, need_done, passed, not_done}
use Rattle.ring.proofs.Rings.{Fits}
use Rattle.packing.specs.Parts.{secret_size, signature_size}
use Rattle.streams.specs.Streams.{Hash}
use Rattle.scheme.specs.Keys.{Pair}
use Rattle.scheme.specs.Try.{Signer, try}
use Rattle.scheme.specs.Sign.{Signed, first_pass, rho_of, sign_with, sign}
use Rattle.scheme.specs.Check.{check}
use Rattle.scheme.specs.Demand3.{Keys, AllFail, Demand3}
use Rattle.scheme.proofs.Tries.{first_passed, all_failed, ends, passed_of}
use Rattle.scheme.proofs.Made.{Sized, Made, made_of, signer_of, signer_read, secret_length}
use Rattle.scheme.proofs.Accepts as accepts

-- an answer that no check before the tries gives
abbrev Runs : Result Signed → Type 0
Runs r = (n : Refusal) → refusal_number n ≤ 3 → refused n ≡ r → ⊥

runs_done : (s : Signed) → Runs (done s)
runs_done s n l e = not_done n s e

runs_spent : Runs (refused Spent)
runs_spent n l e = let q : n ≡ Spent = cc in let m : refusal_number n ≡ 8 = ap refusal_number q in omega arith

module _ (p : Set) (F : Fits p) (H : Hash) (sized : Sized H) (ζ ζ' : List ℕ) (keys : Pair) (K : Made p H ζ ζ' keys) (M : List ℕ) (limit : ℕ) (out ρ : List ℕ) where
  abbrev maker : Signer
  maker = signer_of p F H sized ζ ζ' keys K M ρ

  -- such an answer is that of the tries
  tries_of : (r : Result Signed) → Runs r → sign_with p H keys.secret M limit out ρ ≡ r → first_pass (try p H maker) 0 limit ≡ r
  unfolding sign_with
  tries_of r runs e =
      let a = passed (eqb (length keys.secret) (secret_size p)) (Length SecretBuffer) _ r (runs (Length SecretBuffer) (lit≤ tt)) e in
      let b = passed (eqb (length out) (signature_size p)) (Length SignatureBuffer) _ r (runs (Length SignatureBuffer) (lit≤ tt)) a.1 in
      let d = passed (leb (length M) message_max) LongMessage _ r (runs LongMessage (lit≤ tt)) b.1 in
      let f = passed (leb 1 limit && leb limit try_max) TryLimit _ r (runs TryLimit (lit≤ tt)) d.1 in
      sym (ap (λ x. x >>= λ S. first_pass (try p H S) 0 limit) (signer_read p F H sized ζ ζ' keys K M ρ)) ∙ f.1

  signed_accepted : (s : Signed) → length M ≤ message_max → sign_with p H keys.secret M limit out ρ ≡ done s → check p H keys.public s.bytes M ≡ done tt
  unfolding try
  signed_accepted s long e =
      let f = first_passed (try p H maker) 0 limit s (tries_of (done s) (runs_done s) e) in
      accepts.accepted p F H sized ζ ζ' keys K M ρ f.at_try s.bytes long (passed_of p maker _ _ _ _ s.bytes f.passed)

  all_fail : sign_with p H keys.secret M limit out ρ ≡ refused Spent → AllFail p H keys.secret M ρ limit
  all_fail e = record {
    signer = maker;
    read = signer_read p F H sized ζ ζ' keys K M ρ;
    each = λ κ l. all_failed (try p H maker) 0 limit (tries_of (refused Spent) runs_spent e) κ (omega arith) (omega arith);
  }

  -- within the limits no check before the tries refuses
  runs : length out ≡ signature_size p → length M ≤ message_max → 1 ≤ limit → limit ≤ try_max
      → sign_with p H keys.secret M limit out ρ ≡ first_pass (try p H maker) 0 limit
  unfolding sign_with
  runs o m l u =
      need_done _ (Length SecretBuffer) _ (eq-eqb _ _ (secret_length p F H sized ζ ζ' keys K))
      (need_done _ (Length SignatureBuffer) _ (eq-eqb _ _ o)
      (need_done _ LongMessage _ (le-leb _ _ m)
      (need_done (leb 1 limit && leb limit try_max) TryLimit _ (rw (le-leb 1 limit l, le-leb limit try_max u))
      (bind_done _ (signer_read p F H sized ζ ζ' keys K M ρ) refl))))

  two_answers : length out ≡ signature_size p → length M ≤ message_max → 1 ≤ limit → limit ≤ try_max
      → ((s : Signed) × (sign_with p H keys.secret M limit out ρ ≡ done s)) ⊎ (sign_with p H keys.secret M limit out ρ ≡ refused Spent)
  two_answers o m l u = rw (runs o m l u) (ends (try p H maker) 0 limit)

pub demand3 : (p : Set) → Fits p → (H : Hash) → Sized H → Demand3 p H
unfolding sign
demand3 p F H sized = record {
  accepted = λ K M limit out s l e. signed_accepted p F H sized K.zeta K.zeta_prime K.pair (made K) M limit out (rho_of p H K.pair.secret M) s l e;
  spent = λ K M limit out e. all_fail p F H sized K.zeta K.zeta_prime K.pair (made K) M limit out (rho_of p H K.pair.secret M) e;
  lent_accepted = λ K M limit out ρ s l e. signed_accepted p F H sized K.zeta K.zeta_prime K.pair (made K) M limit out ρ s l e;
  lent_spent = λ K M limit out ρ e. all_fail p F H sized K.zeta K.zeta_prime K.pair (made K) M limit out ρ e;
  answers = λ K M limit out o m l u. two_answers p F H sized K.zeta K.zeta_prime K.pair (made K) M limit out (rho_of p H K.pair.secret M) o m l u;
}
  where
    made : (K : Keys p H) → Made p H K.zeta K.zeta_prime K.pair
    made K = made_of p F H K.zeta K.zeta_prime K.pair K.public_out K.secret_out K.made
