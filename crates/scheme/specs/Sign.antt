-- Deterministic signing with a cap on tries (SPEC 8).
use Rattle.std.specs.Prelude.{ℕ, zero, suc, ◌+◌, cond, ◌&&◌, List, ◌++◌, eqb, leb, length, ℤ}
use Rattle.sets.specs.Set.{message_max, try_max, wide_size, Set}
use Rattle.answers.specs.declared.Buffer.TheVariants.{SecretKey as SecretBuffer, Signature as SignatureBuffer}
use Rattle.answers.specs.declared.Refusal.{Refusal}
use Rattle.answers.specs.declared.Refusal.TheVariants.{Length, LongMessage, TryLimit, Spent}
use Rattle.answers.specs.declared.Report.{Report}
use Rattle.answers.specs.Refusals.{done_report, refusal_number, refusal_report}
use Rattle.answers.specs.Result.{Result, done, refused, ◌>>=◌, ◌>>◌, need}
use Rattle.packing.specs.declared.parts.Part.TheVariants as part
use Rattle.packing.specs.Parts.{read_secret, bytes_of, secret_size, signature_size}
use Rattle.streams.specs.Streams.{Hash, expand_a}
use Rattle.scheme.specs.Try.{Try, passes, fails, Signer, try}

-- a signature, and how many tries it took
pub record Signed : Type 0 where
  pub count : ℕ
  pub bytes : List ℕ

abbrev pub or_next : Try → ℕ → Result Signed → Result Signed
or_next (passes σ) κ next = done record { count = κ + 1; bytes = σ }
or_next (fails r) κ next = next

-- SPEC 8.8: m tries from κ on; number 8 where every one failed
unfoldable pub first_pass : (ℕ → Try) → ℕ → ℕ → Result Signed
first_pass t κ zero = refused Spent
first_pass t κ (suc m) =
    let next = first_pass t (suc κ) m in
    or_next (t κ) κ next

-- SPEC 8.1: μ, with ph given
abbrev pub mu : Hash → List ℕ → List ℕ → List ℕ
mu H ph M = H (ph ++ M) wide_size

abbrev pub mu_of : Set → Hash → List ℕ → List ℕ → List ℕ
mu_of p H sk M = mu H (bytes_of p part.Ph sk) M

-- SPEC 8.2: ρ
abbrev pub rho_of : Set → Hash → List ℕ → List ℕ → List ℕ
rho_of p H sk M = H (bytes_of p part.K sk ++ mu_of p H sk M) wide_size

-- SPEC 8.3: what the tries read of the secret key, and then the stream of a
pub record Key : Type 0 where
  pub a : List ℤ
  pub s1 : List ℤ
  pub s2 : List ℤ
  pub t0 : List ℤ

unfoldable pub read_key : Set → Hash → List ℕ → Result Key
read_key p H sk =
    do
      k ← read_secret p sk
      a ← expand_a p H k.zeta
      done record { a = a; s1 = k.s1; s2 = k.s2; t0 = k.t0 }

-- with μ and ρ beside it
abbrev pub signer_with : Key → List ℕ → List ℕ → Signer
signer_with k μ ρ = record { a = k.a; s1 = k.s1; s2 = k.s2; t0 = k.t0; mu = μ; rho = ρ }

unfoldable pub read_signer : Set → Hash → List ℕ → List ℕ → List ℕ → Result Signer
read_signer p H sk M ρ =
    do
      k ← read_key p H sk
      done (signer_with k (mu_of p H sk M) ρ)

-- SPEC 8.9, 8.11: the call with ρ given: checks in the order of their numbers, then the tries
unfoldable pub sign_with : Set → Hash → List ℕ → List ℕ → ℕ → List ℕ → List ℕ → Result Signed
sign_with p H sk M limit out ρ =
    do
      need (eqb (length sk) (secret_size p)) (Length SecretBuffer)
      need (eqb (length out) (signature_size p)) (Length SignatureBuffer)
      need (leb (length M) message_max) LongMessage
      need (leb 1 limit && leb limit try_max) TryLimit
      S ← read_signer p H sk M ρ
      first_pass (try p H S) 0 limit

-- SPEC 8.9: the call, with the definition's own ρ
unfoldable pub sign : Set → Hash → List ℕ → List ℕ → ℕ → List ℕ → Result Signed
sign p H sk M limit out = sign_with p H sk M limit out (rho_of p H sk M)

-- SPEC 8.10: the count of tries is the limit at number 8, and 0 at every other refusal
abbrev pub count_at : ℕ → Refusal → ℕ
count_at limit r = cond (eqb (refusal_number r) 8) limit 0

-- SPEC 8.10: what the call answers, in numbers
abbrev pub sign_told : ℕ → Result Signed → Report
sign_told limit (done s) = done_report s.count
sign_told limit (refused r) = refusal_report r (count_at limit r)

-- SPEC 10.5
abbrev pub sign_left : Result Signed → List ℕ → List ℕ
sign_left (done s) old = s.bytes
sign_left (refused r) old = old

-- signing's answer, and what the signature's buffer, which came with `old`, holds at the end
abbrev pub sign_outcome : ℕ → Result Signed → List ℕ → Report × List ℕ
sign_outcome limit m old = (sign_told limit m, sign_left m old)
