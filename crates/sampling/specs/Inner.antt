-- Inner: what the samplers answer and leave behind, where the stream is dry too. No definition, and no promise of a public entry, rests on this file.
use Rattle.std.specs.Prelude.{◌≡◌, Bool, true, false, ◌&&◌, Result, Ok, Err, List, [], ◌∷◌, map, ℕ, zero, suc, ◌+◌, ◌-◌, ◌*◌, ◌/◌, ◌%◌, ◌^◌, ◌≤◌, leb, ltb, eqb, ℤ, pos, ◌-ℤ◌, length, take, drop, set, replicate, get_or}
use Rattle.sets.specs.Set.{Set}
use Rattle.answers.specs.Result.{pick}
use Rattle.buffers.specs.Buffers.{overlay}
use Rattle.digits.specs.Digits.{value, codes}
use Rattle.sampling.specs.declared.Dry.{Dry}
use Rattle.sampling.specs.Samplers.{groups, sign}

-- what a sampler answers
abbrev pub Sampled : Type 0
Sampled = Result (Unit {0}) Dry

abbrev pub dry_stream : Sampled
dry_stream = Err (record {})

-- every coefficient was found, or not
abbrev pub verdict : Bool → Sampled
verdict true = Ok tt
verdict false = dry_stream

-- ---- a and s
-- the draws of a stream
abbrev pub a_draws : Set → List ℕ → List ℕ
a_draws p bs = map (λ v. v % 2 ^ p.abits) (groups p.abytes bs)

abbrev pub s_draws : Set → List ℕ → List ℕ
s_draws p bs = codes p.sbits (length bs / p.sbytes * (8 * p.sbytes / p.sbits)) bs

-- what the draws that pass mean, m of them or as many as there are
unfoldable pub passing : {A : Type 0} → (ℕ → Bool) → (ℕ → A) → List ℕ → ℕ → List A
passing ok means xs zero = []
passing ok means [] (suc m) = []
passing ok means (x ∷ xs) (suc m) =
    let used = means x ∷ passing ok means xs m in
    let skipped = passing ok means xs (suc m) in
    pick (ok x) used skipped

-- n coefficients were asked for: the answer, and those that were found, with zeros behind them
abbrev pub gathered : {A : Type 0} → A → ℕ → List A → Sampled × List A
gathered none n xs = (verdict (eqb (length xs) n), overlay xs (replicate n none))

-- the places from `found` on hold zeros
abbrev pub Free : {A : Type 0} → A → ℕ → List A → Type 0
Free none found out = (k : ℕ) → found ≤ k → get_or out k none ≡ none

-- one draw: where it passes, it is written at the next place
abbrev pub kept : {A : Type 0} → Bool → A → ℕ → List A → ℕ × List A
kept passes x found out = pick passes (found + 1, set out found x) (found, out)

-- one draw after the other, while fewer than n were found
unfoldable pub filled : {A : Type 0} → (ℕ → Bool) → (ℕ → A) → List ℕ → ℕ → ℕ → List A → ℕ × List A
filled ok means [] n found out = (found, out)
filled ok means (x ∷ xs) n found out =
    let used = filled ok means xs n (found + 1) (set out found (means x)) in
    let skipped = filled ok means xs n found out in
    pick (ltb found n && ok x) used skipped

-- SPEC 5.2: which draws of a pass
abbrev pub is_a : Set → ℕ → Bool
is_a p v = ltb v p.q

unfoldable pub drawn_a : Set → List ℕ → Sampled × List ℕ
drawn_a p bs = gathered 0 p.n (passing (is_a p) (λ v. v) (a_draws p bs) p.n)

-- SPEC 5.3: which draws of s pass, and what each means
abbrev pub is_s : Set → ℕ → Bool
is_s p v = leb v (2 * p.eta)

abbrev pub means_s : Set → ℕ → ℤ
means_s p v = pos p.eta -ℤ pos v

unfoldable pub drawn_s : Set → List ℕ → Sampled × List ℤ
drawn_s p bs = gathered (pos 0) p.n (passing (is_s p) (means_s p) (s_draws p bs) p.n)

-- ---- the challenge
abbrev pub c_draws : Set → List ℕ → List ℕ
c_draws p bs = map (λ v. v % 2 ^ p.jbits) (groups 2 bs)

-- m steps from place i on, or as many as there are draws for: the steps that are left, and the element
unfoldable pub placing : List ℕ → ℕ → ℕ → ℕ → List ℤ → ℕ × List ℤ
placing js zero i signs c = (0, c)
placing [] (suc m) i signs c = (suc m, c)
placing (j ∷ js) (suc m) i signs c =
    let used = placing js m (i + 1) (signs / 2) (set (set c i (get_or c j (pos 0))) j (sign (signs % 2))) in
    let again = placing js (suc m) i signs c in
    pick (leb j i) used again

abbrev pub placed_all : ℕ × List ℤ → Sampled × List ℤ
placed_all r = (verdict (eqb r.0 0), r.1)

-- from zeros, as far as the draws go
unfoldable pub drawn_c : Set → List ℕ → Sampled × List ℤ
drawn_c p bs =
    placed_all (placing (c_draws p (drop 8 bs)) p.tau (p.n - p.tau) (value 256 (take 8 bs)) (replicate p.n (pos 0)))
