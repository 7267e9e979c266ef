-- The samplers (SPEC 5), over a stream of any length.
use Rattle.std.specs.Prelude.{ℕ, zero, suc, ◌+◌, ◌-◌, ◌*◌, ◌/◌, ◌%◌, ◌^◌, Bool, cond, List, [], ◌∷◌, map, leb, ltb, eqb, length, take, drop, set, replicate, get_or, ℤ, pos, negsuc, ◌-ℤ◌}
use Rattle.sets.specs.Set.{Set}
use Rattle.answers.specs.declared.Refusal.TheVariants.{Dry}
use Rattle.answers.specs.Result.{Result, done, refused, pick}
use Rattle.digits.specs.Digits.{value, codes}

-- SPEC 5.1: a stream is dry, or gives its coefficients
pub data Drawn : Type 0 where
  dry : Drawn
  drew : List ℤ → Drawn

abbrev pub also : ℤ → Drawn → Drawn
also x dry = dry
also x (drew xs) = drew (x ∷ xs)

-- SPEC 10.1: a dry stream is number 7
abbrev pub drawn : Drawn → Result (List ℤ)
drawn dry = refused Dry
drawn (drew xs) = done xs

-- the first m draws that pass, each as its coefficient; others are skipped
unfoldable pub first : (ℕ → Bool) → (ℕ → ℤ) → List ℕ → ℕ → Drawn
first ok means xs zero = drew []
first ok means [] (suc m) = dry
first ok means (x ∷ xs) (suc m) =
    let used = also (means x) (first ok means xs m) in
    let skipped = first ok means xs (suc m) in
    pick (ok x) used skipped

-- whole groups of g bytes, each a little-endian number; a last group that is cut short is not used
abbrev pub groups : ℕ → List ℕ → List ℕ
groups g bs = codes (8 * g) (length bs / g) bs

-- SPEC 5.2: a
unfoldable pub sample_a : Set → List ℕ → Drawn
sample_a p bs = first (λ v. ltb v p.q) pos (map (λ v. v % 2 ^ p.abits) (groups p.abytes bs)) p.n

-- SPEC 5.3: s
unfoldable pub sample_s : Set → List ℕ → Drawn
sample_s p bs =
    first (λ v. leb v (2 * p.eta)) (λ v. pos p.eta -ℤ pos v)
    (codes p.sbits (length bs / p.sbytes * (8 * p.sbytes / p.sbits)) bs) p.n

-- SPEC 5.5: a 1 means -1
abbrev pub sign : ℕ → ℤ
sign b = cond (eqb b 1) (negsuc 0) (pos 1)

-- SPEC 5.5: m steps from place i on
unfoldable pub placed : List ℕ → ℕ → ℕ → ℕ → List ℤ → Drawn
placed js zero i signs c = drew c
placed [] (suc m) i signs c = dry
placed (j ∷ js) (suc m) i signs c =
    let used = placed js m (i + 1) (signs / 2) (set (set c i (get_or c j (pos 0))) j (sign (signs % 2))) in
    let again = placed js (suc m) i signs c in
    pick (leb j i) used again

-- SPEC 5.5: the challenge
unfoldable pub challenge : Set → List ℕ → Drawn
challenge p bs =
    placed (map (λ v. v % 2 ^ p.jbits) (groups 2 (drop 8 bs))) p.tau (p.n - p.tau)
    (value 256 (take 8 bs)) (replicate p.n (pos 0))
