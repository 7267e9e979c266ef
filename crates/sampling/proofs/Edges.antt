-- The definitions at the edges, and run at real size: the challenge of set 1 from SHAKE256's stream on 1, 2, 3, as an independent
-- program gives it.
use mathlib.Core.Path.{◌≡◌, refl, sym, ap, ◌∙◌}
use mathlib.Core.Bool.{Bool}
use mathlib.Core.List.{List, [], ◌∷◌, ◌++◌, map}
use mathlib.Core.Logic.{⊎_elim}
use Prim.Native.Nat.{ℕ, zero, suc, ◌+◌, ◌-◌, ◌*◌, ◌/◌, ◌%◌, ◌^◌, ◌≤◌, ◌<◌}
use native.Mathlib.Nat.{suc-mul, mul_comm, mul-le-mul_right, div-eq_of_lt-le}
use native.Mathlib.Numerals.{add-one}
use native.Mathlib.Omega.{arith}
use lib.Dec.{leb, ltb}
use lib.IntN.{ℤ, pos, negsuc, ◌-ℤ◌}
use lib.ListN.{length, get_or, take, drop, replicate, length-append, length-drop, get_or-append, get_or-eq_default}
use lib.Seq.{ext_get_or, take-append-le, drop-append-le}
use Rattle.digits.specs.Digits.{value, digits, codes}
use Rattle.digits.proofs.Codes.{length_codes}
use Rattle.residues.proofs.Order.{below_or}
use Rattle.sets.specs.Set.{Set, set1}
use Rattle.sets.specs.Good.{Good}
use Rattle.sampling.specs.Samplers.{Drawn, drew, dry, groups, first, placed, sample_a, sample_s, challenge}
use Rattle.sampling.specs.Inner.{s_draws, is_s, means_s}
use Rattle.sampling.proofs.Bounds.{some_bytes}
use Rattle.sampling.proofs.Groups.{group_at, groups_none, fields_none}

-- SPEC 5.6: an empty stream is dry
first_none : (ok : ℕ → Bool) (means : ℕ → ℤ) (n : ℕ) → 0 < n → first ok means [] n ≡ dry
unfolding first
first_none ok means zero l = absurd (omega arith)
first_none ok means (suc n) l = refl

module _ (p : Set) (good : Good p) where
  pub empty_a : sample_a p [] ≡ dry
  unfolding sample_a
  empty_a =
      ap (λ (xs : List ℕ). first (λ v. ltb v p.q) pos (map (λ v. v % 2 ^ p.abits) xs) p.n) (groups_none p.abytes [] (some_bytes p good)) ∙
      first_none (λ v. ltb v p.q) pos p.n (omega (arith, good.n_some))

  pub empty_s : sample_s p [] ≡ dry
  unfolding sample_s
  empty_s =
      ap (λ (xs : List ℕ). first (λ v. leb v (2 * p.eta)) (λ v. pos p.eta -ℤ pos v) xs p.n)
      (fields_none p.sbits (8 * p.sbytes / p.sbits) p.sbytes [] good.s_group_some) ∙
      first_none (λ v. leb v (2 * p.eta)) (λ v. pos p.eta -ℤ pos v) p.n (omega (arith, good.n_some))

-- SPEC 5.5: a challenge stream under 8 bytes is dry
placed_none : (m i signs : ℕ) (c : List ℤ) → 0 < m → placed [] m i signs c ≡ dry
unfolding placed
placed_none zero i signs c l = absurd (omega arith)
placed_none (suc m) i signs c l = refl

pub under_8 : (p : Set) → 0 < p.tau → (bs : List ℕ) → length bs < 8 → challenge p bs ≡ dry
unfolding challenge
under_8 p t bs l =
    ap (λ (xs : List ℕ). placed (map (λ v. v % 2 ^ p.jbits) xs) p.tau (p.n - p.tau) (value 256 (take 8 bs)) (replicate p.n (pos 0)))
    (groups_none 2 (drop 8 bs) (omega (arith, length-drop 8 bs))) ∙
    placed_none p.tau (p.n - p.tau) (value 256 (take 8 bs)) (replicate p.n (pos 0)) t

-- SPEC 5.2: a last group that is cut short is not used
module _ (g k : ℕ) (bs cut : List ℕ) (small : (i : ℕ) → get_or (bs ++ cut) i 0 < 256) (e : length bs ≡ k * g) (l : length cut < g) where
  small_bs : (i : ℕ) → get_or bs i 0 < 256
  small_bs i =
      ⊎_elim (λ h. rw (get_or-append bs cut 0 i h) at (small i)) (λ h. rw (get_or-eq_default bs 0 {n = i} h) (omega arith)) (below_or i (length bs))

  count : length (bs ++ cut) / g ≡ k
  count = div-eq_of_lt-le g (omega (arith, length-append bs cut)) (rw (add-one k, suc-mul k g) (omega (arith, length-append bs cut)))

  count_bs : length bs / g ≡ k
  count_bs = div-eq_of_lt-le g (omega arith) (rw (add-one k, suc-mul k g) (omega arith))

  pub cut_short : groups g (bs ++ cut) ≡ groups g bs
  cut_short =
      ext_get_or 0 (groups g (bs ++ cut)) (groups g bs)
      (length_codes (8 * g) (length (bs ++ cut) / g) (bs ++ cut) ∙ count ∙ sym (length_codes (8 * g) (length bs / g) bs ∙ count_bs))
      (λ i h. same i (rw (length_codes (8 * g) (length (bs ++ cut) / g) (bs ++ cut), count) at h))
    where
      same : (i : ℕ) → i < k → get_or (groups g (bs ++ cut)) i 0 ≡ get_or (groups g bs) i 0
      same i h =
          let m : suc i * g ≤ k * g = mul-le-mul_right g h in
          let a : g * i + g ≤ length bs = omega (arith, m, suc-mul i g, mul_comm g i, e) in
          group_at g (bs ++ cut) i small (rw count h) ∙
          ap (value 256)
          (ap (take g) (drop-append-le (g * i) bs cut (omega arith)) ∙ take-append-le g (drop (g * i) bs) cut (omega (arith, length-drop (g * i) bs))) ∙
          sym (group_at g bs i small_bs (rw count_bs h))

-- ---- runs
-- three of four bytes, lowest first; four codes of the byte 27, lowest bits first, of which the first is a 3
group_run : groups 3 (1 ∷ 2 ∷ 3 ∷ 4 ∷ []) ≡ 197121 ∷ []
unfolding value digits codes
group_run = refl

code_run : first (is_s set1) (means_s set1) (s_draws set1 (27 ∷ [])) 3 ≡ drew (negsuc 0 ∷ pos 0 ∷ pos 1 ∷ [])
unfolding value digits codes first
code_run = refl

-- the places that are not 0, in order, ten thousand more for -1
mark : ℤ → ℕ → List ℕ → List ℕ
mark (pos zero) i r = r
mark (pos (suc m)) i r = i ∷ r
mark (negsuc m) i r = (i + 10000) ∷ r

marks : ℕ → List ℤ → List ℕ
unfolding mark
marks i [] = []
marks i (x ∷ xs) = mark x i (marks (i + 1) xs)

marked : Drawn → List ℕ
unfolding marks
marked (drew c) = marks 0 c
marked dry = []

-- 120 bytes of that stream are enough for it; 99 are one draw short
abbrev stream : List ℕ
stream =
    170 ∷ 121 ∷ 200 ∷ 144 ∷ 201 ∷ 72 ∷ 58 ∷ 99 ∷ 106 ∷ 100 ∷ 238 ∷ 6 ∷ 75 ∷ 160 ∷ 214 ∷ 231 ∷ 199 ∷ 205 ∷ 171 ∷ 154 ∷
    159 ∷ 132 ∷ 255 ∷ 76 ∷ 43 ∷ 247 ∷ 252 ∷ 86 ∷ 34 ∷ 3 ∷ 38 ∷ 182 ∷ 75 ∷ 19 ∷ 74 ∷ 211 ∷ 227 ∷ 144 ∷ 136 ∷ 102 ∷
    175 ∷ 140 ∷ 53 ∷ 25 ∷ 122 ∷ 241 ∷ 18 ∷ 130 ∷ 131 ∷ 204 ∷ 190 ∷ 206 ∷ 26 ∷ 76 ∷ 86 ∷ 177 ∷ 218 ∷ 104 ∷ 81 ∷ 108 ∷
    247 ∷ 215 ∷ 222 ∷ 2 ∷ 173 ∷ 242 ∷ 217 ∷ 171 ∷ 217 ∷ 20 ∷ 78 ∷ 166 ∷ 173 ∷ 144 ∷ 173 ∷ 127 ∷ 197 ∷ 89 ∷ 245 ∷ 31 ∷
    113 ∷ 75 ∷ 98 ∷ 192 ∷ 224 ∷ 235 ∷ 248 ∷ 166 ∷ 72 ∷ 224 ∷ 202 ∷ 159 ∷ 211 ∷ 104 ∷ 55 ∷ 179 ∷ 36 ∷ 22 ∷ 188 ∷ 65 ∷
    93 ∷ 184 ∷ 121 ∷ 210 ∷ 174 ∷ 11 ∷ 107 ∷ 143 ∷ 27 ∷ 152 ∷ 29 ∷ 168 ∷ 145 ∷ 250 ∷ 127 ∷ 212 ∷ 32 ∷ 189 ∷ 24 ∷ 187 ∷ []

whole :
    marked (challenge set1 stream) ≡
    72 ∷ 75 ∷ 10098 ∷ 173 ∷ 10211 ∷ 10218 ∷ 10227 ∷ 309 ∷ 342 ∷ 10378 ∷ 444 ∷ 453 ∷ 10530 ∷
    10683 ∷ 10685 ∷ 10734 ∷ 802 ∷ 10823 ∷ 842 ∷ 10843 ∷ 881 ∷ 985 ∷ 992 ∷ 1050 ∷ 11105 ∷ []
unfolding marked value digits codes placed challenge
whole = refl

short : challenge set1 (take 99 stream) ≡ dry
unfolding value digits codes placed challenge
short = refl
