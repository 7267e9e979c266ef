-- Laws of the lanes that a block's bytes make. Assumes nothing.
use Rattle.std.proofs.Common.{◌≡◌, ℕ, zero, suc, ◌+◌, ◌*◌, ◌/◌, ◌<◌, ◌≤◌, List, [], length, get_or, take, drop, refl, sym, ap, ◌∙◌, arith, lit<, add-zero, get_or-take, get_or-drop, ⊎_elim}
use Rattle.std.proofs.lemmas.List.{drop-drop, get_or_past}
use Rattle.std.proofs.lemmas.Bool.{cases_lt}
use Rattle.std.specs.Int.{from_le_bytes, w64}
use Rattle.std.specs.Simd.{first_chunks}
use Rattle.shake.specs.Shake.{word}

-- lane i of a block that is cut in lanes
abbrev pub lane_of : List (List ℕ) → ℕ → ℕ
lane_of lanes i = from_le_bytes w64 (get_or lanes i [])

-- eight bytes read as `from_le_bytes` reads them
word_of_eight : (p : List ℕ) (i : ℕ) → from_le_bytes w64 (take 8 (drop i p)) ≡ word p i
unfolding word
word_of_eight p i =
    let at : (k : ℕ) → k < 8 → get_or (take 8 (drop i p)) k 0 ≡ get_or p (i + k) 0 = λ k h. get_or-take 8 (drop i p) k 0 h ∙ get_or-drop i p k 0 in
    simp (add-zero, at 0 (lit< tt), at 1 (lit< tt), at 2 (lit< tt), at 3 (lit< tt), at 4 (lit< tt), at 5 (lit< tt), at 6 (lit< tt), at 7 (lit< tt))

chunk_at : (n k : ℕ) (p : List ℕ) (i j : ℕ) → i < k → j ≡ n * i → get_or (first_chunks n k p) i [] ≡ take n (drop j p)
chunk_at n zero p i j h e = absurd (omega arith)
chunk_at n (suc k) p zero j h e =
    let z : j ≡ 0 = omega arith in
    ap (λ (m : ℕ). take n (drop m p)) (sym z)
chunk_at n (suc k) p (suc i) j h e =
    let z : n + n * i ≡ j = omega arith in
    chunk_at n k (drop n p) i (n * i) (omega arith) refl ∙ ap (take n) (drop-drop (n * i) n p ∙ ap (λ (m : ℕ). drop m p) z)

word_past : (p : List ℕ) (i : ℕ) → length p ≤ i → word p i ≡ 0
unfolding word
word_past p i h =
    let past : (k : ℕ) → get_or p (i + k) 0 ≡ 0 = λ k. get_or_past p (i + k) 0 (omega arith) in
    simp (past, get_or_past p i 0 h)

length-first_chunks : (n k : ℕ) (p : List ℕ) → length (first_chunks n k p) ≡ k
length-first_chunks n zero p = refl
length-first_chunks n (suc k) p = ap suc (length-first_chunks n k (drop n p))

pub lane_of_block : (p : List ℕ) (i : ℕ) {lanes : List (List ℕ)} → length p ≡ 136 → lanes ≡ first_chunks 8 (length p / 8) p → lane_of lanes i ≡ word p (8 * i)
lane_of_block p i {lanes} l e =
    ⊎_elim
    (λ (h : i < length p / 8). ap (λ (b : List (List ℕ)). lane_of b i) e ∙ ap (from_le_bytes w64) (chunk_at 8 (length p / 8) p i (8 * i) h refl) ∙ word_of_eight p (8 * i))
    (λ (h : length p / 8 ≤ i).
    let past = get_or_past (first_chunks 8 (length p / 8) p) i [] (omega (arith, length-first_chunks 8 (length p / 8) p)) in
    ap (λ (b : List (List ℕ)). lane_of b i) e ∙ ap (from_le_bytes w64) past ∙ sym (word_past p (8 * i) (omega arith)))
    (cases_lt i (length p / 8))
