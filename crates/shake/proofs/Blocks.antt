-- Laws of absorbing whole blocks, with what is left of a message kept for later. Assumes nothing.
use Rattle.std.proofs.Common.{◌≡◌, ℕ, zero, suc, ◌+◌, ◌*◌, ◌/◌, ◌%◌, ◌-◌, ◌≤◌, ◌<◌, List, [], ◌∷◌, ◌++◌, length, take, drop, replicate, refl, arith, length-append, length-drop, append_assoc, take_all, drop-drop}
use Rattle.std.proofs.Math.Nat.{zero-add, suc-add}
use Rattle.std.proofs.lemmas.List.{take-append-le, drop-append-le, drop_all, length-replicate}
use Rattle.std.specs.List.{fold}
use Rattle.std.specs.Simd.{first_chunks}
use Rattle.keccak.specs.Keccak.{keccak}
use Rattle.shake.specs.Shake.{absorbed, xored, pad, padded, zeros}
use Rattle.shake.specs.Inner.{whole, left, taken}

-- n blocks do not depend on what follows them
absorbed-append : (n : ℕ) (p q : List ℕ) (s : List (List ℕ)) → 136 * n ≤ length p → absorbed n (p ++ q) s ≡ absorbed n p s
unfolding absorbed
absorbed-append zero p q s h = refl
absorbed-append (suc n) p q s h =
    let block : 136 ≤ length p = omega arith in
    rw (take-append-le 136 p q block, drop-append-le 136 p q block) (absorbed-append n (drop 136 p) q (keccak (xored s (take 136 p))) (omega (arith, length-drop 136 p)))

absorbed-add : (n k : ℕ) (p : List ℕ) (s : List (List ℕ)) → absorbed (n + k) p s ≡ absorbed k (drop (n * 136) p) (absorbed n p s)
unfolding absorbed
absorbed-add zero k p s = rw zero-add refl
absorbed-add (suc n) k p s =
    let e : 136 + n * 136 ≡ suc n * 136 = omega arith in
    rw (suc-add n k, absorbed-add n k (drop 136 p) (keccak (xored s (take 136 p))), drop-drop (n * 136) 136 p, e) refl

-- ---- a message in two parts

length-left : (p : List ℕ) → length (left p) ≡ length p % 136
unfolding left
length-left p = omega (arith, length-drop (length p / 136 * 136) p)

module _ (p q : List ℕ) where
  blocks_joined : length (p ++ q) / 136 ≡ length p / 136 + length (left p ++ q) / 136
  blocks_joined = omega (arith, length-append p q, length-append (left p) q, length-left p)

  cut : drop (length p / 136 * 136) (p ++ q) ≡ left p ++ q
  unfolding left
  cut = drop-append-le (length p / 136 * 136) p q (omega arith)

  whole-append : (s : List (List ℕ)) → whole (p ++ q) s ≡ whole (left p ++ q) (whole p s)
  unfolding whole
  whole-append s = rw (blocks_joined, absorbed-add, cut, absorbed-append (length p / 136) p q s (omega arith)) refl

  left-append : left (p ++ q) ≡ left (left p ++ q)
  unfolding left
  left-append =
      let n = length p / 136 in
      let k = length (left p ++ q) / 136 in
      let e : (n + k) * 136 ≡ n * 136 + k * 136 = omega arith in
      rw (blocks_joined, e, ← drop-drop (k * 136) (n * 136) (p ++ q), cut) refl

pub taken-append : (s : List (List ℕ) × List ℕ) (x y : List ℕ) → taken (taken s x) y ≡ taken s (x ++ y)
unfolding taken
taken-append s x y = rw (← append_assoc s.1 x y, whole-append (s.1 ++ x) y s.0, left-append (s.1 ++ x) y) refl

-- ---- less than a block, and a block

pub taken_short : (s : List (List ℕ)) (p m : List ℕ) → length p + length m < 136 → taken (s, p) m ≡ (s, p ++ m)
unfolding whole left absorbed taken
taken_short s p m h =
    let e : length (p ++ m) / 136 ≡ 0 = omega (arith, length-append p m) in
    rw e refl

none_left : (p : List ℕ) → length p ≡ 136 → left p ≡ []
unfolding left
none_left p h = drop_all (length p / 136 * 136) p (omega arith)

one_absorbed : (p : List ℕ) (s : List (List ℕ)) → length p ≡ 136 → absorbed 1 p s ≡ keccak (xored s p)
unfolding absorbed
one_absorbed p s h = rw (take_all 136 p (omega arith)) refl

pub whole_one : (p : List ℕ) (s : List (List ℕ)) → length p ≡ 136 → absorbed (length p / 136) p s ≡ absorbed 1 p s
whole_one p s h =
    let e : length p / 136 ≡ 1 = omega arith in
    rw e refl

whole_block : (p : List ℕ) (s : List (List ℕ)) → length p ≡ 136 → whole p s ≡ keccak (xored s p)
unfolding whole
whole_block p s h = rw whole_one (one_absorbed p s h)

-- blocks are absorbed one after the other
absorbed_chunks : (n : ℕ) (p : List ℕ) (s : List (List ℕ)) → fold (λ s b. keccak (xored s b)) s (first_chunks 136 n p) ≡ absorbed n p s
unfolding absorbed
absorbed_chunks zero p s = refl
absorbed_chunks (suc n) p s = absorbed_chunks n (drop 136 p) (keccak (xored s (take 136 p)))

-- p is full with the beginning of m, and whole blocks of m follow it
pub taken_blocks : (s : List (List ℕ)) (p start rest : List ℕ) {blocks : List (List ℕ)} {last : List ℕ} → length (p ++ start) ≡ 136
    → blocks ≡ first_chunks 136 (length rest / 136) rest → last ≡ drop (length rest / 136 * 136) rest
    → taken (s, p) (start ++ rest) ≡ (fold (λ s b. keccak (xored s b)) (keccak (xored s (p ++ start))) blocks, last)
unfolding whole left taken
taken_blocks s p start rest h e f =
    rw (
      ← append_assoc p start rest,
      whole-append (p ++ start) rest s,
      left-append (p ++ start) rest,
      none_left (p ++ start) h,
      whole_block (p ++ start) s h,
      e,
      absorbed_chunks (length rest / 136) rest (keccak (xored s (p ++ start))),
      f,
    ) refl

-- ---- the whole message

pad-length : (q : ℕ) → length (pad q) ≡ q
pad-length zero = refl
pad-length (suc zero) = refl
pad-length (suc (suc k)) = omega (arith, length-append {A = ℕ} (replicate k 0) (0x80 ∷ []), length-replicate {A = ℕ} k 0)

-- the last block, padded, after a message that is taken in
pub taken-padded : (m : List ℕ) {s : List (List ℕ) × List ℕ} → s ≡ taken (zeros, []) m
    → keccak (xored s.0 (s.1 ++ pad (136 - length s.1))) ≡ absorbed (length m / 136 + 1) (padded m) zeros
unfolding taken padded whole
taken-padded m e =
    let q = pad (136 - length m % 136) in
    let full : length (left m ++ q) ≡ 136 = omega (arith, length-append (left m) q, length-left m, pad-length (136 - length m % 136)) in
    rw (e, length-left m, absorbed-add (length m / 136) 1 (m ++ q) zeros, cut m q, absorbed-append (length m / 136) m q zeros (omega arith), one_absorbed (left m ++ q) _ full) refl
