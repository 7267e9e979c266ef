-- A number written byte by byte, and gathered code by code.
use mathlib.Core.Path.{◌≡◌, sym, ap, ◌∙◌}
use mathlib.Core.List.{List, [], ◌∷◌, ◌++◌}
use Prim.Native.Nat.{ℕ, suc, ◌+◌, ◌-◌, ◌*◌, ◌/◌, ◌%◌, ◌^◌, ◌≤◌, ◌<◌}
use native.Mathlib.Nat.{mod-add-div, mod-lt, pow-suc, pow-zero, mul_comm, mul-le-mul_left, mul-le-mul_right, div-lt_iff_lt-mul, div-eq_of_lt, lt_of_lt_of_le}
use native.Mathlib.Omega.{arith}
use native.Mathlib.Decide.{ℕ_discrete}
use lib.Dec.{lit<}
use lib.Pow.{pow-add, pow_mono}
use lib.ListN.{length, get_or, take, set, length-set}
use Rattle.std.proofs.lemmas.List.{take_more, take_more_set, take_all, length-take-le, get_or-set_same, get_or-set_other}
use Rattle.digits.specs.declared.Waiting.{Waiting}
use Rattle.digits.specs.Digits.{value, bytes, byte_count}
use Rattle.digits.specs.Inner.{Pushed, Flushed, number}
use Rattle.digits.proofs.Numbers.{below_all, digits_value, pow_mul}

-- one digit more at the top
pub value_snoc : (b : ℕ) (xs : List ℕ) (x : ℕ) → value b (xs ++ (x ∷ [])) ≡ value b xs + b ^ length xs * x
unfolding value
value_snoc b [] x = rw pow-zero (omega arith)
value_snoc b (y ∷ ys) x = rw (value_snoc b ys x, pow-suc b (length ys)) (omega arith)

value_more : (b : ℕ) (xs : List ℕ) (i : ℕ) → i < length xs → value b (take (i + 1) xs) ≡ value b (take i xs) + b ^ i * get_or xs i 0
value_more b xs i l =
    let n : length (take i xs) ≡ i = length-take-le i xs (omega arith) in
    rw (take_more xs i 0 l, value_snoc b (take i xs) (get_or xs i 0), n)

-- a byte is written
pub byte_out : (out : List ℕ) (at held : ℕ) → at < length out
    → value 256 (take (at + 1) (set out at (held % 256))) + 2 ^ (8 * (at + 1)) * (held / 256) ≡ value 256 (take at out) + 2 ^ (8 * at) * held
byte_out out at held l =
    let n : length (take at out) ≡ at = length-take-le at out (omega arith) in
    let p : 256 ^ at ≡ 2 ^ (8 * at) = pow_mul 2 8 at in
    let e : 8 * (at + 1) ≡ 8 * at + 8 = omega arith in
    let s : 2 ^ (8 * at + 8) ≡ 2 ^ (8 * at) * 256 = pow-add 2 (8 * at) 8 in
    rw (take_more_set out at (held % 256) l, value_snoc 256 (take at out) (held % 256), n, p, e, s)
    (sums (value 256 (take at out)) (2 ^ (8 * at)) (held % 256) (held / 256) held (mod-add-div held 256))
  where
    sums : (v p r d h : ℕ) → r + 256 * d ≡ h → v + p * r + p * 256 * d ≡ v + p * h
    sums v p r d h e = rw (← e) (omega arith)

-- and the bits that wait are eight fewer
pub fewer : (held bits : ℕ) → 8 ≤ bits → held < 2 ^ bits → held / 256 < 2 ^ (bits - 8)
fewer held bits l h =
    let e : bits ≡ bits - 8 + 8 = omega arith in
    let s : 2 ^ (bits - 8 + 8) ≡ 2 ^ (bits - 8) * 256 = pow-add 2 (bits - 8) 8 in
    (div-lt_iff_lt-mul {k = 256} (lit< tt)).1 (omega (arith, s, ap (λ (x : ℕ). 2 ^ x) e))

-- a code of w bits comes in above the bits that wait
pub code_below : (w bits held c : ℕ) → held < 2 ^ bits → c < 2 ^ w → held + c * 2 ^ bits < 2 ^ (bits + w)
code_below w bits held c h l =
    omega (arith, pow-add 2 bits w, mul_comm (2 ^ bits) (2 ^ w), mul-le-mul_right {m = suc c} {n = 2 ^ w} (2 ^ bits) l)

pub code_in : (w i at bits held c v : ℕ) → 8 * at + bits ≡ w * i → v + 2 ^ (8 * at) * (held + c * 2 ^ bits) ≡ v + 2 ^ (8 * at) * held + (2 ^ w) ^ i * c
code_in w i at bits held c v e =
    let p : (2 ^ w) ^ i ≡ 2 ^ (8 * at) * 2 ^ bits = rw (pow_mul 2 w i, ← e) (pow-add 2 (8 * at) bits) in
    rw p (omega arith)

-- bytes whose number is that of the codes are the packed codes
pub packed_is : (w : ℕ) (cs out : List ℕ) (m : ℕ) → length out ≡ m → ((k : ℕ) → get_or out k 0 < 256) → value 256 out ≡ value (2 ^ w) cs → out ≡ bytes w m cs
unfolding bytes
packed_is w cs out m l b e = sym (rw (← e, ← l) (digits_value 256 out (below_all 256 out b)))

-- i codes are gathered, in bytes that are written and bits that wait
pub record Gathered (cs : List ℕ) (w : ℕ) (out : List ℕ) (r : Waiting) (i : ℕ) : Type 0 where
  pub long : length out ≡ byte_count w (length cs)
  pub same : number out r ≡ value (2 ^ w) (take i cs)
  pub place : 8 * r.at + r.bits ≡ w * i
  pub few : r.bits < 8
  pub below : r.held < 2 ^ r.bits
  pub each : (k : ℕ) → get_or out k 0 < 256

module _ {cs : List ℕ} {w : ℕ} {out : List ℕ} {r : Waiting} {i : ℕ} (G : Gathered cs w out r i) where
  module _ {s : Waiting} (A : Pushed r (get_or cs i 0) w s) (l : i < length cs) where
    pub can_flush : w ≤ 20 → get_or cs i 0 < 2 ^ w
        → (s.held < 2 ^ s.bits) × (s.bits ≤ 32) × (8 * s.at + s.bits ≤ 8 * length out)
    can_flush width small = (
      rw (A.held, A.bits) (code_below w r.bits r.held (get_or cs i 0) G.below small),
      omega arith,
      omega (arith, mul-le-mul_left {m = suc i} {n = length cs} w l),
    )

    pub gathered_more : {more : List ℕ} {t : Waiting} → Flushed out s more t → ((k : ℕ) → get_or more k 0 < 256) → Gathered cs w more t (i + 1)
    gathered_more {more} {t} F each = record {
      long = F.long ∙ G.long;
      same =
          F.same ∙
          rw (A.held, A.at)
          (code_in w i r.at r.bits r.held (get_or cs i 0) (value 256 (take r.at out)) G.place ∙
          rw (G.same, value_more (2 ^ w) cs i l));
      place = omega arith;
      few = F.few;
      below = F.below;
      each = each;
    }

  -- all are: with bits that are left over, or with none
  module _ (e : i ≡ length cs) where
    full : w * i ≡ w * length cs
    full = ap (λ (k : ℕ). w * k) e

    all : value (2 ^ w) (take i cs) ≡ value (2 ^ w) cs
    all = ap (value (2 ^ w)) (take_all i cs (omega arith))

    pub last_place : 0 < r.bits → r.at < length out
    last_place h = omega (arith, full)

    pub gathered_last : 0 < r.bits → set out r.at (r.held % 256) ≡ bytes w (byte_count w (length cs)) cs
    gathered_last h =
        let x : ℕ = r.held % 256 in
        let p : r.at < length out = last_place h in
        let z : r.held / 256 ≡ 0 = div-eq_of_lt (lt_of_lt_of_le G.below (pow_mono {i = r.bits} {j = 8} (omega arith))) in
        let t : take (r.at + 1) (set out r.at x) ≡ set out r.at x = take_all (r.at + 1) (set out r.at x) (rw (length-set out r.at x) (omega (arith, full))) in
        packed_is w cs (set out r.at x) (byte_count w (length cs)) (length-set out r.at x ∙ G.long) (λ k. within_256 k (ℕ_discrete k r.at))
        (omega (arith, rw (t, z) at (byte_out out r.at r.held p), all))
      where
        within_256 : (k : ℕ) → Dec (k ≡ r.at) → get_or (set out r.at (r.held % 256)) k 0 < 256
        within_256 k (yes q) = rw (q, get_or-set_same out r.at (r.held % 256) 0 (last_place h)) (mod-lt r.held (lit< tt))
        within_256 k (no q) = rw (get_or-set_other out r.at k (r.held % 256) 0 q) (G.each k)

    pub gathered_all : r.bits ≤ 0 → out ≡ bytes w (byte_count w (length cs)) cs
    gathered_all h =
        let b : r.bits ≡ 0 = omega arith in
        let z : r.held ≡ 0 = omega (arith, rw b at G.below) in
        let t : take r.at out ≡ out = take_all r.at out (omega (arith, full)) in
        packed_is w cs out (byte_count w (length cs)) G.long G.each (omega (arith, rw (t, z) at G.same, all))
