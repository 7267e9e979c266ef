-- The codes and the groups of a stream, by the numbers of its bytes.
use mathlib.Core.Path.{◌≡◌, sym, ap, ap₂, ◌∙◌}
use mathlib.Core.List.{List, [], ◌∷◌, ◌++◌, append-nil}
use Prim.Native.Nat.{ℕ, zero, suc, ◌+◌, ◌*◌, ◌/◌, ◌%◌, ◌^◌, ◌<◌}
use native.Mathlib.Nat.{add-zero, mul_assoc, mul_comm, zero-mul, mul-one, add_comm, zero-add, pow-zero, pow-suc, pow-succ', div-one, div-div-eq-div-mul, div-eq_of_lt, mod-eq_of_lt, div-lt_iff_lt-mul, add-mul-div_left, add-mul-mod_self_left, add-div_left}
use native.Mathlib.Omega.{arith}
use lib.Pow.{pow_pos}
use lib.ListN.{length, get_or, take, drop, length-append}
use Rattle.digits.specs.Digits.{value, digits, codes}
use Rattle.digits.proofs.Numbers.{Below, below_all, pow_mul, value_lt}
use Rattle.digits.proofs.Codes.{codes_at}
use Rattle.digits.proofs.Windows.{value_drop, value_take, below_drop}
use Rattle.sampling.specs.Samplers.{groups}

-- SPEC 5.2: groups, little-endian
pub group_at : (g : ℕ) (bs : List ℕ) (k : ℕ) → ((i : ℕ) → get_or bs i 0 < 256) → k < length bs / g
    → get_or (groups g bs) k 0 ≡ value 256 (take g (drop (g * k) bs))
group_at g bs k small l =
    codes_at (8 * g) (length bs / g) bs k l ∙
    ap (λ (e : ℕ). value 256 bs / 2 ^ e % 2 ^ (8 * g)) (mul_assoc 8 g k) ∙
    ap (λ (y : ℕ). y % 2 ^ (8 * g)) (value_drop (g * k) bs h) ∙
    value_take g (drop (g * k) bs) (below_drop (g * k) bs h)
  where
    h : Below 256 bs
    h = below_all 256 bs small

-- ---- a stream whose front is a whole group, or codes that fill whole bytes
value_append : (xs ys : List ℕ) → value 256 (xs ++ ys) ≡ value 256 xs + 256 ^ length xs * value 256 ys
unfolding value
value_append [] ys = rw pow-zero (omega arith)
value_append (x ∷ xs) ys =
    let i = value_append xs ys in
    rw pow-suc (omega (arith, mul_assoc 256 (256 ^ length xs) (value 256 ys)))

pub below_front : (b : ℕ) (xs ys : List ℕ) → Below b (xs ++ ys) → Below b xs
below_front b [] ys h = tt
below_front b (x ∷ xs) ys h = (h.0, below_front b xs ys h.1)

pub below_back : (b : ℕ) (xs ys : List ℕ) → Below b (xs ++ ys) → Below b ys
below_back b [] ys h = h
below_back b (x ∷ xs) ys h = below_back b xs ys h.1

-- the n lowest digits of a number, and those above them
digits_split : (b n m x : ℕ) → digits b (n + m) x ≡ digits b n x ++ digits b m (x / b ^ n)
unfolding digits
digits_split b zero m x = ap₂ (digits b) (zero-add m) (sym (div-one x) ∙ ap (λ (y : ℕ). x / y) (sym (pow-zero b)))
digits_split b (suc n) m x =
    ap (λ (k : ℕ). digits b k x) {x = suc n + m} {y = suc (n + m)} (omega arith) ∙
    ap (λ (xs : List ℕ). x % b ∷ xs)
    (digits_split b n m (x / b) ∙
    ap (λ (y : ℕ). digits b n (x / b) ++ digits b m y) (div-div-eq-div-mul x b (b ^ n) ∙ ap (λ (y : ℕ). x / y) (sym (pow-succ' b n))))

-- codes that fill whole bytes, and those after them
pub codes_append : (bs : List ℕ) → ((i : ℕ) → get_or bs i 0 < 256) → (w c m g : ℕ) → w * c ≡ 8 * g → codes w (c + m) bs ≡ codes w c bs ++ codes w m (drop g bs)
unfolding codes
codes_append bs small w c m g e =
    digits_split (2 ^ w) c m (value 256 bs) ∙
    ap (λ (x : ℕ). digits (2 ^ w) c (value 256 bs) ++ digits (2 ^ w) m x)
    (ap (λ (x : ℕ). value 256 bs / x) (pow_mul 2 w c ∙ ap (λ (x : ℕ). 2 ^ x) e) ∙ value_drop g bs (below_all 256 bs small))

-- the n lowest digits of a number below b^n, and those of what stands above it
digits_append : (b n m v r : ℕ) → 0 < b → v < b ^ n → digits b (n + m) (v + b ^ n * r) ≡ digits b n v ++ digits b m r
unfolding digits
digits_append b zero m v r p h =
    let z : v ≡ 0 = omega (arith, pow-zero b) in
    rw (z, pow-zero, zero-add m) (ap (digits b m) {x = 0 + 1 * r} {y = r} (omega arith))
digits_append b (suc n) m v r p h =
    let e : v + b ^ suc n * r ≡ v + b * (b ^ n * r) = ap (λ (y : ℕ). v + y) (rw (pow-suc, mul_comm (b ^ n) b) (mul_assoc b (b ^ n) r)) in
    ap (λ (k : ℕ). digits b k (v + b ^ suc n * r)) {x = suc n + m} {y = suc (n + m)} (omega arith) ∙
    ap (digits b (suc (n + m))) e ∙
    ap₂ ◌∷◌ (add-mul-mod_self_left v b (b ^ n * r))
    (ap (digits b (n + m)) (add-mul-div_left v (b ^ n * r) p) ∙ digits_append b n m (v / b) r p ((div-lt_iff_lt-mul p).1 (rw pow-suc at h)))

module _ (x : List ℕ) (below : Below 256 x) (rest : List ℕ) where
  codes_joined : (w c m : ℕ) → w * c ≡ 8 * length x → codes w (c + m) (x ++ rest) ≡ codes w c x ++ codes w m rest
  unfolding codes
  codes_joined w c m e =
      let power : 256 ^ length x ≡ (2 ^ w) ^ c = pow_mul 2 8 (length x) ∙ ap (λ (y : ℕ). 2 ^ y) (sym e) ∙ sym (pow_mul 2 w c) in
      ap (digits (2 ^ w) (c + m)) (value_append x rest ∙ ap (λ (y : ℕ). value 256 x + y * value 256 rest) power) ∙
      digits_append (2 ^ w) c m (value 256 x) (value 256 rest) (pow_pos w) (rw power at (value_lt 256 x below))

  -- those of the front alone
  pub codes_front : (w c : ℕ) → w * c ≡ 8 * length x → codes w c (x ++ rest) ≡ codes w c x
  unfolding codes digits
  codes_front w c e =
      ap (λ (n : ℕ). codes w n (x ++ rest)) (sym (add-zero c)) ∙ codes_joined w c 0 e ∙ append-nil (codes w c x)

  count : (g : ℕ) → 0 < g → length x ≡ g → length (x ++ rest) / g ≡ 1 + length rest / g
  count g h l = ap (λ (n : ℕ). n / g) (length-append x rest ∙ ap (λ (n : ℕ). n + length rest) l) ∙ add-div_left (length rest) h ∙ add_comm (length rest / g) 1

  -- one group, and the rest
  pub groups_next : (g : ℕ) → 0 < g → length x ≡ g → groups g (x ++ rest) ≡ value 256 x ∷ groups g rest
  unfolding codes digits
  groups_next g h l =
      ap (λ (n : ℕ). codes (8 * g) n (x ++ rest)) (count g h l) ∙
      codes_joined (8 * g) 1 (length rest / g) (rw l (mul-one (8 * g))) ∙
      ap (λ (y : ℕ). y ∷ groups g rest) (mod-eq_of_lt (rw (pow_mul 2 8 (length x), l) at (value_lt 256 x below)))

  -- the codes of one group, and the rest
  pub fields_next : (w c g : ℕ) → w * c ≡ 8 * g → 0 < g → length x ≡ g
      → codes w (length (x ++ rest) / g * c) (x ++ rest) ≡ codes w c x ++ codes w (length rest / g * c) rest
  fields_next w c g e h l =
      ap (λ (n : ℕ). codes w n (x ++ rest)) (ap (λ (n : ℕ). n * c) (count g h l) ∙ omega arith) ∙
      codes_joined w c (length rest / g * c) (rw l e)

pub groups_none : (g : ℕ) (bs : List ℕ) → length bs < g → groups g bs ≡ []
unfolding codes digits
groups_none g bs l = ap (λ (n : ℕ). codes (8 * g) n bs) (div-eq_of_lt l)

pub fields_none : (w c g : ℕ) (bs : List ℕ) → length bs < g → codes w (length bs / g * c) bs ≡ []
unfolding codes digits
fields_none w c g bs l = ap (λ (n : ℕ). codes w (n * c) bs) (div-eq_of_lt l) ∙ ap (λ (n : ℕ). codes w n bs) (zero-mul c)
