-- Elements: packing and unpacking are inverse on allowed values, and fill bits are zero.
use mathlib.Core.Path.{◌≡◌, refl, sym, ap, ap₂, ◌∙◌}
use mathlib.Core.Bool.{Bool, true, false}
use mathlib.Core.List.{List, [], ◌∷◌, map}
use Prim.Native.Nat.{ℕ, zero, suc, ◌*◌, ◌^◌, ◌<◌}
use native.Mathlib.Nat.{lt_of_lt_of_le}
use native.Mathlib.Omega.{arith}
use lib.Dec.{lit<}
use lib.Pow.{pow_mono}
use lib.ListN.{length, get_or, length-map}
use lib.IntN.{ℤ, pos}
use Rattle.answers.specs.declared.Refusal.{Refusal}
use Rattle.answers.specs.Result.{done, ◌>>◌, need}
use Rattle.digits.specs.Digits.{value, codes, bytes}
use Rattle.digits.proofs.Numbers.{Below, below_all, value_lt, value_digits, pow_mul, unpack_pack, pack_unpack_filled, length_bytes}
use Rattle.layouts.specs.declared.layout.Layout.{Layout}
use Rattle.layouts.specs.Layouts.{means, code, allowed, holds, every, size, pack, unpack}
use Rattle.answers.proofs.Results.{then-inv, done_inv}
use Rattle.layouts.proofs.Kept.{Kept, kept_code, kept_of, code_means}
pub use Rattle.digits.proofs.Codes.{length_codes, codes_below}

-- ---- a test of every element
module _ {A : Type 0} (d : A) (ok : A → Bool) (refusal : ℕ → Refusal) where
  pub every_done : (i : ℕ) (xs : List A) → ((k : ℕ) → k < length xs → ok (get_or xs k d) ≡ true) → every ok refusal i xs ≡ done tt
  unfolding every
  every_done i [] h = refl
  every_done i (x ∷ xs) h = rw (h 0 (omega arith)) (every_done (suc i) xs (λ k l. h (suc k) (omega arith)))

  pub every_inv : (i : ℕ) (xs : List A) → every ok refusal i xs ≡ done tt → (k : ℕ) → k < length xs → ok (get_or xs k d) ≡ true
  unfolding every
  every_inv i [] e = λ k l. absurd (omega arith)
  every_inv i (x ∷ xs) e = by (ok x) refl e (every_inv (suc i) xs)
    where
      by : (b : Bool) → ok x ≡ b → need b (refusal i) >> every ok refusal (suc i) xs ≡ done tt
          → (every ok refusal (suc i) xs ≡ done tt → (k : ℕ) → k < length xs → ok (get_or xs k d) ≡ true)
          → (k : ℕ) → k < suc (length xs) → ok (get_or (x ∷ xs) k d) ≡ true
      by true a e ih zero l = a
      by true a e ih (suc k) l = ih e k (omega arith)
      by false a e ih k l = cc

-- ---- lists of values
-- n values that a layout keeps
pub record Element (L : Layout) (n : ℕ) (zs : List ℤ) : Type 0 where
  pub long : length zs ≡ n
  pub kept : (k : ℕ) → k < n → Kept L (get_or zs k (pos 0))

-- the same by the test of a value
abbrev pub Allowed : Layout → ℕ → List ℤ → Type 0
Allowed L n zs = (length zs ≡ n) × ((k : ℕ) → k < n → holds L (get_or zs k (pos 0)) ≡ true)

pub element_of : (L : Layout) (n : ℕ) (zs : List ℤ) → L.most < 2 ^ L.bits → Allowed L n zs → Element L n zs
element_of L n zs f a = record { long = a.0; kept = λ k l. kept_of L (get_or zs k (pos 0)) f (a.1 k l) }

-- E13: the bits above the last code are zero
abbrev pub ZeroFill : Layout → ℕ → List ℕ → Type 0
ZeroFill L n bs = value 256 bs < 2 ^ (L.bits * n)

-- the codes fill their bytes, so that there are no such bits
abbrev pub Full : Layout → ℕ → Type 0
Full L n = 8 * size L n ≡ L.bits * n

module _ (L : Layout) where
  pub below_kept : (zs : List ℤ) → ((k : ℕ) → k < length zs → Kept L (get_or zs k (pos 0))) → Below (2 ^ L.bits) (map (code L) zs)
  below_kept [] h = tt
  below_kept (z ∷ zs) h = ((h 0 (omega arith)).fits, below_kept zs (λ k l. h (suc k) (omega arith)))

  allowed_kept : (zs : List ℤ) → ((k : ℕ) → k < length zs → Kept L (get_or zs k (pos 0))) → (k : ℕ) → k < length (map (code L) zs) → allowed L (get_or (map (code L) zs) k 0) ≡ true
  allowed_kept [] h k l = absurd (omega arith)
  allowed_kept (z ∷ zs) h zero l = (h 0 (omega arith)).allowed
  allowed_kept (z ∷ zs) h (suc k) l = allowed_kept zs (λ j m. h (suc j) (omega arith)) k (omega arith)

  means_kept : (zs : List ℤ) → ((k : ℕ) → k < length zs → Kept L (get_or zs k (pos 0))) → map (means L) (map (code L) zs) ≡ zs
  means_kept [] h = refl
  means_kept (z ∷ zs) h = ap₂ ◌∷◌ (h 0 (omega arith)).back (means_kept zs (λ k l. h (suc k) (omega arith)))

  pub codes_again : (vs : List ℕ) → map (code L) (map (means L) vs) ≡ vs
  codes_again [] = refl
  codes_again (v ∷ vs) = ap₂ ◌∷◌ (code_means L v) (codes_again vs)

  get_or_means : (vs : List ℕ) (k : ℕ) → k < length vs → get_or (map (means L) vs) k (pos 0) ≡ means L (get_or vs k 0)
  get_or_means [] k l = absurd (omega arith)
  get_or_means (v ∷ vs) zero l = refl
  get_or_means (v ∷ vs) (suc k) l = get_or_means vs k (omega arith)

module _ (L : Layout) (n : ℕ) where
  pub length_pack : (zs : List ℤ) → length (pack L n zs) ≡ size L n
  unfolding pack
  length_pack zs = length_bytes L.bits (size L n) (map (code L) zs)

  -- unpacking goes by the codes alone
  pub unpack_of_codes : (refusal : ℕ → Refusal) (bs : List ℕ) (zs : List ℤ) → Element L n zs → codes L.bits n bs ≡ map (code L) zs → unpack L refusal n bs ≡ done zs
  unfolding unpack
  unpack_of_codes refusal bs zs E e =
      let h : (k : ℕ) → k < length zs → Kept L (get_or zs k (pos 0)) = λ k l. E.kept k (omega (arith, E.long)) in
      rw (e, every_done 0 (allowed L) refusal 0 (map (code L) zs) (allowed_kept L zs h)) (ap done (means_kept L zs h))

  codes_packed : (zs : List ℤ) → Element L n zs → codes L.bits n (pack L n zs) ≡ map (code L) zs
  unfolding pack
  codes_packed zs E =
      unpack_pack L.bits n (size L n) (map (code L) zs) (below_kept L zs (λ k l. E.kept k (omega (arith, E.long)))) (length-map zs (code L) ∙ E.long) (omega arith)

  pub unpack_element : (refusal : ℕ → Refusal) (zs : List ℤ) → Element L n zs → unpack L refusal n (pack L n zs) ≡ done zs
  unpack_element refusal zs E = unpack_of_codes refusal (pack L n zs) zs E (codes_packed zs E)

  -- E13: a fill bit of what was packed is zero
  pub filled : (zs : List ℤ) → length zs ≡ n → ((k : ℕ) → k < n → Kept L (get_or zs k (pos 0))) → ZeroFill L n (pack L n zs)
  unfolding pack bytes
  filled zs e h =
      let l : length (map (code L) zs) ≡ n = length-map zs (code L) ∙ e in
      let v : value (2 ^ L.bits) (map (code L) zs) < 2 ^ (L.bits * n) =
      rw (pow_mul, l) at (value_lt (2 ^ L.bits) (map (code L) zs) (below_kept L zs (λ k m. h k (omega arith)))) in
      rw (value_digits 256 (size L n) (value (2 ^ L.bits) (map (code L) zs)) (lit< tt)
      (lt_of_lt_of_le v (rw (pow_mul 2 8 (size L n)) (pow_mono {i = L.bits * n} {j = 8 * size L n} (omega arith))))) v

  -- what a successful unpacking says
  pub record WasRead (bs : List ℕ) (zs : List ℤ) : Type 0 where
    pub values : zs ≡ map (means L) (codes L.bits n bs)
    pub again : map (code L) zs ≡ codes L.bits n bs
    pub element : Element L n zs
    pub each : (k : ℕ) → k < n → (v : ℕ) × (get_or zs k (pos 0) ≡ means L v) × (allowed L v ≡ true)

  pub was_read : (refusal : ℕ → Refusal) (bs : List ℕ) (zs : List ℤ) → unpack L refusal n bs ≡ done zs → WasRead bs zs
  unfolding unpack
  was_read refusal bs zs e = record {
    values = v;
    again = ap (map (code L)) v ∙ codes_again L cs;
    element = record { long = ap length v ∙ length-map cs (means L) ∙ long; kept = λ k l. rw (each k l).1 (kept_code L (get_or cs k 0) (codes_below L.bits n bs k) (each k l).2) };
    each = each;
  }
    where
      cs : List ℕ
      cs = codes L.bits n bs

      v : zs ≡ map (means L) cs
      v = sym (done_inv (map (means L) cs) zs (then-inv (every (allowed L) refusal 0 cs) (done (map (means L) cs)) zs e).2)

      long : length cs ≡ n
      long = length_codes L.bits n bs

      good : (k : ℕ) → k < n → allowed L (get_or cs k 0) ≡ true
      good k l = every_inv 0 (allowed L) refusal 0 cs (then-inv (every (allowed L) refusal 0 cs) (done (map (means L) cs)) zs e).1 k (omega (arith, long))

      each : (k : ℕ) → k < n → (u : ℕ) × (get_or zs k (pos 0) ≡ means L u) × (allowed L u ≡ true)
      each k l = (get_or cs k 0, ap (λ (ys : List ℤ). get_or ys k (pos 0)) v ∙ get_or_means L cs k (omega (arith, long)), good k l)

  -- the other way round: bytes whose codes are allowed, with zero fill bits, are packed again into themselves
  pub pack_unpacked : (refusal : ℕ → Refusal) (bs : List ℕ) (zs : List ℤ) → ((k : ℕ) → get_or bs k 0 < 256) → length bs ≡ size L n
      → ZeroFill L n bs → unpack L refusal n bs ≡ done zs → pack L n zs ≡ bs
  unfolding pack
  pack_unpacked refusal bs zs b l f e =
      ap (bytes L.bits (size L n)) (was_read refusal bs zs e).again ∙
      pack_unpack_filled L.bits n (size L n) bs (below_all 256 bs b) l f

  -- there are no fill bits where the codes fill the bytes
  pub no_fill : (bs : List ℕ) → ((k : ℕ) → get_or bs k 0 < 256) → length bs ≡ size L n → Full L n → ZeroFill L n bs
  no_fill bs b l f =
      let e : 256 ^ length bs ≡ 2 ^ (L.bits * n) = pow_mul 2 8 (length bs) ∙ ap (λ (k : ℕ). 2 ^ (8 * k)) l ∙ ap (λ (k : ℕ). 2 ^ k) f in
      rw e at (value_lt 256 bs (below_all 256 bs b))
