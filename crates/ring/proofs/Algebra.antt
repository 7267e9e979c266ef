-- The algebra of the product, for every degree n and every way w of folding exponents that is multiplication by X, n at a time.
-- `step n t` is the multiplication by X where X^n = t: the product by a is the sum of a_i times its powers, so products commute.
use mathlib.Core.Path.{◌≡◌, refl, sym, ap, ◌∙◌, fun_ext}
use Prim.Native.Nat.{ℕ, zero, suc, ◌+◌, ◌-◌, ◌<◌}
use native.Mathlib.Nat.{suc-add, zero-add, add_comm}
use native.Mathlib.Omega.{arith}
use lib.IntN.{ℤ, ◌+ℤ◌, ◌*ℤ◌, *ℤ_comm}
use Rattle.ring.specs.Ring.{sum, mono, prod}
use Rattle.residues.proofs.Ints.{mul-add, add-mul, mul_assoc, mul_left_comm}
use Rattle.ring.proofs.Sums.{cong, plus, scale, scale_r, swap, pick}

-- X·v, where X^n = t
abbrev pub step : ℕ → (ℕ → ℤ) → (ℕ → ℤ) → ℕ → ℤ
step n t v zero = v (n - 1) *ℤ t zero
step n t v (suc k) = v k +ℤ v (n - 1) *ℤ t (suc k)

-- X^i·v
abbrev pub power : ℕ → (ℕ → ℤ) → ℕ → (ℕ → ℤ) → ℕ → ℤ
power n t zero v = v
power n t (suc i) v = step n t (power n t i v)

-- w folds the exponents below 2n: w e is X^e
pub record Folds (n : ℕ) (w : ℕ → ℕ → ℤ) : Type 0 where
  pub some : 0 < n
  pub stays : (e k : ℕ) → e < n → k < n → w e k ≡ mono e k
  pub next : (e k : ℕ) → suc e < n + n - 1 → k < n → w (suc e) k ≡ step n (w n) (w e) k

module _ (n : ℕ) (t : ℕ → ℤ) where
  pub step_sum : (m : ℕ) (c : ℕ → ℤ) (f : ℕ → ℕ → ℤ) (k : ℕ) → step n t (λ k. sum m (λ j. c j *ℤ f j k)) k ≡ sum m (λ j. c j *ℤ step n t (f j) k)
  step_sum m c f zero =
      sym (scale_r m (t zero) (λ j. c j *ℤ f j (n - 1)))
      ∙ cong m (λ j. c j *ℤ f j (n - 1) *ℤ t zero) (λ j. c j *ℤ (f j (n - 1) *ℤ t zero)) (λ j l. mul_assoc (c j) (f j (n - 1)) (t zero))
  step_sum m c f (suc k) =
      ap (λ x. sum m (λ j. c j *ℤ f j k) +ℤ x)
      (sym (scale_r m (t (suc k)) (λ j. c j *ℤ f j (n - 1)))
      ∙ cong m (λ j. c j *ℤ f j (n - 1) *ℤ t (suc k)) (λ j. c j *ℤ (f j (n - 1) *ℤ t (suc k))) (λ j l. mul_assoc (c j) (f j (n - 1)) (t (suc k))))
      ∙ sym (plus m (λ j. c j *ℤ f j k) (λ j. c j *ℤ (f j (n - 1) *ℤ t (suc k))))
      ∙ cong m (λ j. c j *ℤ f j k +ℤ c j *ℤ (f j (n - 1) *ℤ t (suc k))) (λ j. c j *ℤ (f j k +ℤ f j (n - 1) *ℤ t (suc k)))
      (λ j l. sym (mul-add (c j) (f j k) (f j (n - 1) *ℤ t (suc k))))

  pub power_sum : (i m : ℕ) (c : ℕ → ℤ) (f : ℕ → ℕ → ℤ) (k : ℕ) → power n t i (λ k. sum m (λ j. c j *ℤ f j k)) k ≡ sum m (λ j. c j *ℤ power n t i (f j) k)
  power_sum zero m c f k = refl
  power_sum (suc i) m c f k =
      ap (λ v. step n t v k) (fun_ext (power_sum i m c f)) ∙ step_sum m c (λ j. power n t i (f j)) k

  pub power_add : (i j : ℕ) (v : ℕ → ℤ) → power n t i (power n t j v) ≡ power n t (i + j) v
  power_add zero j v = ap (λ x. power n t x v) (sym (zero-add j))
  power_add (suc i) j v = ap (step n t) (power_add i j v) ∙ ap (λ x. power n t x v) (sym (suc-add i j))

  pub step_below : (u v : ℕ → ℤ) → 0 < n → ((k : ℕ) → k < n → u k ≡ v k) → (k : ℕ) → k < n → step n t u k ≡ step n t v k
  step_below u v p h zero l = ap (λ x. x *ℤ t zero) (h (n - 1) (omega arith))
  step_below u v p h (suc k) l =
      ap (λ x. x +ℤ u (n - 1) *ℤ t (suc k)) (h k (omega arith)) ∙ ap (λ x. v k +ℤ x *ℤ t (suc k)) (h (n - 1) (omega arith))

  pub power_below : (i : ℕ) (u v : ℕ → ℤ) → 0 < n → ((k : ℕ) → k < n → u k ≡ v k) → (k : ℕ) → k < n → power n t i u k ≡ power n t i v k
  power_below zero u v p h k l = h k l
  power_below (suc i) u v p h k l = step_below (power n t i u) (power n t i v) p (power_below i u v p h) k l

module _ (n : ℕ) (w : ℕ → ℕ → ℤ) where
  -- a·(x + y) = a·x + a·y
  pub prod_plus : (a x y : ℕ → ℤ) (k : ℕ) → prod n w a (λ j. x j +ℤ y j) k ≡ prod n w a x k +ℤ prod n w a y k
  unfolding prod
  prod_plus a x y k =
      cong n (λ i. sum n (λ j. a i *ℤ (x j +ℤ y j) *ℤ w (i + j) k))
      (λ i. sum n (λ j. a i *ℤ x j *ℤ w (i + j) k) +ℤ sum n (λ j. a i *ℤ y j *ℤ w (i + j) k))
      (λ i l. cong n (λ j. a i *ℤ (x j +ℤ y j) *ℤ w (i + j) k) (λ j. a i *ℤ x j *ℤ w (i + j) k +ℤ a i *ℤ y j *ℤ w (i + j) k)
      (λ j m. ap (λ z. z *ℤ w (i + j) k) (mul-add (a i) (x j) (y j)) ∙ add-mul (a i *ℤ x j) (a i *ℤ y j) (w (i + j) k))
      ∙ plus n (λ j. a i *ℤ x j *ℤ w (i + j) k) (λ j. a i *ℤ y j *ℤ w (i + j) k))
      ∙ plus n (λ i. sum n (λ j. a i *ℤ x j *ℤ w (i + j) k)) (λ i. sum n (λ j. a i *ℤ y j *ℤ w (i + j) k))

  -- a·(c x) = c (a·x), for a number c
  pub prod_scale : (c : ℤ) (a x : ℕ → ℤ) (k : ℕ) → prod n w a (λ j. c *ℤ x j) k ≡ c *ℤ prod n w a x k
  unfolding prod
  prod_scale c a x k =
      cong n (λ i. sum n (λ j. a i *ℤ (c *ℤ x j) *ℤ w (i + j) k)) (λ i. c *ℤ sum n (λ j. a i *ℤ x j *ℤ w (i + j) k))
      (λ i l. cong n (λ j. a i *ℤ (c *ℤ x j) *ℤ w (i + j) k) (λ j. c *ℤ (a i *ℤ x j *ℤ w (i + j) k))
      (λ j m. ap (λ z. z *ℤ w (i + j) k) (mul_left_comm (a i) c (x j)) ∙ mul_assoc c (a i *ℤ x j) (w (i + j) k))
      ∙ scale n c (λ j. a i *ℤ x j *ℤ w (i + j) k))
      ∙ scale n c (λ i. sum n (λ j. a i *ℤ x j *ℤ w (i + j) k))

  -- a·b = b·a
  pub prod_comm : (a b : ℕ → ℤ) (k : ℕ) → prod n w a b k ≡ prod n w b a k
  unfolding prod
  prod_comm a b k =
      swap n n (λ i j. a i *ℤ b j *ℤ w (i + j) k)
      ∙ cong n (λ j. sum n (λ i. a i *ℤ b j *ℤ w (i + j) k)) (λ j. sum n (λ i. b j *ℤ a i *ℤ w (j + i) k))
      (λ j l. cong n (λ i. a i *ℤ b j *ℤ w (i + j) k) (λ i. b j *ℤ a i *ℤ w (j + i) k)
      (λ i m. ap (λ z. z *ℤ w (i + j) k) (*ℤ_comm (a i) (b j)) ∙ ap (λ z. b j *ℤ a i *ℤ w z k) (add_comm i j)))

  -- the product goes by the coefficients below n alone
  pub prod_below : (a b b' : ℕ → ℤ) (k : ℕ) → ((j : ℕ) → j < n → b j ≡ b' j) → prod n w a b k ≡ prod n w a b' k
  unfolding prod
  prod_below a b b' k h =
      cong n (λ i. sum n (λ j. a i *ℤ b j *ℤ w (i + j) k)) (λ i. sum n (λ j. a i *ℤ b' j *ℤ w (i + j) k))
      (λ i l. cong n (λ j. a i *ℤ b j *ℤ w (i + j) k) (λ j. a i *ℤ b' j *ℤ w (i + j) k)
      (λ j m. ap (λ z. a i *ℤ z *ℤ w (i + j) k) (h j m)))

  pub prod_agree : (a a' b b' : ℕ → ℤ) (k : ℕ) → ((i : ℕ) → i < n → a i ≡ a' i) → ((j : ℕ) → j < n → b j ≡ b' j) → prod n w a b k ≡ prod n w a' b' k
  prod_agree a a' b b' k g h = prod_below a b b' k h ∙ prod_comm a b' k ∙ prod_below b' a a' k g ∙ prod_comm b' a' k

  module _ (F : Folds n w) where
    -- Σ_j b_j X^(i+j) is X^i·b
    row : (b : ℕ → ℤ) (i k : ℕ) → i < n → k < n → sum n (λ j. b j *ℤ w (i + j) k) ≡ power n (w n) i b k
    row b zero k l m =
        cong n (λ j. b j *ℤ w (zero + j) k) (λ j. b j *ℤ mono j k)
        (λ j r. ap (λ x. b j *ℤ x) (ap (λ x. w x k) (zero-add j) ∙ F.stays j k r m))
        ∙ pick n k b m
    row b (suc i) k l m =
        cong n (λ j. b j *ℤ w (suc i + j) k) (λ j. b j *ℤ step n (w n) (w (i + j)) k)
        (λ j r. ap (λ x. b j *ℤ x) (ap (λ x. w x k) (suc-add i j) ∙ F.next (i + j) k (omega arith) m))
        ∙ sym (step_sum n (w n) n b (λ j. w (i + j)) k)
        ∙ step_below n (w n) (λ k. sum n (λ j. b j *ℤ w (i + j) k)) (power n (w n) i b) F.some (λ k r. row b i k (omega arith) r) k m

    -- a·b = Σ_i a_i (X^i·b)
    pub prod_power : (a b : ℕ → ℤ) (k : ℕ) → k < n → prod n w a b k ≡ sum n (λ i. a i *ℤ power n (w n) i b k)
    unfolding prod
    prod_power a b k m =
        cong n (λ i. sum n (λ j. a i *ℤ b j *ℤ w (i + j) k)) (λ i. a i *ℤ power n (w n) i b k)
        (λ i l. cong n (λ j. a i *ℤ b j *ℤ w (i + j) k) (λ j. a i *ℤ (b j *ℤ w (i + j) k)) (λ j r. mul_assoc (a i) (b j) (w (i + j) k))
        ∙ scale n (a i) (λ j. b j *ℤ w (i + j) k) ∙ ap (λ x. a i *ℤ x) (row b i k l m))

    -- a·(c·s) = Σ_i Σ_j a_i (c_j (X^(i+j)·s))
    both : (a c s : ℕ → ℤ) (k : ℕ) → k < n → prod n w a (prod n w c s) k ≡ sum n (λ i. sum n (λ j. a i *ℤ (c j *ℤ power n (w n) (i + j) s k)))
    both a c s k m =
        prod_below a (prod n w c s) (λ k. sum n (λ j. c j *ℤ power n (w n) j s k)) k (prod_power c s)
        ∙ prod_power a (λ k. sum n (λ j. c j *ℤ power n (w n) j s k)) k m
        ∙ cong n (λ i. a i *ℤ power n (w n) i (λ k. sum n (λ j. c j *ℤ power n (w n) j s k)) k) (λ i. sum n (λ j. a i *ℤ (c j *ℤ power n (w n) (i + j) s k)))
        (λ i l. ap (λ x. a i *ℤ x)
        (power_sum n (w n) i n c (λ j. power n (w n) j s) k
        ∙ cong n (λ j. c j *ℤ power n (w n) i (power n (w n) j s) k) (λ j. c j *ℤ power n (w n) (i + j) s k)
        (λ j r. ap (λ v. c j *ℤ v k) (power_add n (w n) i j s)))
        ∙ sym (scale n (a i) (λ j. c j *ℤ power n (w n) (i + j) s k)))

    -- a·(c·s) = c·(a·s)
    pub prod_left_comm : (a c s : ℕ → ℤ) (k : ℕ) → k < n → prod n w a (prod n w c s) k ≡ prod n w c (prod n w a s) k
    prod_left_comm a c s k m =
        both a c s k m
        ∙ swap n n (λ i j. a i *ℤ (c j *ℤ power n (w n) (i + j) s k))
        ∙ cong n (λ j. sum n (λ i. a i *ℤ (c j *ℤ power n (w n) (i + j) s k))) (λ j. sum n (λ i. c j *ℤ (a i *ℤ power n (w n) (j + i) s k)))
        (λ j l. cong n (λ i. a i *ℤ (c j *ℤ power n (w n) (i + j) s k)) (λ i. c j *ℤ (a i *ℤ power n (w n) (j + i) s k))
        (λ i r. mul_left_comm (a i) (c j) (power n (w n) (i + j) s k) ∙ ap (λ x. c j *ℤ (a i *ℤ power n (w n) x s k)) (add_comm i j)))
        ∙ sym (both c a s k m)

    -- a·(c·s) = (a·c)·s
    pub prod_assoc : (a c s : ℕ → ℤ) (k : ℕ) → k < n → prod n w a (prod n w c s) k ≡ prod n w (prod n w a c) s k
    prod_assoc a c s k m =
        prod_below a (prod n w c s) (prod n w s c) k (λ j r. prod_comm c s j)
        ∙ prod_left_comm a s c k m
        ∙ prod_comm s (prod n w a c) k
