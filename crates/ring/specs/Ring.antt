-- The product of two elements (SPEC 2), for any degree n, any modulus q and any way of folding exponents.
-- An element is a function from the exponent to its coefficient, of which those below n count; as a list it has n coefficients (SPEC 2.1).
use Rattle.std.specs.Prelude.{cond, List, [], ◌∷◌, ℕ, zero, suc, ◌+◌, ◌-◌, ◌*◌, ℤ, pos, neg_ℤ, ◌+ℤ◌, ◌-ℤ◌, ◌*ℤ◌, ltb, eqb, get_or}
use Rattle.residues.specs.Remainder.{residue}

-- f 0 + f 1 + .. + f (n - 1)
unfoldable pub sum : ℕ → (ℕ → ℤ) → ℤ
sum zero f = pos 0
sum (suc n) f = sum n f +ℤ f n

-- X^e: 1 at e, 0 elsewhere
unfoldable pub mono : ℕ → ℕ → ℤ
mono e k = cond (eqb e k) (pos 1) (pos 0)

-- SPEC 2.2, with n = 2h: coefficient k of X^e where X^n = X^h - 1. Below n it stays, then it gives two terms, and from 3h on one, negated
unfoldable pub fold : ℕ → ℕ → ℕ → ℤ
fold h e k =
    cond (ltb e (2 * h)) (mono e k)
    (cond (ltb e (3 * h)) (mono (e - h) k -ℤ mono (e - 2 * h) k)
    (neg_ℤ (mono (e - 3 * h) k)))

-- SPEC 2.4: coefficient k of X^e where X^n = X + 1. Below n it stays, and above it gives two terms
unfoldable pub fold_prime : ℕ → ℕ → ℕ → ℤ
fold_prime n e k = cond (ltb e n) (mono e k) (mono (e - n + 1) k +ℤ mono (e - n) k)

-- SPEC 2.3: coefficient k of a·b: every a_i X^i meets every b_j X^j, and X^(i+j) is w (i + j)
unfoldable pub prod : ℕ → (ℕ → ℕ → ℤ) → (ℕ → ℤ) → (ℕ → ℤ) → ℕ → ℤ
prod n w a b k = sum n (λ i. sum n (λ j. a i *ℤ b j *ℤ w (i + j) k))

-- coefficient k of an element written as a list
abbrev pub at : List ℤ → ℕ → ℤ
at l k = get_or l k (pos 0)

-- f 0, f 1, .., f (n - 1)
unfoldable pub tab : {A : Type 0} → ℕ → (ℕ → A) → List A
tab zero f = []
tab (suc n) f = f zero ∷ tab n (λ k. f (suc k))

-- SPEC 2.3: all n coefficients, reduced to 0..q-1
unfoldable pub product : ℕ → ℕ → (ℕ → ℕ → ℤ) → List ℤ → List ℤ → List ℤ
product n q w a b = tab n (λ k. pos (residue q (prod n w (at a) (at b) k)))
