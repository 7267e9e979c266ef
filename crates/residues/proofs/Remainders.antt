-- Laws of the plain remainder: two whole numbers have the same one where they differ by a multiple of q, so it goes through sums and products.
use mathlib.Core.Path.{◌≡◌, refl, sym, ap, ◌∙◌}
use mathlib.Core.Bool.{cond}
use Prim.Native.Nat.{ℕ, zero, suc, ◌+◌, ◌*◌, ◌-◌, ◌/◌, ◌%◌, ◌≤◌, ◌<◌}
use native.Mathlib.Nat.{mod-lt, mod-eq_of_lt, add-mod_right, mod-eq-sub-mod, suc-mul, add_comm, div-add-mod', zero-mul, add-mul-mod_self_right}
use native.Mathlib.Omega.{arith}
use native.Mathlib.Decide.{dec_lt}
use borrow.Author.Tests.{lt-ltb, le-ltb}
use lib.IntN.{ℤ, pos, negsuc, neg_ℤ, ◌+ℤ◌, ◌-ℤ◌, ◌*ℤ◌, +ℤ_assoc, +ℤ_idl, +ℤ_idr, +ℤ_invr, +ℤ_invl, *ℤ_comm, neg_ℤ-+ℤ}
use Rattle.residues.specs.Remainder.{residue}
use Rattle.residues.proofs.Ints.{add-mul, mul_assoc, neg_mul, swap_mid, swap_r}

-- two numbers below q that differ by multiples of it
pub mod_same : (q x y k l : ℕ) → x < q → y < q → x + k * q ≡ y + l * q → x ≡ y
mod_same q x y k l hx hy e =
    sym (mod-eq_of_lt hx) ∙ sym (add-mul-mod_self_right x k q) ∙ ap (λ (n : ℕ). n % q) e ∙ add-mul-mod_self_right y l q ∙ mod-eq_of_lt hy

module _ (q : ℕ) (p : 0 < q) where
  pub residue_lt : (x : ℤ) → residue q x < q
  unfolding residue
  residue_lt (pos a) = mod-lt a p
  residue_lt (negsuc a) = omega arith

  pub residue_pos : (a : ℕ) → residue q (pos a) ≡ a % q
  unfolding residue
  residue_pos a = refl

  pub residue_small : (r : ℕ) → r < q → residue q (pos r) ≡ r
  unfolding residue
  residue_small r l = mod-eq_of_lt l

  pub residue_again : (x : ℤ) → residue q (pos (residue q x)) ≡ residue q x
  residue_again x = residue_small (residue q x) (residue_lt x)

  once_neg : (a : ℕ) → Dec (q < suc a) → residue q (negsuc a +ℤ pos q) ≡ residue q (negsuc a)
  unfolding residue
  once_neg a (yes l) =
      ap (residue q) (ap (λ b. cond b (negsuc (suc a - suc q)) (pos (q - suc a))) (lt-ltb q (suc a) l)) ∙
      ap (λ (x : ℕ). (q - 1) - x) (ap (λ (x : ℕ). x % q) (e a q) ∙ sym (mod-eq-sub-mod {n = a} {m = q} (omega arith)))
    where
      e : (a q : ℕ) → suc a - suc q ≡ a - q
      e a q = omega arith
  once_neg a (no l) =
      ap (residue q) (ap (λ b. cond b (negsuc (suc a - suc q)) (pos (q - suc a))) (le-ltb q (suc a) (omega arith))) ∙
      mod-eq_of_lt {n = q - suc a} {m = q} (omega arith) ∙
      f (a % q) (mod-eq_of_lt {n = a} {m = q} (omega arith))
    where
      f : (x : ℕ) → x ≡ a → q - suc a ≡ (q - 1) - x
      f x e = omega arith

  once : (x : ℤ) → residue q (x +ℤ pos q) ≡ residue q x
  unfolding residue
  once (pos a) = add-mod_right a q
  once (negsuc a) = once_neg a (dec_lt q (suc a))

  times : (m : ℕ) (x : ℤ) → residue q (x +ℤ pos (m * q)) ≡ residue q x
  times zero x = ap (λ (n : ℕ). residue q (x +ℤ pos n)) (zero-mul q) ∙ ap (residue q) (+ℤ_idr x)
  times (suc m) x =
      ap (λ (n : ℕ). residue q (x +ℤ pos n)) (suc-mul m q) ∙
      ap (residue q) (sym (+ℤ_assoc x (pos (m * q)) (pos q))) ∙
      once (x +ℤ pos (m * q)) ∙ times m x

  pub residue_shift : (x z : ℤ) → residue q (x +ℤ z *ℤ pos q) ≡ residue q x
  residue_shift x (pos m) = times m x
  residue_shift x (negsuc m) =
      sym (times (suc m) (x +ℤ neg_ℤ (pos (suc m * q)))) ∙
      ap (residue q) (+ℤ_assoc x (neg_ℤ (pos (suc m * q))) (pos (suc m * q)) ∙ ap (λ y. x +ℤ y) (+ℤ_invl (pos (suc m * q))) ∙ +ℤ_idr x)

  -- x is its remainder and a multiple of q
  down : (u a : ℕ) → pos u +ℤ neg_ℤ (pos (u + suc a)) ≡ negsuc a
  down u a =
      ap (λ y. pos u +ℤ y) (neg_ℤ-+ℤ (pos u) (pos (suc a))) ∙ sym (+ℤ_assoc (pos u) (neg_ℤ (pos u)) (negsuc a)) ∙
      ap (λ y. y +ℤ negsuc a) (+ℤ_invr (pos u)) ∙ +ℤ_idl (negsuc a)

  split : (a : ℕ) → suc (a / q) * q ≡ ((q - 1) - a % q) + suc a
  split a = omega (arith, suc-mul (a / q) q, div-add-mod' a q, mod-lt a p)

  whole : (x : ℤ) → (z : ℤ) × (x ≡ pos (residue q x) +ℤ z *ℤ pos q)
  unfolding residue
  whole (pos a) = (pos (a / q), ap pos (sym (add_comm (a % q) (a / q * q) ∙ div-add-mod' a q)))
  whole (negsuc a) =
      (negsuc (a / q), sym (ap (λ (v : ℕ). pos ((q - 1) - a % q) +ℤ neg_ℤ (pos v)) (split a) ∙ down ((q - 1) - a % q) a))

  -- a difference that is not negative
  pub minus : (u v : ℕ) → v ≤ u → pos u +ℤ neg_ℤ (pos v) ≡ pos (u - v)
  minus u v l =
      ap (λ (n : ℕ). pos n +ℤ neg_ℤ (pos v)) (e u v l) ∙ +ℤ_assoc (pos (u - v)) (pos v) (neg_ℤ (pos v)) ∙
      ap (λ y. pos (u - v) +ℤ y) (+ℤ_invr (pos v)) ∙ +ℤ_idr (pos (u - v))
    where
      e : (u v : ℕ) → v ≤ u → u ≡ (u - v) + v
      e u v l = omega arith

  -- the same remainder: the difference is a multiple of q
  apart : (x y : ℤ) → residue q x ≡ residue q y → (z : ℤ) × (x ≡ y +ℤ z *ℤ pos q)
  apart x y e = (
    (whole x).0 -ℤ (whole y).0,
    (whole x).1 ∙ ap (λ (r : ℕ). pos r +ℤ (whole x).0 *ℤ pos q) e ∙
        sym (+ℤ_idr (pos (residue q y) +ℤ (whole x).0 *ℤ pos q)) ∙
        ap (λ v. pos (residue q y) +ℤ (whole x).0 *ℤ pos q +ℤ v) (sym (+ℤ_invr ((whole y).0 *ℤ pos q))) ∙
        swap_mid (pos (residue q y)) ((whole x).0 *ℤ pos q) ((whole y).0 *ℤ pos q) (neg_ℤ ((whole y).0 *ℤ pos q)) ∙
        ap (λ v. v +ℤ ((whole x).0 *ℤ pos q +ℤ neg_ℤ ((whole y).0 *ℤ pos q))) (sym (whole y).1) ∙
        ap (λ v. y +ℤ ((whole x).0 *ℤ pos q +ℤ v)) (sym (neg_mul (whole y).0 (pos q))) ∙
        ap (λ v. y +ℤ v) (sym (add-mul (whole x).0 (neg_ℤ (whole y).0) (pos q))),
  )

  pub residue_plus : (x x' y y' : ℤ) → residue q x ≡ residue q x' → residue q y ≡ residue q y' → residue q (x +ℤ y) ≡ residue q (x' +ℤ y')
  residue_plus x x' y y' e f =
      ap (λ v. residue q (v +ℤ y)) (apart x x' e).1 ∙
      ap (residue q) (swap_r x' ((apart x x' e).0 *ℤ pos q) y) ∙ residue_shift (x' +ℤ y) (apart x x' e).0 ∙
      ap (λ v. residue q (x' +ℤ v)) (apart y y' f).1 ∙
      ap (residue q) (sym (+ℤ_assoc x' y' ((apart y y' f).0 *ℤ pos q))) ∙ residue_shift (x' +ℤ y') (apart y y' f).0

  pub residue_neg : (x y : ℤ) → residue q x ≡ residue q y → residue q (neg_ℤ x) ≡ residue q (neg_ℤ y)
  residue_neg x y e =
      ap (λ v. residue q (neg_ℤ v)) (apart x y e).1 ∙
      ap (residue q) (neg_ℤ-+ℤ y ((apart x y e).0 *ℤ pos q) ∙ ap (λ v. neg_ℤ y +ℤ v) (sym (neg_mul (apart x y e).0 (pos q)))) ∙
      residue_shift (neg_ℤ y) (neg_ℤ (apart x y e).0)

  times_l : (x x' y : ℤ) → residue q x ≡ residue q x' → residue q (x *ℤ y) ≡ residue q (x' *ℤ y)
  times_l x x' y e =
      ap (λ v. residue q (v *ℤ y)) (apart x x' e).1 ∙
      ap (residue q) (add-mul x' ((apart x x' e).0 *ℤ pos q) y ∙
      ap (λ v. x' *ℤ y +ℤ v) (mul_assoc (apart x x' e).0 (pos q) y ∙ ap (λ v. (apart x x' e).0 *ℤ v) (*ℤ_comm (pos q) y) ∙
      sym (mul_assoc (apart x x' e).0 y (pos q)))) ∙
      residue_shift (x' *ℤ y) ((apart x x' e).0 *ℤ y)

  pub residue_times : (x x' y y' : ℤ) → residue q x ≡ residue q x' → residue q y ≡ residue q y' → residue q (x *ℤ y) ≡ residue q (x' *ℤ y')
  residue_times x x' y y' e f =
      times_l x x' y e ∙ ap (residue q) (*ℤ_comm x' y) ∙ times_l y y' x' f ∙ ap (residue q) (*ℤ_comm y' x')

  -- the remainder of a sum, of a difference and of a negated number, from remainders
  pub residue_add : (x y : ℤ) → residue q (x +ℤ y) ≡ (residue q x + residue q y) % q
  residue_add x y =
      residue_plus x (pos (residue q x)) y (pos (residue q y)) (sym (residue_again x)) (sym (residue_again y)) ∙
      residue_pos (residue q x + residue q y)

  pub residue_negated : (x : ℕ) → x ≤ q → residue q (neg_ℤ (pos x)) ≡ (q - x) % q
  residue_negated x l =
      sym (once (neg_ℤ (pos x))) ∙ ap (residue q) (comm x ∙ minus q x l) ∙ residue_pos (q - x)
    where
      comm : (x : ℕ) → neg_ℤ (pos x) +ℤ pos q ≡ pos q +ℤ neg_ℤ (pos x)
      comm x = lib.IntN.+ℤ_comm (neg_ℤ (pos x)) (pos q)

  pub residue_sub : (x y : ℤ) → residue q (x -ℤ y) ≡ (residue q x + (q - residue q y)) % q
  residue_sub x y =
      let l = residue_lt y in
      residue_plus x (pos (residue q x)) (neg_ℤ y) (pos (q - residue q y)) (sym (residue_again x))
      (residue_neg y (pos (residue q y)) (sym (residue_again y)) ∙ residue_negated (residue q y) (omega arith) ∙ sym (residue_pos (q - residue q y))) ∙
      residue_pos (residue q x + (q - residue q y))
