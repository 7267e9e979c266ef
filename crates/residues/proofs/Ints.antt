-- Laws of the whole numbers beside those of lib.IntN: the product is associative and distributes; the magnitude of a sum and of a product.
use mathlib.Core.Path.{◌≡◌, refl, sym, ap, ◌∙◌}
use mathlib.Core.Bool.{Bool, true, false, cond}
use Prim.Native.Nat.{ℕ, zero, suc, ◌+◌, ◌*◌, ◌-◌, ◌≤◌}
use native.Mathlib.Omega.{arith}
use lib.Dec.{ltb}
use lib.IntN.{ℤ, pos, negsuc, neg_ℤ, suc_ℤ, pred_ℤ, nat_abs, ◌+ℤ◌, ◌-ℤ◌, ◌*ℤ◌}
use lib.IntN.{+ℤ_assoc, +ℤ_comm, +ℤ_idl, +ℤ_idr, +ℤ_invr, suc_ℤ-+ℤ, pred_ℤ-+ℤ, suc_ℤ-*ℤ, pred_ℤ-*ℤ, zero-*ℤ, *ℤ_comm, +ℤ_invl}

pub ind : (P : ℤ → Type 0) → P (pos zero) → ((m : ℤ) → P m → P (suc_ℤ m)) → ((m : ℤ) → P m → P (pred_ℤ m)) → (m : ℤ) → P m
ind P z s p (pos zero) = z
ind P z s p (pos (suc n)) = s (pos n) (ind P z s p (pos n))
ind P z s p (negsuc zero) = p (pos zero) z
ind P z s p (negsuc (suc n)) = p (negsuc n) (ind P z s p (negsuc n))

-- a + b + c = a + c + b, and the middle two of four
pub swap_r : (a b c : ℤ) → a +ℤ b +ℤ c ≡ a +ℤ c +ℤ b
swap_r a b c = +ℤ_assoc a b c ∙ ap (λ x. a +ℤ x) (+ℤ_comm b c) ∙ sym (+ℤ_assoc a c b)

pub swap_mid : (a b c d : ℤ) → (a +ℤ b) +ℤ (c +ℤ d) ≡ (a +ℤ c) +ℤ (b +ℤ d)
swap_mid a b c d = sym (+ℤ_assoc (a +ℤ b) c d) ∙ ap (λ x. x +ℤ d) (swap_r a b c) ∙ +ℤ_assoc (a +ℤ c) b d

pub add-mul : (a b c : ℤ) → (a +ℤ b) *ℤ c ≡ a *ℤ c +ℤ b *ℤ c
add-mul a b c = ind (λ m. (m +ℤ b) *ℤ c ≡ m *ℤ c +ℤ b *ℤ c)
    (ap (λ x. x *ℤ c) (+ℤ_idl b) ∙ sym (ap (λ x. x +ℤ b *ℤ c) (zero-*ℤ c) ∙ +ℤ_idl (b *ℤ c)))
    (λ m ih. ap (λ x. x *ℤ c) (suc_ℤ-+ℤ m b) ∙ suc_ℤ-*ℤ (m +ℤ b) c ∙ ap (λ x. x +ℤ c) ih ∙ swap_r (m *ℤ c) (b *ℤ c) c ∙ ap (λ x. x +ℤ b *ℤ c) (sym (suc_ℤ-*ℤ m c)))
    (λ m ih. ap (λ x. x *ℤ c) (pred_ℤ-+ℤ m b) ∙ pred_ℤ-*ℤ (m +ℤ b) c ∙ ap (λ x. x -ℤ c) ih ∙ swap_r (m *ℤ c) (b *ℤ c) (neg_ℤ c) ∙ ap (λ x. x +ℤ b *ℤ c) (sym (pred_ℤ-*ℤ m c)))
    a

pub mul-add : (a b c : ℤ) → a *ℤ (b +ℤ c) ≡ a *ℤ b +ℤ a *ℤ c
mul-add a b c = *ℤ_comm a (b +ℤ c) ∙ add-mul b c a ∙ ap (λ x. x +ℤ c *ℤ a) (*ℤ_comm b a) ∙ ap (λ x. a *ℤ b +ℤ x) (*ℤ_comm c a)

-- the additive inverse is unique
pub neg_unique : (x y : ℤ) → x +ℤ y ≡ pos 0 → x ≡ neg_ℤ y
neg_unique x y e = sym (+ℤ_idr x) ∙ ap (λ z. x +ℤ z) (sym (+ℤ_invr y)) ∙ sym (+ℤ_assoc x y (neg_ℤ y)) ∙ ap (λ z. z +ℤ neg_ℤ y) e ∙ +ℤ_idl (neg_ℤ y)

pub neg_mul : (a c : ℤ) → neg_ℤ a *ℤ c ≡ neg_ℤ (a *ℤ c)
neg_mul a c = neg_unique (neg_ℤ a *ℤ c) (a *ℤ c) (sym (add-mul (neg_ℤ a) a c) ∙ ap (λ x. x *ℤ c) (+ℤ_invl a) ∙ zero-*ℤ c)

pub mul_assoc : (a b c : ℤ) → a *ℤ b *ℤ c ≡ a *ℤ (b *ℤ c)
mul_assoc a b c = ind (λ m. m *ℤ b *ℤ c ≡ m *ℤ (b *ℤ c))
    (ap (λ x. x *ℤ c) (zero-*ℤ b) ∙ zero-*ℤ c ∙ sym (zero-*ℤ (b *ℤ c)))
    (λ m ih. ap (λ x. x *ℤ c) (suc_ℤ-*ℤ m b) ∙ add-mul (m *ℤ b) b c ∙ ap (λ x. x +ℤ b *ℤ c) ih ∙ sym (suc_ℤ-*ℤ m (b *ℤ c)))
    (λ m ih. ap (λ x. x *ℤ c) (pred_ℤ-*ℤ m b) ∙ add-mul (m *ℤ b) (neg_ℤ b) c ∙ ap (λ x. m *ℤ b *ℤ c +ℤ x) (neg_mul b c) ∙ ap (λ x. x -ℤ b *ℤ c) ih ∙ sym (pred_ℤ-*ℤ m (b *ℤ c)))
    a

pub mul_left_comm : (a b c : ℤ) → a *ℤ (b *ℤ c) ≡ b *ℤ (a *ℤ c)
mul_left_comm a b c = sym (mul_assoc a b c) ∙ ap (λ x. x *ℤ c) (*ℤ_comm a b) ∙ mul_assoc b a c

pub one_mul : (a : ℤ) → pos 1 *ℤ a ≡ a
one_mul a = suc_ℤ-*ℤ (pos 0) a ∙ ap (λ x. x +ℤ a) (zero-*ℤ a) ∙ +ℤ_idl a

pub mul-one : (a : ℤ) → a *ℤ pos 1 ≡ a
mul-one a = *ℤ_comm a (pos 1) ∙ one_mul a

-- ---- magnitudes
pub abs_neg : (x : ℤ) → nat_abs (neg_ℤ x) ≡ nat_abs x
abs_neg (pos zero) = refl
abs_neg (pos (suc n)) = refl
abs_neg (negsuc n) = refl

abs_cond : (b : Bool) (x y m : ℕ) → suc x ≤ m → y ≤ m → nat_abs (cond b (negsuc x) (pos y)) ≤ m
abs_cond true x y m l r = l
abs_cond false x y m l r = r

pub abs_add : (x y : ℤ) → nat_abs (x +ℤ y) ≤ nat_abs x + nat_abs y
abs_add (pos a) (pos b) = omega arith
abs_add (pos a) (negsuc b) = abs_cond (ltb a (suc b)) (suc b - suc a) (a - suc b) (a + suc b) (omega arith) (omega arith)
abs_add (negsuc a) (pos b) = abs_cond (ltb b (suc a)) (suc a - suc b) (b - suc a) (suc a + b) (omega arith) (omega arith)
abs_add (negsuc a) (negsuc b) = omega arith

pub abs_mul : (x y : ℤ) → nat_abs (x *ℤ y) ≡ nat_abs x * nat_abs y
abs_mul (pos a) (pos b) = refl
abs_mul (pos a) (negsuc b) = abs_neg (pos (a * suc b))
abs_mul (negsuc a) (pos b) = abs_neg (pos (suc a * b))
abs_mul (negsuc a) (negsuc b) = refl
