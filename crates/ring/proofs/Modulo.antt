-- The product mod q goes by its factors mod q.
use mathlib.Core.Path.{◌≡◌, refl, sym, ap, ◌∙◌}
use Prim.Native.Nat.{ℕ, zero, suc, ◌+◌, ◌*◌, ◌-◌, ◌%◌, ◌<◌}
use native.Mathlib.Nat.{mod-eq_of_lt}
use native.Mathlib.Omega.{arith}
use lib.IntN.{ℤ, pos, negsuc, neg_ℤ, ◌+ℤ◌, ◌*ℤ◌}
use Rattle.residues.specs.Remainder.{residue}
use Rattle.residues.proofs.Remainders.{residue_plus, residue_times, residue_negated, residue_pos}
use Rattle.ring.specs.Ring.{sum, prod}

module _ (q : ℕ) (p : 0 < q) where
  pub residue_sum : (n : ℕ) (f g : ℕ → ℤ) → ((i : ℕ) → i < n → residue q (f i) ≡ residue q (g i)) → residue q (sum n f) ≡ residue q (sum n g)
  unfolding sum
  residue_sum zero f g h = refl
  residue_sum (suc n) f g h = residue_plus q p (sum n f) (sum n g) (f n) (g n) (residue_sum n f g (λ i l. h i (omega arith))) (h n (omega arith))

  -- the product mod q goes by its factors mod q
  pub residue_prod : (n : ℕ) (w : ℕ → ℕ → ℤ) (a a' b b' : ℕ → ℤ) (k : ℕ)
      → ((i : ℕ) → i < n → residue q (a i) ≡ residue q (a' i)) → ((i : ℕ) → i < n → residue q (b i) ≡ residue q (b' i))
      → residue q (prod n w a b k) ≡ residue q (prod n w a' b' k)
  unfolding prod
  residue_prod n w a a' b b' k e f =
      residue_sum n (λ i. sum n (λ j. a i *ℤ b j *ℤ w (i + j) k)) (λ i. sum n (λ j. a' i *ℤ b' j *ℤ w (i + j) k))
      (λ i l. residue_sum n (λ j. a i *ℤ b j *ℤ w (i + j) k) (λ j. a' i *ℤ b' j *ℤ w (i + j) k)
      (λ j m. residue_times q p (a i *ℤ b j) (a' i *ℤ b' j) (w (i + j) k) (w (i + j) k) (residue_times q p (a i) (a' i) (b j) (b' j) (e i l) (f j m)) refl))

  -- one coefficient x after c X^e is added, by what X^e has there
  pub gains : (x c : ℕ) → residue q (pos x +ℤ pos c *ℤ pos 1) ≡ (x + c) % q
  unfolding residue
  gains x c = ap (λ (n : ℕ). (x + n) % q) (omega arith)

  pub stays : (x c : ℕ) → x < q → residue q (pos x +ℤ pos c *ℤ pos 0) ≡ x
  unfolding residue
  stays x c l = ap (λ (n : ℕ). n % q) {y = x} (omega arith) ∙ mod-eq_of_lt l

  pub loses : (x c : ℕ) → c < q → residue q (pos x +ℤ pos c *ℤ negsuc 0) ≡ (x + (q - c)) % q
  loses x c l =
      ap (λ (n : ℕ). residue q (pos x +ℤ neg_ℤ (pos n))) {x = c * 1} {y = c} (omega arith) ∙
      residue_plus q p (pos x) (pos x) (neg_ℤ (pos c)) (pos (q - c)) refl (residue_negated q p c (omega arith) ∙ sym (residue_pos q p (q - c))) ∙
      residue_pos q p (x + (q - c))
