-- Elements as lists: a table has its function's values, and is known by them.
use mathlib.Core.Path.{◌≡◌, refl, sym, ap, ◌∙◌}
use mathlib.Core.List.{List, ◌∷◌, map}
use Prim.Native.Nat.{ℕ, zero, suc, ◌≤◌, ◌<◌}
use native.Mathlib.Omega.{arith}
use lib.ListN.{length, get_or}
use lib.Seq.{ext_get_or}
use Rattle.ring.specs.Ring.{tab}

module _ {A : Type 0} where
  pub length_tab : (n : ℕ) (f : ℕ → A) → length (tab n f) ≡ n
  unfolding tab
  length_tab zero f = refl
  length_tab (suc n) f = ap suc (length_tab n (λ k. f (suc k)))

  pub at_tab : (d : A) (n : ℕ) (f : ℕ → A) (k : ℕ) → k < n → get_or (tab n f) k d ≡ f k
  unfolding tab
  at_tab d zero f k l = absurd (omega arith)
  at_tab d (suc n) f zero l = refl
  at_tab d (suc n) f (suc k) l = at_tab d n (λ k. f (suc k)) k (omega arith)

  pub past_tab : (d : A) (n : ℕ) (f : ℕ → A) (k : ℕ) → n ≤ k → get_or (tab n f) k d ≡ d
  unfolding tab
  past_tab d zero f k l = refl
  past_tab d (suc n) f zero l = absurd (omega arith)
  past_tab d (suc n) f (suc k) l = past_tab d n (λ k. f (suc k)) k (omega arith)

  -- a list is a table where its elements are the table's
  pub is_tab : (d : A) (xs : List A) (n : ℕ) (f : ℕ → A) → length xs ≡ n → ((k : ℕ) → k < n → get_or xs k d ≡ f k) → xs ≡ tab n f
  is_tab d xs n f e h = ext_get_or d xs (tab n f) (e ∙ sym (length_tab n f)) (λ k l. h k (omega arith) ∙ sym (at_tab d n f k (omega arith)))

  pub tab_cong : (n : ℕ) (f g : ℕ → A) → ((k : ℕ) → k < n → f k ≡ g k) → tab n f ≡ tab n g
  unfolding tab
  tab_cong zero f g h = refl
  tab_cong (suc n) f g h = λ i. h 0 (omega arith) i ∷ tab_cong n (λ k. f (suc k)) (λ k. g (suc k)) (λ k l. h (suc k) (omega arith)) i

pub map_tab : {A B : Type 0} (g : A → B) (n : ℕ) (f : ℕ → A) → map g (tab n f) ≡ tab n (λ k. g (f k))
unfolding tab
map_tab g zero f = refl
map_tab g (suc n) f = ap (λ xs. g (f zero) ∷ xs) (map_tab g n (λ k. f (suc k)))
