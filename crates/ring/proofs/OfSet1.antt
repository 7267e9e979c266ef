-- Set 1: the engine's product of the remainders is the ring's product.
use mathlib.Core.Path.{◌≡◌, refl}
use mathlib.Core.List.{List, map}
use Prim.Native.Nat.{ℕ, ◌^◌, ◌<◌}
use native.Mathlib.Omega.{arith}
use lib.IntN.{ℤ, pos}
use lib.ListN.{length, get_or}
use Rattle.sets.specs.Set.{Set, set1}
use Rattle.sets.specs.Good.{Trinomial}
use Rattle.sets.proofs.Five.{ready_set1}
use Rattle.ring.specs.Profile.{mul}
use Rattle.ring.specs.Inner.{multiplied, Residues}
use Rattle.ring.proofs.Signed.{reduced, residues_reduced, residues_multiplied, product_reduced}

module _ (p : Set) (e : p ≡ set1) (a b : List ℤ) (x y : List ℕ) (la : length a ≡ 1152) (lb : length b ≡ 1152) (f : x ≡ reduced set1 ready_set1 a)
    (g : y ≡ reduced set1 ready_set1 b) where
  pub can_multiply : Trinomial p × (Residues p x × Residues p y × (1152 ≡ p.n))
  can_multiply = rw (e, f, g) (ready_set1, (residues_reduced set1 ready_set1 a la, residues_reduced set1 ready_set1 b lb, refl))

  pub can_store : (c : List ℕ) → c ≡ multiplied p x y → (length c ≡ 1152) × ((k : ℕ) → get_or c k 0 < 2 ^ 31)
  can_store c h =
      let R : Residues set1 c = rw (h, e) (residues_multiplied set1 ready_set1 x y) in
      (R.long, λ k. omega (arith, R.each k))

  pub stored : (c : List ℕ) → c ≡ multiplied p x y → map pos c ≡ mul set1 a b
  stored c h = rw (h, e, f, g) (product_reduced set1 ready_set1 a b la lb)
