-- The norms that a try is judged by, number by number, as the memory has them.
use Rattle.std.proofs.Common.{◌≡◌, refl, sym, ap, ◌∙◌, true, List, [], ◌∷◌, ℕ, suc, ◌+◌, ◌*◌, ◌≤◌, ◌<◌, ℤ, pos, nat_abs, length, get_or, arith, leb}
use borrow.Author.Tests.{le-leb}
use Rattle.sets.specs.Set.{Set}
use Rattle.sets.specs.Good.{Trinomial}
use Rattle.residues.specs.Remainder.{residue, signed, centred, magnitude}
use Rattle.residues.proofs.Centres.{centred_again, centred_small}
use Rattle.residues.proofs.Remainders.{residue_again}
use Rattle.rounding.specs.Rounding.{norm, low_bits}
use Rattle.rounding.proofs.Norms.{norm_each}
use Rattle.rounding.proofs.Congruent.{q_pos, q_wide, low_cong, low_le}
use Rattle.ring.specs.Ring.{at as coefficient}
use Rattle.ring.proofs.Lists.{length_tab, at_tab}
use Rattle.ring.proofs.Signed.{at_reduced}
use Rattle.workspace.specs.declared.Place.{Place}
use Rattle.workspace.specs.Inner.{at, slot, Holds}
use Rattle.workspace.proofs.Memory.{at_element}
use Rattle.workspace.proofs.Holding.{residues_of}
use Rattle.scheme.specs.Elements.{centring, lows}

-- ---- the sizes that the code reads of a remainder
abbrev pub size_of : Set → ℕ → ℕ
size_of p x = nat_abs (signed p.q x)

abbrev pub low_size : Set → ℕ → ℕ
low_size p x = nat_abs (low_bits p (pos x))

-- the first i numbers of xs have sizes below b
abbrev pub Below : (ℕ → ℕ) → ℕ → List ℕ → ℕ → Type 0
Below f b xs i = (t : ℕ) → t < i → f (get_or xs t 0) < b

-- ---- the sizes of the remainders xs are the magnitudes of the coefficients a
pub record Sizes (q : ℕ) (f : ℕ → ℕ) (a : List ℤ) (xs : List ℕ) : Type 0 where
  pub long : length a ≡ length xs
  pub same : (i : ℕ) → i < length xs → magnitude q (coefficient a i) ≡ f (get_or xs i 0)

norm_below : (q b : ℕ) (a : List ℤ) → 0 < b → ((i : ℕ) → i < length a → magnitude q (get_or a i (pos 0)) < b) → norm q a < b
unfolding norm
norm_below q b [] l h = l
norm_below q b (x ∷ a) l h = let i = norm_below q b a l (λ k m. h (suc k) (omega arith)) in omega (arith, h 0 (omega arith))

module _ {q : ℕ} {f : ℕ → ℕ} {a : List ℤ} {xs : List ℕ} (s : Sizes q f a xs) (b : ℕ) where
  pub norm_large : (i : ℕ) → i < length xs → b ≤ f (get_or xs i 0) → leb b (norm q a) ≡ true
  norm_large i l h = le-leb b (norm q a) (omega (arith, norm_each q a i (omega (arith, s.long)), s.same i l))

  pub norm_small : 0 < b → Below f b xs (length xs) → norm q a < b
  norm_small m h = norm_below q b a m (λ i l. let v : i < length xs = omega (arith, s.long) in omega (arith, s.same i v, h i v))

-- ---- xs is what the code reads of a place
module _ (p : Set) (T : Trinomial p) {k : Place} {a : List ℤ} {work xs : List ℕ} (e : xs ≡ slot p k work) (H : Holds p k a work) where
  hq : 0 < p.q
  hq = q_pos p T.good

  long : length xs ≡ p.n
  long = ap length e ∙ (residues_of p T.good H).long

  at_place : (i : ℕ) → i < length xs → get_or xs i 0 ≡ residue p.q (coefficient a i)
  at_place i l = ap (λ (xs : List ℕ). get_or xs i 0) (e ∙ H.here) ∙ at_reduced p T a i (omega (arith, H.long, long))

  pub below_place : (i : ℕ) → get_or xs i 0 < p.q
  below_place i = rw e ((residues_of p T.good H).each i)

  size_at : (i : ℕ) → i < length xs → magnitude p.q (coefficient a i) ≡ size_of p (get_or xs i 0)
  unfolding centred
  size_at i l = ap (size_of p) (sym (at_place i l))

  pub sizes : Sizes p.q (size_of p) a xs
  sizes = record { long = H.long ∙ sym long; same = size_at }

  pub sizes_centred : Sizes p.q (size_of p) (centring p a) xs
  sizes_centred = record {
    long = length_tab p.n _ ∙ sym long;
    same =
        λ i l. ap (magnitude p.q) (at_tab (pos 0) p.n _ i (omega (arith, long))) ∙
        ap nat_abs (centred_again p.q hq (coefficient a i)) ∙ size_at i l;
  }

  pub sizes_low : Sizes p.q (low_size p) (lows p a) xs
  sizes_low = record {
    long = length_tab p.n _ ∙ sym long;
    same =
        λ i l. ap (magnitude p.q) (at_tab (pos 0) p.n _ i (omega (arith, long))) ∙
        ap nat_abs (centred_small p.q hq (low_bits p (coefficient a i)) (omega (arith, low_le p T.good (coefficient a i), q_wide p T.good))) ∙
        ap nat_abs (low_cong p T.good (coefficient a i) (pos (get_or xs i 0)) (sym (ap (λ (x : ℕ). residue p.q (pos x)) (at_place i l) ∙ residue_again p.q hq (coefficient a i))));
  }

-- ---- the low bits, number by number from where place k stands, as the code has found it
module _ (p : Set) (T : Trinomial p) {k : Place} {a : List ℤ} {work : List ℕ} (start : ℕ) (s : start ≡ at k * p.n) (H : Holds p k a work) where
  many : length (slot p k work) ≡ p.n
  many = (residues_of p T.good H).long

  at_start : (i : ℕ) → i < p.n → get_or (slot p k work) i 0 ≡ get_or work (start + i) 0
  at_start i l = at_element p.n (at k) i work l ∙ ap (λ (m : ℕ). get_or work (m + i) 0) (sym s)

  pub low_large : (b i : ℕ) → i < p.n → b ≤ nat_abs (low_bits p (pos (get_or work (start + i) 0))) → leb b (norm p.q (lows p a)) ≡ true
  low_large b i l h = norm_large (sizes_low p T refl H) b i (omega (arith, many)) (rw (at_start i l) h)

  pub low_small : (b : ℕ) → 0 < b → ((i : ℕ) → i < p.n → nat_abs (low_bits p (pos (get_or work (start + i) 0))) < b) → norm p.q (lows p a) < b
  low_small b m h =
      norm_small (sizes_low p T refl H) b m
      (λ i l. let v : i < p.n = omega (arith, many) in rw (at_start i v) (h i v))
