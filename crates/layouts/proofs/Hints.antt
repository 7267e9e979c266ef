-- Hints: how many ones there are, and what the calls make of the count.
use mathlib.Core.Path.{◌≡◌, refl, sym, ap, ap₂, ◌∙◌}
use mathlib.Core.List.{List, [], ◌∷◌, map}
use Prim.Native.Nat.{ℕ, suc, ◌+◌, ◌≤◌, ◌<◌}
use native.Mathlib.Omega.{arith}
use lib.ListN.{get_or, length}
use lib.IntN.{ℤ, pos, nat_abs}
use Rattle.sets.specs.Set.{Set}
use Rattle.answers.specs.declared.Refusal.{Refusal}
use Rattle.answers.specs.declared.Refusal.TheVariants.{Hint}
use Rattle.answers.specs.Result.{done, refused}
use Rattle.answers.proofs.Outcomes.{stops, gives, above, at_most}
use Rattle.residues.proofs.Remainders.{residue_small}
use Rattle.digits.specs.Digits.{codes}
use Rattle.digits.proofs.Codes.{codes_below}
use Rattle.std.specs.Prelude.{Ok, sum}
use Rattle.std.proofs.lemmas.List.Sums.{sum_by-cons}
use Rattle.layouts.specs.Layouts.{hint_layout, code, unpack}
use Rattle.layouts.specs.Hints.{ones, any_hint, read_hints}
use Rattle.layouts.specs.Inner.{Unpacked, remainders}
use Rattle.layouts.proofs.Reading.{some_q}
use Rattle.layouts.proofs.Packs.{Coding, codes_are, Decoding, read_remainders, read_means}

-- the count of bits is their sum
pub ones_bits : (bits : List ℕ) → ones (map pos bits) ≡ sum bits
unfolding ones
ones_bits [] = refl
ones_bits (b ∷ bs) = omega (arith, ones_bits bs, sum_by-cons (λ (x : ℕ). x) b bs)

-- no more than there are bits
pub sum_at_most_length : (bits : List ℕ) → ((k : ℕ) → get_or bits k 0 ≤ 1) → sum bits ≤ length bits
sum_at_most_length [] h = omega arith
sum_at_most_length (b ∷ bs) h = omega (arith, h 0, sum_at_most_length bs (λ k. h (suc k)), sum_by-cons (λ (x : ℕ). x) b bs)

-- ---- the count of packed values and of codes that were read
pub ones_codes : (zs : List ℤ) → ones (map pos (map (code hint_layout) zs)) ≡ ones zs
unfolding ones
ones_codes [] = refl
ones_codes (z ∷ zs) = ap (λ (n : ℕ). nat_abs z + n) (ones_codes zs)

-- a hint is its own remainder
plain_remainders : (q : ℕ) → 0 < q → (vs : List ℕ) → ((k : ℕ) → get_or vs k 0 < q) → remainders hint_layout q vs ≡ vs
plain_remainders q p [] h = refl
plain_remainders q p (v ∷ vs) h = ap₂ ◌∷◌ (residue_small q p v (h 0)) (plain_remainders q p vs (λ k. h (suc k)))

module _ {q n : ℕ} {packed : List ℕ} {found : Unpacked} {xs : List ℕ} (D : Decoding hint_layout q n packed found xs) (a : found ≡ Ok tt) where
  bits_are : xs ≡ codes 1 n packed
  bits_are =
      read_remainders D a ∙
      plain_remainders q (some_q hint_layout q D.readable) (codes 1 n packed) (λ k. omega (arith, codes_below 1 n packed k, D.readable.most))

  pub bits_small : (k : ℕ) → get_or xs k 0 ≤ 1
  bits_small k = rw bits_are (omega (arith, codes_below 1 n packed k))

  pub hints_are : (refusal : ℕ → Refusal) → unpack hint_layout refusal n packed ≡ done (map pos xs)
  hints_are refusal = read_means D a refusal ∙ ap (λ (vs : List ℕ). done (map pos vs)) (sym bits_are)

module _ (p : Set) (packed : List ℕ) where
  pub read_hints_bad : (r : Refusal) → unpack hint_layout any_hint p.n packed ≡ refused r → read_hints p packed ≡ refused r
  unfolding read_hints
  read_hints_bad r e = stops _ r _ e

  module _ (h : List ℤ) (e : unpack hint_layout any_hint p.n packed ≡ done h) where
    pub read_hints_many : p.omega < ones h → read_hints p packed ≡ refused Hint
    unfolding read_hints
    read_hints_many l = gives _ h _ e ∙ above (ones h) p.omega Hint (done h) l

    pub read_hints_few : ones h ≤ p.omega → read_hints p packed ≡ done h
    unfolding read_hints
    read_hints_few l = gives _ h _ e ∙ at_most (ones h) p.omega Hint (done h) l

-- the count of packed hints
pub count_is : {q n : ℕ} {values : List ℤ} {found : Unpacked} {cs : List ℕ} → Coding hint_layout q n values found cs → found ≡ Ok tt
    → (count : ℕ) → count ≡ ones (map pos cs) → count ≡ ones values
count_is {values = values} C a count c = c ∙ ap (λ (xs : List ℕ). ones (map pos xs)) (codes_are C a) ∙ ones_codes values
