-- The calls, over what the inner functions answer and leave.
use mathlib.Core.Path.{◌≡◌, sym, ap, subst, ◌∙◌}
use mathlib.Core.List.{List, map}
use Prim.Native.Nat.{ℕ, ◌^◌, ◌≤◌, ◌<◌}
use native.Mathlib.Omega.{arith}
use lib.Pow.{pow_pos}
use lib.ListN.{length, get_or, length-map}
use lib.IntN.{ℤ, pos}
use Rattle.outcome.specs.Outcome.{Is}
use Rattle.answers.specs.declared.Refusal.{Refusal}
use Rattle.answers.specs.declared.Refusal.TheVariants.{Hint}
use Rattle.answers.specs.Result.{done, refused}
use Rattle.residues.specs.Remainder.{signed}
use Rattle.digits.specs.Digits.{codes, bytes, byte_count}
use Rattle.digits.proofs.Codes.{below_at, length_codes}
use Rattle.layouts.specs.declared.layout.Layout.{Layout}
use Rattle.std.specs.Prelude.{Ok}
use Rattle.layouts.specs.Layouts.{means, code, allowed, holds, every, size, pack, unpack}
use Rattle.layouts.specs.Inner.{Unpacked, bad_at, Readable, scan, taken_to, unpacked_to, remainder, remainders}
use Rattle.layouts.proofs.Elements.{every_inv, Element, element_of, below_kept}
use Rattle.layouts.proofs.Scans.{every_all, every_bad, all_taken, bad_found}
use Rattle.layouts.proofs.Reading.{signed_remainders, remainders_below, unpack_all, unpack_bad}

-- ---- packing: the codes of the values, as a walk over them answered and left them
pub record Coding (L : Layout) (q n : ℕ) (values : List ℤ) (found : Unpacked) (cs : List ℕ) : Type 0 where
  pub readable : Readable L q
  pub long : length values ≡ n
  pub old : List ℕ
  pub walk : Is (taken_to (holds L) (code L) values old) found cs

module _ {L : Layout} {q n : ℕ} {values : List ℤ} {found : Unpacked} {cs : List ℕ} (C : Coding L q n values found cs) where
  pub values_bad : (refusal : ℕ → Refusal) (i : ℕ) → found ≡ bad_at i → every (holds L) refusal 0 values ≡ refused (refusal i)
  values_bad refusal i b = every_bad (holds L) refusal 0 values i (bad_found (holds L) (code L) values C.old found cs C.walk i b)

  module _ (a : found ≡ Ok tt) where
    pub values_good : (refusal : ℕ → Refusal) → every (holds L) refusal 0 values ≡ done tt
    values_good refusal = every_all (holds L) refusal 0 values (all_taken (holds L) (code L) values C.old found cs C.walk a).0

    pub codes_are : cs ≡ map (code L) values
    codes_are = (all_taken (holds L) (code L) values C.old found cs C.walk a).1

    pub codes_long : length cs ≡ n
    codes_long = ap length codes_are ∙ length-map values (code L) ∙ C.long

    element : Element L n values
    element =
        element_of L n values C.readable.fits
        (C.long, λ k l. every_inv (pos 0) (holds L) (λ i. Hint) 0 values (values_good (λ i. Hint)) k (omega (arith, C.long)))

    pub codes_small : (k : ℕ) → get_or cs k 0 < 2 ^ L.bits
    codes_small k =
        rw codes_are
        (below_at (2 ^ L.bits) (map (code L) values) (pow_pos L.bits)
        (below_kept L values (λ j l. element.kept j (omega (arith, C.long)))) k)

    -- what is asked before they are packed, and what packing them gives
    pub can_pack : n ≤ 4096 → (out : ℕ) → out ≡ size L n
        → ((0 < L.bits) × (L.bits ≤ 20) × (length cs ≤ 4096) × ((k : ℕ) → get_or cs k 0 < 2 ^ L.bits)) × (out ≡ byte_count L.bits (length cs))
    can_pack l out e =
        ((C.readable.some, C.readable.width, omega (arith, codes_long), codes_small), e ∙ ap (byte_count L.bits) (sym codes_long))

    pub packed_is : bytes L.bits (byte_count L.bits (length cs)) cs ≡ pack L n values
    unfolding pack
    packed_is = rw (codes_long, codes_are)

-- ---- unpacking: the remainders of what the codes mean, as a walk over the codes answered and left them
pub record Decoding (L : Layout) (q n : ℕ) (packed : List ℕ) (found : Unpacked) (xs : List ℕ) : Type 0 where
  pub readable : Readable L q
  pub old : List ℕ
  pub room : length old ≡ n
  pub walk : Is (unpacked_to L q packed old) found xs

module _ {L : Layout} {q n : ℕ} {packed : List ℕ} {found : Unpacked} {xs : List ℕ} (D : Decoding L q n packed found xs) where
  vs : List ℕ
  vs = codes L.bits n packed

  walked : Is (taken_to (allowed L) (remainder L q) vs D.old) found xs
  unfolding vs
  walked = subst (λ (m : ℕ). Is (taken_to (allowed L) (remainder L q) (codes L.bits m packed) D.old) found xs) D.room D.walk

  pub read_bad : (refusal : ℕ → Refusal) (i : ℕ) → found ≡ bad_at i → unpack L refusal n packed ≡ refused (refusal i)
  unfolding vs
  read_bad refusal i b = unpack_bad L refusal n packed i (bad_found (allowed L) (remainder L q) vs D.old found xs walked i b)

  module _ (a : found ≡ Ok tt) where
    scanned : (scan (allowed L) 0 vs ≡ Ok tt) × (xs ≡ remainders L q vs)
    scanned = all_taken (allowed L) (remainder L q) vs D.old found xs walked a

    pub read_remainders : xs ≡ remainders L q (codes L.bits n packed)
    unfolding vs
    read_remainders = scanned.1

    pub read_means : (refusal : ℕ → Refusal) → unpack L refusal n packed ≡ done (map (means L) (codes L.bits n packed))
    unfolding vs
    read_means refusal = unpack_all L refusal n packed scanned.0

    pub read_values : map (signed q) xs ≡ map (means L) (codes L.bits n packed)
    unfolding vs
    read_values = ap (map (signed q)) scanned.1 ∙ signed_remainders L q D.readable 0 vs scanned.0

    pub read_all : (refusal : ℕ → Refusal) → unpack L refusal n packed ≡ done (map (signed q) xs)
    read_all refusal = read_means refusal ∙ ap done (sym read_values)

    pub read_below : (k : ℕ) → get_or xs k 0 < q
    read_below k = rw scanned.1 (remainders_below L q D.readable vs k)

    pub read_long : length xs ≡ n
    unfolding vs
    read_long = ap length scanned.1 ∙ length-map vs (remainder L q) ∙ length_codes L.bits n packed

-- ---- the layout that a constructor made
module _ {L M : Layout} (e : L ≡ M) where
  pub taken_as : (values : List ℤ) (old : List ℕ) (found : Unpacked) (cs : List ℕ) → Is (taken_to (holds L) (code L) values old) found cs → Is (taken_to (holds M) (code M) values old) found cs
  taken_as values old found cs = subst (λ (X : Layout). Is (taken_to (holds X) (code X) values old) found cs) e

  pub unpacked_as : (q : ℕ) (packed old : List ℕ) (found : Unpacked) (xs : List ℕ) → Is (unpacked_to L q packed old) found xs → Is (unpacked_to M q packed old) found xs
  unpacked_as q packed old found xs = subst (λ (X : Layout). Is (unpacked_to X q packed old) found xs) e
