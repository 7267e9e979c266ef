-- The codes of allowed values, and their bytes.
use mathlib.Core.Path.{◌≡◌, refl, ◌∙◌}
use mathlib.Core.Bool.{true}
use mathlib.Core.List.{List, [], ◌∷◌, map}
use mathlib.Core.Logic.{⊎_elim}
use Prim.Native.Nat.{ℕ, zero, suc, ◌^◌, ◌≤◌, ◌<◌}
use native.Mathlib.Omega.{arith}
use lib.Pow.{pow_pos}
use lib.ListN.{length, get_or, length-map, get_or-eq_default}
use Rattle.residues.specs.Remainder.{signed}
use Rattle.residues.proofs.Order.{below_or}
use Rattle.layouts.specs.declared.layout.Layout.{Layout}
use Rattle.digits.specs.Digits.{bytes, byte_count}
use Rattle.layouts.specs.Layouts.{code, holds, size, pack}
use Rattle.layouts.specs.Inner.{Readable}
use Rattle.layouts.proofs.Kept.{kept_of}

-- the codes of allowed values can be packed, and their bytes are the values'
module _ {L : Layout} {q : ℕ} (R : Readable L q) (xs : List ℕ) (good : (k : ℕ) → k < length xs → holds L (signed q (get_or xs k 0)) ≡ true) where
  abbrev codes_of : List ℕ
  codes_of = map (code L) (map (signed q) xs)

  long : length codes_of ≡ length xs
  long = length-map (map (signed q) xs) (code L) ∙ length-map xs (signed q)

  codes_fit : (k : ℕ) → get_or codes_of k 0 < 2 ^ L.bits
  codes_fit k =
      ⊎_elim (λ l. rw (at_code xs k l) (kept_of L (signed q (get_or xs k 0)) R.fits (good k l)).fits)
      (λ l. rw (get_or-eq_default codes_of 0 {n = k} (omega (arith, long))) (pow_pos L.bits))
      (below_or k (length xs))
    where
      at_code : (ys : List ℕ) (k : ℕ) → k < length ys → get_or (map (code L) (map (signed q) ys)) k 0 ≡ code L (signed q (get_or ys k 0))
      at_code [] k l = absurd (omega arith)
      at_code (y ∷ ys) zero l = refl
      at_code (y ∷ ys) (suc k) l = at_code ys k (omega arith)

  pub can_pack : {cs : List ℕ} (m : ℕ) → cs ≡ map (code L) (map (signed q) xs) → length xs ≤ 4096 → m ≡ size L (length xs)
      → ((0 < L.bits) × (L.bits ≤ 20) × (length cs ≤ 4096) × ((k : ℕ) → get_or cs k 0 < 2 ^ L.bits)) × (m ≡ byte_count L.bits (length cs))
  can_pack m e l s = rw e ((R.some, R.width, omega (arith, long), codes_fit), rw long s)

  pub packed : {cs bs : List ℕ} → cs ≡ map (code L) (map (signed q) xs) → bs ≡ bytes L.bits (byte_count L.bits (length cs)) cs → bs ≡ pack L (length xs) (map (signed q) xs)
  unfolding pack
  packed e f = f ∙ rw (e, long) refl
