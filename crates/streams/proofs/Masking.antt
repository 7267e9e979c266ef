-- y, of any hash: its coefficients, and their range (SPEC 5.4).
use mathlib.Core.Path.{◌≡◌, refl, ◌∙◌}
use mathlib.Core.List.{List, [], ◌∷◌, ◌++◌, map}
use Prim.Native.Nat.{ℕ, zero, suc, ◌-◌, ◌^◌, ◌<◌}
use native.Mathlib.Nat.{mod-lt}
use native.Mathlib.Omega.{arith}
use mathlib.Core.Logic.{⊎_elim}
use lib.Dec.{T, le→leb}
use lib.Pow.{pow_pos}
use lib.ListN.{length, get_or, length-map, get_or-map}
use lib.IntN.{ℤ, pos, negsuc, neg_ℤ, ◌-ℤ◌}
use lib.Signed.{le_z, le_z_yes, ◌≤ℤ◌}
use Rattle.sets.specs.Set.{Set, set1}
use Rattle.digits.specs.Digits.{codes, two_bytes}
use Rattle.digits.proofs.Codes.{length_codes, codes_at}
use Rattle.layouts.specs.Layouts.{y_layout, means, size}
use Rattle.residues.proofs.Order.{below_or}
use Rattle.residues.proofs.Differences.{pos_sub, sub_lt, sub_ge}
use Rattle.streams.specs.Streams.{Hash, expand_y}
use Rattle.sampling.proofs.Drawing.{Each}

-- within a list it does not matter what stands past its end
pub default : {A : Type 0} (zs : List A) (k : ℕ) (d e : A) → k < length zs → get_or zs k d ≡ get_or zs k e
default [] k d e l = absurd (omega arith)
default (z ∷ zs) zero d e l = refl
default (z ∷ zs) (suc k) d e l = default zs k d e (omega arith)

-- g - v for a code v below b
abbrev pub Masked : ℕ → ℕ → ℤ → Type 0
Masked g b z = (v : ℕ) × (z ≡ pos g -ℤ pos v) × (v < b)

-- in whole numbers: from -(b - 1 - g) to g
pub masked_range : (g b : ℕ) (z : ℤ) → Masked g b z → (neg_ℤ (pos (b - 1 - g)) ≤ℤ z) × (z ≤ℤ pos g)
masked_range g b z M =
    let e = M.1 ∙ pos_sub g M.0 in
    ⊎_elim
    (λ l. rw (e, sub_lt {a = g} {b = M.0} l) (le_z_yes (low (b - 1 - g) (M.0 - suc g) (omega (arith, M.2))), le_z_yes tt))
    (λ l. rw (e, sub_ge {a = g} {b = M.0} l) (le_z_yes (none (b - 1 - g) (g - M.0)), le_z_yes (le→leb (g - M.0) g (omega arith))))
    (below_or g M.0)
  where
    low : (n u : ℕ) → u < n → T (le_z (neg_ℤ (pos n)) (negsuc u))
    low zero u l = absurd (omega arith)
    low (suc n) u l = le→leb u n (omega arith)

    none : (n u : ℕ) → T (le_z (neg_ℤ (pos n)) (pos u))
    none zero u = le→leb 0 u (omega arith)
    none (suc n) u = tt

module _ (p : Set) (H : Hash) (ρ : List ℕ) (κ : ℕ) where
  abbrev pub y_codes : List ℕ
  y_codes = codes p.zbits p.n (H (ρ ++ two_bytes κ) (size (y_layout p) p.n))

  pub y_length : length (expand_y p H ρ κ) ≡ p.n
  unfolding expand_y
  y_length = length-map y_codes (means (y_layout p)) ∙ length_codes p.zbits p.n _

  pub y_at : (k : ℕ) → k < p.n → get_or (expand_y p H ρ κ) k (pos 0) ≡ means (y_layout p) (get_or y_codes k 0)
  unfolding expand_y
  y_at k l =
      default (map (means (y_layout p)) y_codes) k (pos 0) (means (y_layout p) 0)
      (omega (arith, length-map y_codes (means (y_layout p)), length_codes p.zbits p.n (H (ρ ++ two_bytes κ) (size (y_layout p) p.n)))) ∙
      get_or-map (means (y_layout p)) y_codes k 0

  pub y_code : (k : ℕ) → k < p.n → get_or y_codes k 0 < 2 ^ p.zbits
  y_code k l = rw (codes_at p.zbits p.n (H (ρ ++ two_bytes κ) (size (y_layout p) p.n)) k l) (mod-lt _ (pow_pos p.zbits))

  pub expanded_y : Each (Masked p.gamma1 (2 ^ p.zbits)) p.n (expand_y p H ρ κ)
  expanded_y = record { long = y_length; each = λ k l. (get_or y_codes k 0, y_at k l, y_code k l) }

-- set 1
pub y_range : (H : Hash) (ρ : List ℕ) (κ : ℕ) → Each (λ z. (negsuc 262142 ≤ℤ z) × (z ≤ℤ pos 262144)) 1152 (expand_y set1 H ρ κ)
y_range H ρ κ =
    let E = expanded_y set1 H ρ κ in
    record { long = E.long; each = λ k l. masked_range 262144 524288 (get_or (expand_y set1 H ρ κ) k (pos 0)) (E.each k l) }
