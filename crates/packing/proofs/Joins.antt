-- Parts joined and cut are themselves, and so is what was cut and is joined.
use mathlib.Core.Path.{◌≡◌, refl, ap, ap₂, ◌∙◌}
use mathlib.Core.List.{List, [], ◌∷◌, ◌++◌}
use Prim.Native.Nat.{ℕ, zero, suc, ◌+◌, ◌<◌}
use native.Mathlib.Omega.{arith}
use lib.ListN.{length, get_or, take, drop, length-append, length-drop, take-append-drop}
use lib.Seq.{take_at, drop_at, length-take-le}
use Rattle.digits.proofs.Numbers.{Below, below_all}
use Rattle.digits.proofs.Windows.{below_drop}
use Rattle.packing.specs.Parts.{cut, join, total, part}
use Rattle.digits.proofs.Codes.{below_at}

abbrev pub Sizes : List ℕ → List (List ℕ) → Type 0
Sizes [] [] = Unit {0}
Sizes [] (p ∷ ps) = ⊥
Sizes (m ∷ ms) [] = ⊥
Sizes (m ∷ ms) (p ∷ ps) = (length p ≡ m) × Sizes ms ps

pub length_join : (ms : List ℕ) (ps : List (List ℕ)) → Sizes ms ps → length (join ps) ≡ total ms
unfolding join total
length_join [] [] s = refl
length_join (m ∷ ms) (p ∷ ps) s = length-append p (join ps) ∙ ap₂ ◌+◌ s.0 (length_join ms ps s.1)
length_join [] (p ∷ ps) s = absurd s
length_join (m ∷ ms) [] s = absurd s

pub cut_join : (ms : List ℕ) (ps : List (List ℕ)) → Sizes ms ps → cut ms (join ps) ≡ ps
unfolding cut join
cut_join [] [] s = refl
cut_join (m ∷ ms) (p ∷ ps) s = ap₂ ◌∷◌ (take_at p (join ps) m s.0) (ap (cut ms) (drop_at p (join ps) m s.0) ∙ cut_join ms ps s.1)
cut_join [] (p ∷ ps) s = absurd s
cut_join (m ∷ ms) [] s = absurd s

pub part_join : (ms : List ℕ) (ps : List (List ℕ)) (i : ℕ) → Sizes ms ps → part ms i (join ps) ≡ get_or ps i []
part_join ms ps i s = ap (λ x. get_or x i []) (cut_join ms ps s)

-- the other way round
pub join_cut : (ms bs : List ℕ) → length bs ≡ total ms → join (cut ms bs) ≡ bs
unfolding cut join total
join_cut [] [] e = refl
join_cut [] (b ∷ bs) e = absurd (omega arith)
join_cut (m ∷ ms) bs e =
    ap (λ (xs : List ℕ). take m bs ++ xs) (join_cut ms (drop m bs) (length-drop m bs ∙ omega arith)) ∙ take-append-drop m bs

pub sizes_cut : (ms bs : List ℕ) → length bs ≡ total ms → Sizes ms (cut ms bs)
unfolding cut total
sizes_cut [] bs e = tt
sizes_cut (m ∷ ms) bs e = (length-take-le m bs (omega arith), sizes_cut ms (drop m bs) (length-drop m bs ∙ omega arith))

-- parts of bytes are bytes
below_take : (m : ℕ) (bs : List ℕ) → Below 256 bs → Below 256 (take m bs)
below_take zero bs h = tt
below_take (suc m) [] h = tt
below_take (suc m) (b ∷ bs) h = (h.0, below_take m bs h.1)

below_part : (ms : List ℕ) (i : ℕ) (bs : List ℕ) → Below 256 bs → Below 256 (part ms i bs)
unfolding cut
below_part [] i bs h = tt
below_part (m ∷ ms) zero bs h = below_take m bs h
below_part (m ∷ ms) (suc i) bs h = below_part ms i (drop m bs) (below_drop m bs h)

pub part_bytes : (ms : List ℕ) (i : ℕ) (bs : List ℕ) → ((k : ℕ) → get_or bs k 0 < 256) → (k : ℕ) → get_or (part ms i bs) k 0 < 256
part_bytes ms i bs h = below_at 256 (part ms i bs) (omega arith) (below_part ms i bs (below_all 256 bs h))
