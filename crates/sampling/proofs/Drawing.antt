-- What the samplers of a and s draw: n coefficients, each in its range.
use mathlib.Core.Path.{◌≡◌, refl, sym, ap, ◌∙◌}
use mathlib.Core.Bool.{Bool, true, false}
use mathlib.Core.List.{List, [], ◌∷◌, map}
use mathlib.Core.Logic.{⊎_elim}
use Prim.Native.Nat.{ℕ, zero, suc, ◌*◌, ◌≤◌, ◌<◌}
use native.Mathlib.Omega.{arith}
use borrow.Author.Tests.{leb-true, ltb-true}
use lib.ListN.{length, get_or, length-map, get_or-map, get_or-eq_default}
use lib.IntN.{ℤ, pos, nat_abs, ◌-ℤ◌}
use Rattle.sets.specs.Set.{Set}
use Rattle.answers.specs.Result.{done}
use Rattle.residues.proofs.Order.{below_or}
use Rattle.residues.proofs.Differences.{pos_sub, abs_sub_le}
use Rattle.sampling.specs.Samplers.{Drawn, dry, drew, also, drawn, first, sample_a, sample_s}

-- a dry stream gives nothing
pub not_dry : {A : Type 0} (zs : List ℤ) → dry ≡ drew zs → A
not_dry zs e = let z : ◌≡◌ {A = ℕ} 0 1 = cc in absurd (omega arith)

pub also_drew : (x : ℤ) (d : Drawn) (zs : List ℤ) → also x d ≡ drew zs → (ys : List ℤ) × (d ≡ drew ys) × (zs ≡ x ∷ ys)
also_drew x (drew ys) zs e = (ys, refl, cc)
also_drew x dry zs e = not_dry zs e

-- a stream that is not dry, from a definition's result
pub drawn_done : (d : Drawn) (zs : List ℤ) → drawn d ≡ done zs → d ≡ drew zs
drawn_done (drew xs) zs e = ap drew (cc)
drawn_done dry zs e = let z : ◌≡◌ {A = ℕ} 0 1 = cc in absurd (omega arith)

-- n coefficients, each of which is a Q
pub record Each (Q : ℤ → Type 0) (n : ℕ) (zs : List ℤ) : Type 0 where
  pub long : length zs ≡ n
  pub each : (k : ℕ) → k < n → Q (get_or zs k (pos 0))

module _ (ok : ℕ → Bool) (means : ℕ → ℤ) (Q : ℤ → Type 0) (good : (v : ℕ) → ok v ≡ true → Q (means v)) where
  put : (z : ℤ) (m : ℕ) (ys : List ℤ) → Q z → Each Q m ys → Each Q (suc m) (z ∷ ys)
  put z m ys q E = record { long = ap suc E.long; each = at }
    where
      at : (k : ℕ) → k < suc m → Q (get_or (z ∷ ys) k (pos 0))
      at zero l = q
      at (suc k) l = E.each k (omega arith)

  -- the first draws that pass
  pub first_drawn : (xs : List ℕ) (m : ℕ) (zs : List ℤ) → first ok means xs m ≡ drew zs → Each Q m zs
  unfolding first
  first_drawn xs zero zs e = let n : zs ≡ [] = cc in record { long = ap length n; each = λ k l. absurd (omega arith) }
  first_drawn [] (suc m) zs e = not_dry zs e
  first_drawn (x ∷ xs) (suc m) zs e = go (ok x) refl (first_drawn xs m) (first_drawn xs (suc m) zs)
    where
      go : (b : Bool) → ok x ≡ b → ((ys : List ℤ) → first ok means xs m ≡ drew ys → Each Q m ys)
          → (first ok means xs (suc m) ≡ drew zs → Each Q (suc m) zs) → Each Q (suc m) zs
      go true b now later =
          let t : also (means x) (first ok means xs m) ≡ drew zs = rw b at e in
          let i = also_drew (means x) (first ok means xs m) zs t in
          rw i.2 (put (means x) m i.0 (good x b) (now i.0 i.1))
      go false b now later = later (rw b at e)

-- a number below q, and one of magnitude at most η
abbrev pub Plain : ℕ → ℤ → Type 0
Plain q z = (v : ℕ) × (z ≡ pos v) × (v < q)

abbrev pub Small : ℕ → ℤ → Type 0
Small η z = nat_abs z ≤ η

module _ (p : Set) where
  -- a has n coefficients from 0 to q - 1
  pub drawn_a_lem : (bs : List ℕ) (a : List ℤ) → sample_a p bs ≡ drew a → Each (Plain p.q) p.n a
  unfolding sample_a
  drawn_a_lem bs a e = first_drawn _ pos (Plain p.q) (λ v h. (v, refl, ltb-true v p.q h)) _ p.n a e

  -- so numbers that stand for a's coefficients are below q
  pub held_below : (bs xs : List ℕ) → 0 < p.q → sample_a p bs ≡ drew (map pos xs) → (k : ℕ) → get_or xs k 0 < p.q
  held_below bs xs q e k = ⊎_elim in-it past (below_or k (length xs))
    where
      E : Each (Plain p.q) p.n (map pos xs)
      E = drawn_a_lem bs (map pos xs) e

      in-it : k < length xs → get_or xs k 0 < p.q
      in-it l =
          let P = E.each k (omega (arith, E.long, length-map xs pos)) in
          let z : pos (get_or xs k 0) ≡ pos P.0 = sym (get_or-map pos xs k 0) ∙ P.1 in
          let v : get_or xs k 0 ≡ P.0 = cc in
          omega (arith, P.2)

      past : length xs ≤ k → get_or xs k 0 < p.q
      past l = rw (get_or-eq_default xs 0 {n = k} l) q

  -- s has n coefficients of magnitude at most η
  pub drawn_s_lem : (bs : List ℕ) (s : List ℤ) → sample_s p bs ≡ drew s → Each (Small p.eta) p.n s
  unfolding sample_s
  drawn_s_lem bs s e = first_drawn _ _ (Small p.eta) (λ v h. within v (leb-true v (2 * p.eta) h)) _ p.n s e
    where
      within : (v : ℕ) → v ≤ 2 * p.eta → nat_abs (pos p.eta -ℤ pos v) ≤ p.eta
      within v l = rw (pos_sub p.eta v) (abs_sub_le p.eta v p.eta (omega arith) (omega arith))
