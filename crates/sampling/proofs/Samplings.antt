-- The three samplers, each tied to its definition.
use mathlib.Core.Path.{◌≡◌, refl, ap, ◌∙◌}
use mathlib.Core.Bool.{Bool, true, false}
use mathlib.Core.List.{List, map, map-id}
use Prim.Native.Nat.{ℕ, ◌-◌}
use lib.Dec.{eqb}
use lib.IntN.{ℤ, pos}
use lib.ListN.{take, drop, replicate}
use Rattle.digits.specs.Digits.{value}
use Rattle.outcome.specs.Outcome.{Is}
use Rattle.sets.specs.Set.{Set}
use Rattle.answers.specs.Result.{pick}
use Rattle.sampling.specs.Samplers.{dry, drew, sample_a, sample_s, challenge}
use Rattle.sampling.specs.Inner.{Sampled, verdict, a_draws, s_draws, c_draws, is_a, is_s, means_s, placing, drawn_a, drawn_s, drawn_c}
use Rattle.sampling.proofs.Filling.{said, tied}
use Rattle.sampling.proofs.Placing.{placed_placing}

module _ (p : Set) (bs : List ℕ) (r : Sampled) where
  pub tied_a : (out : List ℕ) → Is (drawn_a p bs) r out → sample_a p bs ≡ said r (map pos out)
  unfolding sample_a drawn_a
  tied_a out I = tied (is_a p) (λ v. v) 0 (a_draws p bs) p.n pos r out I

  pub tied_s : (out : List ℤ) → Is (drawn_s p bs) r out → sample_s p bs ≡ said r out
  unfolding sample_s drawn_s
  tied_s out I = tied (is_s p) (means_s p) (pos 0) (s_draws p bs) p.n (λ z. z) r out I ∙ ap (said r) (map-id out)

  pub tied_c : (out : List ℤ) → Is (drawn_c p bs) r out → challenge p bs ≡ said r out
  unfolding challenge drawn_c
  tied_c out I =
      rw (I.answers, I.leaves)
      (placed_placing (c_draws p (drop 8 bs)) p.tau (p.n - p.tau) (value 256 (take 8 bs)) (replicate p.n (pos 0)) ∙
      go (placing (c_draws p (drop 8 bs)) p.tau (p.n - p.tau) (value 256 (take 8 bs)) (replicate p.n (pos 0))))
    where
      by : (b : Bool) (c : List ℤ) → pick b (drew c) dry ≡ said (verdict b) c
      by true c = refl
      by false c = refl

      go : (s : ℕ × List ℤ) → pick (eqb s.0 0) (drew s.1) dry ≡ said (verdict (eqb s.0 0)) s.1
      go s = by (eqb s.0 0) s.1
