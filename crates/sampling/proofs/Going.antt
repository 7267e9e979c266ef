-- The loops of a and s: draws from the front of a stream that gets shorter.
use mathlib.Core.Path.{◌≡◌, sym, ap, ◌∙◌}
use mathlib.Core.Bool.{Bool}
use mathlib.Core.List.{List, [], ◌∷◌, ◌++◌, map}
use Prim.Native.Nat.{ℕ, ◌*◌, ◌/◌, ◌%◌, ◌^◌, ◌≤◌, ◌<◌}
use native.Mathlib.Omega.{arith}
use lib.ListN.{length, get_or, take, drop, replicate, length-drop, length-replicate, take-append-drop}
use lib.Seq.{length-take-le}
use lib.IntN.{ℤ, pos}
use Rattle.std.specs.Prelude.{Ok}
use Rattle.std.specs.List.{slice_range}
use Rattle.std.proofs.lemmas.Slice.{between_to_end}
use Rattle.std.proofs.lemmas.List.{take-take}
use Rattle.digits.specs.Digits.{value, codes}
use Rattle.outcome.specs.Outcome.{Is}
use Rattle.sets.specs.Set.{Set}
use Rattle.sets.specs.Good.{Good}
use Rattle.sampling.specs.Inner.{dry_stream, a_draws, s_draws, passing, gathered, Free, kept, filled, is_a, is_s, means_s, drawn_a, drawn_s}
use Rattle.digits.proofs.Numbers.{Below, below_all}
use Rattle.sampling.proofs.Groups.{below_front, below_back, codes_front, groups_next, groups_none, fields_next, fields_none}
use Rattle.sampling.proofs.Bounds.{some_bytes}
use Rattle.sampling.proofs.Sparse.{at_zeros}
use Rattle.sampling.proofs.Filling.{kept_free, filled_one, filled_append, filled_free, found_all, found_some}

module _ {A : Type 0} (none : A) (ok : ℕ → Bool) (means : ℕ → A) (draws : List ℕ → List ℕ) (n : ℕ) (bs : List ℕ) where
  -- `found` coefficients are in the buffer, with zeros behind them; `rest` of the stream is left, and decides the others
  pub record Going (out : List A) (found : ℕ) (rest : List ℕ) : Type 0 where
    pub long : length out ≡ n
    pub below : Below 256 rest
    pub free : Free none found out
    pub same : filled ok means (draws rest) n found out ≡ filled ok means (draws bs) n 0 (replicate n none)

  pub going_none : ((k : ℕ) → get_or bs k 0 < 256) → (out : List A) → out ≡ replicate n none → Going out 0 bs
  going_none small out e = record {
    long = ap length e ∙ length-replicate n none;
    below = below_all 256 bs small;
    free = λ k l. rw e (at_zeros none n k);
    same = ap (filled ok means (draws bs) n 0) e;
  }

  module _ (out : List A) (found : ℕ) (rest : List ℕ) (G : Going out found rest) where
    pub going_all : n ≤ found → Is (gathered none n (passing ok means (draws bs) n)) (Ok tt) out
    going_all l = found_all ok means none (draws bs) n (draws rest) found out G.same l

    pub going_dry : found < n → draws rest ≡ [] → Is (gathered none n (passing ok means (draws bs) n)) dry_stream out
    going_dry l e = found_some ok means none (draws bs) n found out (ap (λ (xs : List ℕ). filled ok means xs n found out) (sym e) ∙ G.same) l

    -- g bytes more are used up
    pub going_more : (x after : List ℕ) (out' : List A) (found' : ℕ) → rest ≡ x ++ after → length out' ≡ length out → Free none found' out'
        → filled ok means (draws (x ++ after)) n found out ≡ filled ok means (draws after) n found' out' → Going out' found' after
    going_more x after out' found' e l h f = record {
      long = l ∙ G.long;
      below = below_back 256 x after (rw e at G.below);
      free = h;
      same = sym f ∙ (rw e at G.same);
    }

abbrev pub GoingA : Set → List ℕ → List ℕ → ℕ → List ℕ → Type 0
GoingA p bs out found rest = Going 0 (is_a p) (λ v. v) (a_draws p) p.n bs out found rest

abbrev pub GoingS : Set → List ℕ → List ℤ → ℕ → List ℕ → Type 0
GoingS p bs out found rest = Going (pos 0) (is_s p) (means_s p) (s_draws p) p.n bs out found rest

-- the group that stands first, and what `get` gives of those behind it
group_first : (g : ℕ) (rest behind : List ℕ) → behind ≡ slice_range rest g (length rest) → rest ≡ take g rest ++ behind
group_first g rest behind e = sym (take-append-drop g rest) ∙ ap (λ (ys : List ℕ). take g rest ++ ys) (sym (e ∙ between_to_end rest g (length rest) (omega arith)))

-- less is left behind a group
pub less_behind : (g : ℕ) (rest behind : List ℕ) → 0 < g → g ≤ length rest → behind ≡ slice_range rest g (length rest) → length behind < length rest
less_behind g rest behind some h e =
    let n : length behind ≡ length (drop g rest) = ap length (e ∙ between_to_end rest g (length rest) (omega arith)) in
    omega (arith, n, length-drop g rest)

-- a
module _ (p : Set) (bs out : List ℕ) (found : ℕ) (rest : List ℕ) (G : GoingA p bs out found rest) where
  pub a_all : p.n ≤ found → Is (drawn_a p bs) (Ok tt) out
  unfolding drawn_a
  a_all l = going_all 0 (is_a p) (λ v. v) (a_draws p) p.n bs out found rest G l

  pub a_dry : found < p.n → length rest < p.abytes → Is (drawn_a p bs) dry_stream out
  unfolding drawn_a
  a_dry l h = going_dry 0 (is_a p) (λ v. v) (a_draws p) p.n bs out found rest G l (ap (map (λ x. x % 2 ^ p.abits)) (groups_none p.abytes rest h))

  -- one group more, of g bytes
  pub a_more : Good p → found < p.n → (g : ℕ) → g ≤ length rest → (behind : List ℕ) → behind ≡ slice_range rest g (length rest) → g ≡ p.abytes
      → (v : ℕ) → v ≡ value 256 (take p.abytes rest) % 2 ^ p.abits
      → (out' : List ℕ) (found' : ℕ) → length out' ≡ length out → Is (kept (is_a p v) v found out) found' out' → GoingA p bs out' found' behind
  a_more good l g h behind r same v e out' found' s I =
      going_more 0 (is_a p) (λ v. v) (a_draws p) p.n bs out found rest G x behind out' found' whole s (kept_free 0 (is_a p v) v found out found' out' G.free I)
      (ap (λ (xs : List ℕ). filled (is_a p) (λ v. v) xs p.n found out) next ∙
      filled_one (is_a p) (λ v. v) v (a_draws p behind) p.n found out found' out' l I)
    where
      x : List ℕ
      x = take p.abytes rest

      whole : rest ≡ x ++ behind
      whole = group_first p.abytes rest behind (rw same at r)

      next : a_draws p (x ++ behind) ≡ v ∷ a_draws p behind
      next =
          ap (map (λ y. y % 2 ^ p.abits))
          (groups_next x (below_front 256 x behind (rw (← whole) G.below)) behind p.abytes (some_bytes p good) (length-take-le p.abytes rest (rw same at h))) ∙
          ap (λ (y : ℕ). y ∷ a_draws p behind) (sym e)

-- s
module _ (p : Set) (bs : List ℕ) (out : List ℤ) (found : ℕ) (rest : List ℕ) (G : GoingS p bs out found rest) where
  pub s_all : p.n ≤ found → Is (drawn_s p bs) (Ok tt) out
  unfolding drawn_s
  s_all l = going_all (pos 0) (is_s p) (means_s p) (s_draws p) p.n bs out found rest G l

  pub s_dry : found < p.n → length rest < p.sbytes → Is (drawn_s p bs) dry_stream out
  unfolding drawn_s
  s_dry l h =
      going_dry (pos 0) (is_s p) (means_s p) (s_draws p) p.n bs out found rest G l
      (fields_none p.sbits (8 * p.sbytes / p.sbits) p.sbytes rest h)

  -- one group more
  pub s_more : Good p → p.sbytes ≤ length rest → (behind : List ℕ) → behind ≡ slice_range rest p.sbytes (length rest)
      → (out' : List ℤ) (found' : ℕ) → length out' ≡ length out
      → Is (filled (is_s p) (means_s p) (codes p.sbits (8 * p.sbytes / p.sbits) (take 4 rest)) p.n found out) found' out'
      → GoingS p bs out' found' behind
  s_more good h behind r out' found' s J =
      going_more (pos 0) (is_s p) (means_s p) (s_draws p) p.n bs out found rest G x behind out' found' whole s (rw (← I.answers, ← I.leaves) at F)
      (ap (λ (xs : List ℕ). filled (is_s p) (means_s p) xs p.n found out)
      (fields_next x below behind p.sbits count p.sbytes good.s_whole good.s_group_some (length-take-le p.sbytes rest h)) ∙
      filled_append (is_s p) (means_s p) (codes p.sbits count x) (s_draws p behind) p.n found out ∙
      rw (← I.answers, ← I.leaves))
    where
      count : ℕ
      count = 8 * p.sbytes / p.sbits

      x : List ℕ
      x = take p.sbytes rest

      whole : rest ≡ x ++ behind
      whole = group_first p.sbytes rest behind r

      below : Below 256 x
      below = below_front 256 x behind (rw (← whole) G.below)

      -- four bytes have room for it
      same : codes p.sbits count (take 4 rest) ≡ codes p.sbits count x
      same =
          let n : length x ≡ p.sbytes = length-take-le p.sbytes rest h in
          let four : take 4 rest ≡ x ++ drop p.sbytes (take 4 rest) =
          sym (take-append-drop p.sbytes (take 4 rest)) ∙
          ap (λ (ys : List ℕ). ys ++ drop p.sbytes (take 4 rest)) (take-take p.sbytes 4 rest good.s_group_room) in
          ap (codes p.sbits count) four ∙ codes_front x below (drop p.sbytes (take 4 rest)) p.sbits count (rw n good.s_whole)

      I : Is (filled (is_s p) (means_s p) (codes p.sbits count x) p.n found out) found' out'
      I = rw (← same) J

      F : Free (pos 0) (filled (is_s p) (means_s p) (codes p.sbits count x) p.n found out).0 (filled (is_s p) (means_s p) (codes p.sbits count x) p.n found out).1
      F = filled_free (is_s p) (means_s p) (pos 0) (codes p.sbits count x) p.n found out G.free
