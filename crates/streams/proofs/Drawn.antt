-- What a and s hold where their streams are not dry, for any hash (SPEC 5.2, 5.3).
use mathlib.Core.Path.{◌≡◌}
use mathlib.Core.List.{List}
use Prim.Native.Nat.{ℕ}
use lib.IntN.{ℤ}
use Rattle.sets.specs.Set.{Set}
use Rattle.answers.specs.Result.{done}
use Rattle.sampling.proofs.Drawing.{Each, Plain, Small, drawn_a_lem, drawn_s_lem, drawn_done}
use Rattle.streams.specs.Streams.{Hash, expand_a, expand_s}

module _ (p : Set) (H : Hash) where
  pub expanded_a : (ζ : List ℕ) (a : List ℤ) → expand_a p H ζ ≡ done a → Each (Plain p.q) p.n a
  unfolding expand_a
  expanded_a ζ a e = drawn_a_lem p _ a (drawn_done _ a e)

  pub expanded_s : (ξ : List ℕ) (s : List ℤ) → expand_s p H ξ ≡ done s → Each (Small p.eta) p.n s
  unfolding expand_s
  expanded_s ξ s e = drawn_s_lem p _ s (drawn_done _ s e)
