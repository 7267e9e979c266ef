-- What the samplers of set 1 draw, in its numbers (SPEC 5.2, 5.3, 5.5).
use mathlib.Core.Path.{◌≡◌}
use mathlib.Core.List.{List}
use Prim.Native.Nat.{ℕ}
use lib.IntN.{ℤ}
use Rattle.sets.specs.Set.{set1}
use Rattle.sets.proofs.Five.{good_set1}
use Rattle.sampling.specs.Samplers.{drew, sample_a, sample_s, challenge}
use Rattle.sampling.proofs.Drawing.{Each, Plain, Small, drawn_a_lem, drawn_s_lem}
use Rattle.sampling.proofs.Sparse.{Sparse, sparse_challenge, nonzeros, challenge_count}

pub a_below : (bs : List ℕ) (a : List ℤ) → sample_a set1 bs ≡ drew a → Each (Plain 8401537) 1152 a
a_below bs a e = drawn_a_lem set1 bs a e

pub s_small : (bs : List ℕ) (s : List ℤ) → sample_s set1 bs ≡ drew s → Each (Small 1) 1152 s
s_small bs s e = drawn_s_lem set1 bs s e

pub c_sparse : (bs : List ℕ) (c : List ℤ) → challenge set1 bs ≡ drew c → Sparse 1152 25 c
c_sparse bs c e = sparse_challenge set1 good_set1 bs c e

pub c_count : (bs : List ℕ) (c : List ℤ) → challenge set1 bs ≡ drew c → nonzeros c ≡ 25
c_count bs c e = challenge_count set1 good_set1 bs c e
