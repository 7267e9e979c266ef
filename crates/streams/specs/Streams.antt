-- Elements from the streams of a hash (SPEC 5). The definitions and the laws take any hash; every promise is of SHAKE256 (SPEC 4.11).
use Rattle.std.specs.Prelude.{ℕ, List, ◌++◌, map, ℤ}
use Rattle.sets.specs.Set.{Set}
use Rattle.answers.specs.Result.{Result}
use Rattle.digits.specs.Digits.{codes, two_bytes}
use Rattle.layouts.specs.Layouts.{y_layout, means, size}
use Rattle.sampling.specs.Samplers.{Drawn, drawn, sample_a, sample_s, challenge}

-- SPEC 4.11: H x b is the first b bytes of the hash of x
abbrev pub Hash : Type 0
Hash = List ℕ → ℕ → List ℕ

-- SPEC 5.2
unfoldable pub expand_a : Set → Hash → List ℕ → Result (List ℤ)
expand_a p H ζ = drawn (sample_a p (H (ζ ++ two_bytes 0) p.astream))

-- SPEC 5.3
unfoldable pub expand_s : Set → Hash → List ℕ → Result (List ℤ)
expand_s p H ξ = drawn (sample_s p (H ξ p.sstream))

-- SPEC 5.4
unfoldable pub expand_y : Set → Hash → List ℕ → ℕ → List ℤ
expand_y p H ρ κ = map (means (y_layout p)) (codes p.zbits p.n (H (ρ ++ two_bytes κ) (size (y_layout p) p.n)))

-- SPEC 5.5
unfoldable pub expand_c : Set → Hash → List ℕ → Drawn
expand_c p H c~ = challenge p (H c~ p.cstream)
