-- Numbers and their digits to any base, lowest first (SPEC 6.1): packed codes of w bits are one number. Its digits to the base 2^w are the codes,
-- and its digits to the base 256 are the bytes.
use Rattle.std.specs.Prelude.{ℕ, zero, suc, ◌+◌, ◌*◌, ◌/◌, ◌%◌, ◌^◌, List, [], ◌∷◌}

-- SPEC 6.1: the number whose digits are given, lowest first
unfoldable pub value : ℕ → List ℕ → ℕ
value b [] = 0
value b (x ∷ xs) = x + b * value b xs

-- SPEC 6.1: the n lowest digits of a number, lowest first
unfoldable pub digits : ℕ → ℕ → ℕ → List ℕ
digits b zero x = []
digits b (suc n) x = x % b ∷ digits b n (x / b)

-- SPEC 6.1: the n codes of w bits that bytes hold
unfoldable pub codes : ℕ → ℕ → List ℕ → List ℕ
codes w n bs = digits (2 ^ w) n (value 256 bs)

-- SPEC 6.1: the m bytes that hold codes of w bits
unfoldable pub bytes : ℕ → ℕ → List ℕ → List ℕ
bytes w m cs = digits 256 m (value (2 ^ w) cs)

-- SPEC 6.4: the whole bytes that n codes of w bits take
abbrev pub byte_count : ℕ → ℕ → ℕ
byte_count w n = (w * n + 7) / 8

-- SPEC 4.12
abbrev pub two_bytes : ℕ → List ℕ
two_bytes k = digits 256 2 k
