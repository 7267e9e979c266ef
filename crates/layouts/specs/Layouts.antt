-- The packed layouts (SPEC 6).
use Rattle.std.specs.Prelude.{ℕ, suc, ◌+◌, ◌-◌, ◌*◌, ◌^◌, Bool, true, false, cond, ◌&&◌, List, [], ◌∷◌, map, leb, ℤ, pos, negsuc, nat_abs, ◌-ℤ◌}
use Rattle.sets.specs.Set.{Set, steps}
use Rattle.answers.specs.declared.Field.{Field}
use Rattle.answers.specs.declared.Field.TheVariants.{T1, T0, S1, S2, S, Z, W1}
use Rattle.answers.specs.declared.Refusal.{Refusal}
use Rattle.answers.specs.Result.{Result, done, ◌>>◌, need}
use Rattle.digits.specs.Digits.{codes, bytes, byte_count}
use Rattle.layouts.specs.declared.layout.Layout.{Layout}

-- SPEC 6.2: a layout is a value of the code's own struct: the width of a code in bits, whether the code is the value itself or base - value (down), and
-- the codes that are allowed
abbrev pub plain : ℕ → ℕ → Layout
plain bits most = record { bits = bits; down = false; base = 0; least = 0; most = most }

abbrev pub down : ℕ → ℕ → ℕ → ℕ → Layout
down bits base least most = record { bits = bits; down = true; base = base; least = least; most = most }

-- SPEC 6.3
abbrev pub t1_layout : Set → Layout
t1_layout p = plain p.t1bits p.t1top

abbrev pub t0_layout : Set → Layout
t0_layout p = down p.d (2 ^ (p.d - 1)) 0 (2 ^ p.d - 1)

abbrev pub s_layout : Set → Layout
s_layout p = down p.sbits p.eta 0 (2 * p.eta)

abbrev pub z_layout : Set → Layout
z_layout p = down p.zbits p.gamma1 (p.beta + 1) (2 * p.gamma1 - (p.beta + 1))

-- SPEC 5.4: every code
abbrev pub y_layout : Set → Layout
y_layout p = down p.zbits p.gamma1 0 (2 ^ p.zbits - 1)

abbrev pub w1_layout : Set → Layout
w1_layout p = plain p.w1bits (steps p - 1)

abbrev pub hint_layout : Layout
hint_layout = plain 1 1

-- the layout of each field
abbrev pub layout_of : Set → Field → Layout
layout_of p T1 = t1_layout p
layout_of p T0 = t0_layout p
layout_of p S1 = s_layout p
layout_of p S2 = s_layout p
layout_of p S = s_layout p
layout_of p Z = z_layout p
layout_of p W1 = w1_layout p

-- SPEC 6.2: what a code means, and the code of a value, as a whole number
abbrev pub means : Layout → ℕ → ℤ
means L v = cond L.down (pos L.base -ℤ pos v) (pos v)

abbrev pub written : Layout → ℤ → ℤ
written L z = cond L.down (pos L.base -ℤ z) z

abbrev pub code : Layout → ℤ → ℕ
code L z = nat_abs (written L z)

-- a code is allowed, and so is a value whose code is
abbrev pub allowed : Layout → ℕ → Bool
allowed L v = leb L.least v && leb v L.most

abbrev pub is_code : Layout → ℤ → Bool
is_code L (pos v) = allowed L v
is_code L (negsuc v) = false

abbrev pub holds : Layout → ℤ → Bool
holds L z = is_code L (written L z)

-- SPEC 6.5: every element passes the test, or the lowest index of one that does not is refused
unfoldable pub every : {A : Type 0} → (A → Bool) → (ℕ → Refusal) → ℕ → List A → Result (Unit {0})
every ok refusal i [] = done tt
every ok refusal i (x ∷ xs) = need (ok x) (refusal i) >> every ok refusal (suc i) xs

-- SPEC 6.4: the bytes of n coefficients
abbrev pub size : Layout → ℕ → ℕ
size L n = byte_count L.bits n

-- SPEC 6.1: the bytes of values that are allowed
unfoldable pub pack : Layout → ℕ → List ℤ → List ℕ
pack L n zs = bytes L.bits (size L n) (map (code L) zs)

-- SPEC 6.5: n coefficients, of which each code must be allowed
unfoldable pub unpack : Layout → (ℕ → Refusal) → ℕ → List ℕ → Result (List ℤ)
unpack L refusal n bs =
    do
      every (allowed L) refusal 0 (codes L.bits n bs)
      done (map (means L) (codes L.bits n bs))
