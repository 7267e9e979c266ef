-- The worked cases of SPEC 13, over the definitions of set 1.
use Rattle.std.specs.Prelude.{◌≡◌, ℕ, ℤ, pos, neg_ℤ, ◌-ℤ◌}
use Rattle.sets.specs.Set.{set1}
use Rattle.residues.specs.Remainder.{residue}
use Rattle.rounding.specs.Rounding.{decompose, make_hint, use_hint, power2_round}
use Rattle.ring.specs.Ring.{mono, tab}
use Rattle.ring.specs.Profile.{mul}

-- -a
abbrev minus : ℕ → ℤ
minus a = neg_ℤ (pos a)

-- r splits into high and low bits, by Decompose and by Power2Round
abbrev Decompose : ℕ → ℕ → ℤ → Type 0
Decompose r high low = decompose set1 (pos r) ≡ record { high = high; low = low }

abbrev Power2Round : ℕ → ℕ → ℤ → Type 0
Power2Round r high low = power2_round set1 (pos r) ≡ record { high = high; low = low }

abbrev UseHint : ℕ → ℕ → ℕ → Type 0
UseHint h r high = use_hint set1 h (pos r) ≡ high

abbrev MakeHint : ℕ → ℕ → ℕ → Type 0
MakeHint z r h = make_hint set1 (pos z) (pos r) ≡ h

-- X^i · X^j is the element whose coefficients are f, mod q
abbrev Product : ℕ → ℕ → (ℕ → ℤ) → Type 0
Product i j f = mul set1 (tab 1152 (mono i)) (tab 1152 (mono j)) ≡ tab 1152 (λ k. pos (residue 8401537 (f k)))

pub record Table : Type 0 where
  pub case1 : Decompose 0 0 (pos 0)
  pub case2 : Decompose 131274 0 (pos 131274)
  pub case3 : Decompose 131275 1 (minus 131273)
  pub case4 : Decompose 8270262 31 (pos 131274)
  pub case5 : Decompose 8270263 0 (minus 131274)
  pub case6 : Decompose 8401536 0 (minus 1)
  pub case7 : UseHint 1 0 31
  pub case8 : UseHint 1 1 1
  pub case9 : UseHint 1 8270262 0
  pub case10 : UseHint 0 8401536 0
  pub case11 : MakeHint 1 131274 1
  pub case12 : Power2Round 2048 0 (pos 2048)
  pub case13 : Power2Round 2049 1 (minus 2047)
  pub case14 : Power2Round 8401536 2051 (pos 640)
  -- X^1151 · X = X^576 - 1
  pub case15 : Product 1151 1 (λ k. mono 576 k -ℤ mono 0 k)
  -- X^1151 · X^577 = -1
  pub case16 : Product 1151 577 (λ k. neg_ℤ (mono 0 k))
