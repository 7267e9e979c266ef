-- One try of signing (SPEC 8.4 to 8.7), with its reasons 1 to 5 in order.
use Rattle.std.specs.Prelude.{ℕ, ◌-◌, List, ◌++◌, leb, ℤ}
use Rattle.answers.specs.Result.{pick}
use Rattle.rounding.specs.Rounding.{norm}
use Rattle.ring.specs.Profile.{mul}
use Rattle.layouts.specs.Layouts.{w1_layout, pack}
use Rattle.layouts.specs.Hints.{ones}
use Rattle.packing.specs.Parts.{pack_signature}
use Rattle.sampling.specs.Samplers.{Drawn, drew, dry}
use Rattle.streams.specs.Streams.{Hash, expand_y, expand_c}
use Rattle.scheme.specs.Elements.{plus, minus, negated, centring, highs, lows, make_hints}
use Rattle.sets.specs.Set.{Set, hash_size}

-- SPEC 8.7: why a try fails
pub data Reason : Type 0 where
  ChallengeDry ZLarge LowLarge Ct0Large ManyOnes : Reason

abbrev pub reason_number : Reason → ℕ
reason_number ChallengeDry = 1
reason_number ZLarge = 2
reason_number LowLarge = 3
reason_number Ct0Large = 4
reason_number ManyOnes = 5

pub data Try : Type 0 where
  passes : List ℕ → Try
  fails : Reason → Try

-- what every try of a call reads (SPEC 8.1 to 8.3)
pub record Signer : Type 0 where
  pub a : List ℤ
  pub s1 : List ℤ
  pub s2 : List ℤ
  pub t0 : List ℤ
  pub mu : List ℕ
  pub rho : List ℕ

-- SPEC 8.4: c̃, w1 given
unfoldable pub commit : Set → Hash → List ℕ → List ℤ → List ℕ
commit p H μ w1 = H (μ ++ pack (w1_layout p) p.n w1) hash_size

-- SPEC 8.5: z
abbrev pub response : Set → Signer → List ℤ → List ℤ → List ℤ
response p S y c = centring p (plus p y (mul p c S.s1))

-- SPEC 8.6: w - c·s2
abbrev pub masked : Set → Signer → List ℤ → List ℤ → List ℤ
masked p S w c = minus p w (mul p c S.s2)

-- SPEC 8.6: the hint
abbrev pub hints : Set → Signer → List ℤ → List ℤ → List ℤ
hints p S w c = make_hints p (negated p (mul p c S.t0)) (plus p (masked p S w c) (mul p c S.t0))

-- SPEC 8.7: the tests in their order, once there is a challenge
unfoldable pub judged : Set → Signer → List ℤ → List ℤ → List ℕ → Drawn → Try
judged p S y w c~ dry = fails ChallengeDry
judged p S y w c~ (drew c) =
    pick (leb (p.gamma1 - p.beta) (norm p.q (response p S y c))) (fails ZLarge)
    (pick (leb (p.gamma2 - p.beta) (norm p.q (lows p (masked p S w c)))) (fails LowLarge)
    (pick (leb p.gamma2 (norm p.q (mul p c S.t0))) (fails Ct0Large)
    (pick (leb (ones (hints p S w c)) p.omega)
    (passes (pack_signature p record { c~ = c~; z = response p S y c; h = hints p S w c }))
    (fails ManyOnes))))

-- SPEC 8.4: y, w, c̃ and c of try κ
unfoldable pub try : Set → Hash → Signer → ℕ → Try
try p H S κ =
    let y = expand_y p H S.rho κ in
    let w = mul p S.a y in
    let c~ = commit p H S.mu (highs p w) in
    judged p S y w c~ (expand_c p H c~)
