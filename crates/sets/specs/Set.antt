-- The numbers of a set, as the definitions and the laws take them (SPEC 1.1): a value of the code's own struct.
use Rattle.std.specs.Prelude.{ℕ, ◌-◌, ◌*◌, ◌/◌}
use Rattle.sets.specs.declared.numbers.Numbers.{Numbers}
use Rattle.sets.specs.declared.numbers.Ring.TheVariants as ring

abbrev pub Set : Type 0
Set = Numbers

-- SPEC 1.2: α = 2·γ2 is the width of a step, m = (q - 1)/α the number of steps
abbrev pub alpha : Set → ℕ
alpha p = 2 * p.gamma2

abbrev pub steps : Set → ℕ
steps p = (p.q - 1) / alpha p

-- SPEC 1.3: set 1, the paper's trinomial level 1
abbrev pub set1 : Set
set1 = record {
  n = 1152;
  q = 8401537;
  d = 12;
  tau = 25;
  gamma1 = 262144;
  gamma2 = 131274;
  eta = 1;
  beta = 50;
  omega = 80;
  t1bits = 12;
  t1top = 2051;
  sbits = 2;
  zbits = 19;
  w1bits = 5;
  abytes = 3;
  abits = 24;
  astream = 13056;
  sbytes = 1;
  sstream = 816;
  jbits = 11;
  cstream = 544;
  ring = ring.Trinomial;
}

-- SPEC 1.4
abbrev pub message_max : ℕ
message_max = 32768

abbrev pub try_max : ℕ
try_max = 1000

-- the bytes of a seed (ζ, ζ', ξ1, ξ2, K), of ph and c̃, and of μ and ρ
abbrev pub seed_size : ℕ
seed_size = 32

abbrev pub hash_size : ℕ
hash_size = 32

abbrev pub wide_size : ℕ
wide_size = 64

-- SPEC 1.5: the longest element that the code's own arrays hold, the longest stream, and the longest packed w1
abbrev pub capacity : ℕ
capacity = 1152

abbrev pub stream_capacity : ℕ
stream_capacity = 13056

abbrev pub w1_capacity : ℕ
w1_capacity = 720
