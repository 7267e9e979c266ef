-- What is asked of a set (SPEC 1.5). The laws hold for every set that meets it, and the code's sums, casts and shifts are safe for it.
-- Each condition is one on numbers, so that a set is shown to meet them by computing.
use Rattle.std.specs.Prelude.{◌≡◌, ◌+◌, ◌-◌, ◌*◌, ◌/◌, ◌^◌, ◌≤◌, ◌<◌}
use Rattle.sets.specs.declared.numbers.Ring.TheVariants as ring
use Rattle.sets.specs.Set.{Set, alpha, steps, capacity, stream_capacity, w1_capacity}

pub record Good (p : Set) : Type 0 where
  -- q - 1 is a whole number of steps, two or more, and a step is not empty
  pub some : 0 < p.gamma2
  pub whole : p.q ≡ steps p * alpha p + 1
  pub many : 2 ≤ steps p
  -- a challenge has room for its ones, and 64 sign bits are enough
  pub few : p.tau ≤ p.n
  pub signs : p.tau ≤ 64
  -- β bounds c·s, and is below both γ
  pub beta : p.tau * (2 * p.eta) ≤ p.beta
  pub beta1 : p.beta < p.gamma1
  pub beta2 : p.beta < p.gamma2
  -- no coefficient of c·t0 reaches γ2: each of t0 is at most 2^(d-1)
  pub never4 : p.tau * 2 ^ p.d < p.gamma2
  -- every value of a layout has a code: t1 up to that of q - 1, 2^d codes of t0, s, z, w1
  pub halves : 2 ^ p.d ≡ 2 * 2 ^ (p.d - 1)
  pub t1_most : (p.q - 1 + 2 ^ (p.d - 1)) / 2 ^ p.d ≤ p.t1top
  pub t1_fits : p.t1top < 2 ^ p.t1bits
  pub s_fits : 2 * p.eta < 2 ^ p.sbits
  pub z_fits : 2 * p.gamma1 ≤ 2 ^ p.zbits
  pub w1_fits : steps p ≤ 2 ^ p.w1bits
  -- no value of a layout reaches q/2
  pub t1_half : 2 * p.t1top < p.q
  pub t0_half : 2 * 2 ^ p.d < p.q
  pub s_half : 4 * p.eta < p.q
  pub z_half : 2 * 2 ^ p.zbits < p.q
  -- a draw of a reaches every number below q, and one of the challenge every place
  pub a_fits : p.q ≤ 2 ^ p.abits
  pub a_bytes : p.abits ≤ 8 * p.abytes
  pub j_fits : p.n ≤ 2 ^ p.jbits
  -- the codes of s fill their groups of bytes
  pub s_whole : p.sbits * (8 * p.sbytes / p.sbits) ≡ 8 * p.sbytes
  -- room in machine words
  pub n_some : 8 ≤ p.n
  pub n_room : p.n ≤ 4096
  pub q_room : p.q < 2 ^ 25
  pub gamma1_room : p.gamma1 ≤ 2 ^ 19
  pub d_room : p.d ≤ 16
  pub eta_room : p.eta ≤ 4
  pub omega_room : p.omega ≤ p.n
  pub d_some : 1 ≤ p.d
  pub t1_some : 1 ≤ p.t1bits
  pub s_some : 1 ≤ p.sbits
  pub s_group_some : 0 < p.sbytes
  pub s_group_room : p.sbytes ≤ 4
  pub z_some : 1 ≤ p.zbits
  pub w1_some : 1 ≤ p.w1bits
  pub t1_room : p.t1bits ≤ 20
  pub s_room : p.sbits ≤ 20
  pub z_room : p.zbits ≤ 20
  pub w1_room : p.w1bits ≤ 20
  pub a_room : p.abytes ≤ 4
  pub j_room : p.jbits ≤ 16
  pub a_stream_room : p.astream ≤ 2 ^ 20
  pub s_stream_room : p.sstream ≤ 2 ^ 20
  pub c_stream_room : p.cstream ≤ 2 ^ 20

-- What the code asks beside that: the ring is the one, which wants an even n, and the code's own arrays hold the set's elements and streams
pub record Trinomial (p : Set) : Type 0 where
  pub good : Good p
  pub kind : p.ring ≡ ring.Trinomial
  pub even : p.n ≡ 2 * (p.n / 2)
  pub held : p.n ≤ capacity
  pub a_held : p.astream ≤ stream_capacity
  pub s_held : p.sstream ≤ stream_capacity
  pub c_held : p.cstream ≤ stream_capacity
  pub y_held : (p.zbits * p.n + 7) / 8 ≤ stream_capacity
  pub w1_held : (p.w1bits * p.n + 7) / 8 ≤ w1_capacity
