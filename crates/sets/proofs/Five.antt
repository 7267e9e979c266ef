-- Set 1 meets the conditions, and so do the four sets of SPEC 1.6, by computing.
use mathlib.Core.Path.{refl}
use native.Mathlib.Omega.{arith}
use Rattle.sets.specs.declared.numbers.Ring.TheVariants as ring
use Rattle.sets.specs.Set.{Set, set1}
use Rattle.sets.specs.Good.{Good, Trinomial}

pub good_set1 : Good set1
good_set1 = omega arith

pub ready_set1 : Trinomial set1
ready_set1 = record {
  good = good_set1;
  kind = refl;
  even = omega arith;
  held = omega arith;
  a_held = omega arith;
  s_held = omega arith;
  c_held = omega arith;
  y_held = omega arith;
  w1_held = omega arith;
}

-- SPEC 1.6: set 2
abbrev pub set2 : Set
set2 = record {
  n = 1536;
  q = 8397313;
  d = 12;
  tau = 29;
  gamma1 = 262144;
  gamma2 = 131208;
  eta = 1;
  beta = 58;
  omega = 80;
  t1bits = 12;
  t1top = 2050;
  sbits = 2;
  zbits = 19;
  w1bits = 5;
  abytes = 3;
  abits = 24;
  astream = 17544;
  sbytes = 1;
  sstream = 1632;
  jbits = 11;
  cstream = 544;
  ring = ring.Trinomial;
}

-- SPEC 1.6: set 3
abbrev pub set3 : Set
set3 = record {
  n = 2048;
  q = 8380417;
  d = 11;
  tau = 32;
  gamma1 = 262144;
  gamma2 = 130944;
  eta = 1;
  beta = 64;
  omega = 80;
  t1bits = 12;
  t1top = 4092;
  sbits = 2;
  zbits = 19;
  w1bits = 5;
  abytes = 3;
  abits = 24;
  astream = 23256;
  sbytes = 1;
  sstream = 1632;
  jbits = 11;
  cstream = 544;
  ring = ring.Trinomial;
}

-- SPEC 1.6: set 4
abbrev pub set4 : Set
set4 = record {
  n = 2304;
  q = 8404993;
  d = 13;
  tau = 32;
  gamma1 = 524288;
  gamma2 = 262656;
  eta = 1;
  beta = 64;
  omega = 80;
  t1bits = 11;
  t1top = 1026;
  sbits = 2;
  zbits = 20;
  w1bits = 4;
  abytes = 3;
  abits = 24;
  astream = 26112;
  sbytes = 1;
  sstream = 1632;
  jbits = 12;
  cstream = 544;
  ring = ring.Trinomial;
}

-- SPEC 1.6: set 5
abbrev pub set5 : Set
set5 = record {
  n = 1201;
  q = 17279291;
  d = 12;
  tau = 32;
  gamma1 = 524288;
  gamma2 = 246847;
  eta = 2;
  beta = 128;
  omega = 80;
  t1bits = 13;
  t1top = 4219;
  sbits = 3;
  zbits = 20;
  w1bits = 6;
  abytes = 4;
  abits = 25;
  astream = 17408;
  sbytes = 3;
  sstream = 1632;
  jbits = 11;
  cstream = 544;
  ring = ring.Prime;
}

pub good_set2 : Good set2
good_set2 = omega arith

pub good_set3 : Good set3
good_set3 = omega arith

pub good_set4 : Good set4
good_set4 = omega arith

pub good_set5 : Good set5
good_set5 = omega arith
