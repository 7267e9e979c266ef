-- The layouts of a set meet what the code asks of a layout.
use Prim.Native.Nat.{ℕ, ◌*◌, ◌^◌, ◌≤◌, ◌<◌}
use native.Mathlib.Nat.{mul-le-mul, mul-le-mul_left, mul-le-mul_right}
use native.Mathlib.Omega.{arith}
use lib.Pow.{pow_pos}
use Rattle.sets.specs.Set.{Set, alpha, steps}
use Rattle.sets.specs.Good.{Good}
use Rattle.answers.specs.declared.Field.{Field}
use Rattle.answers.specs.declared.Field.TheVariants.{T1, T0, S1, S2, S, Z, W1}
use Rattle.layouts.specs.Layouts.{t1_layout, t0_layout, s_layout, z_layout, y_layout, w1_layout, hint_layout, layout_of}
use Rattle.layouts.specs.Inner.{Readable}

module _ (p : Set) (good : Good p) where
  -- a step is two wide or more, and there are two or more
  many_steps : steps p * 2 < p.q
  many_steps =
      let a : steps p * 2 ≤ steps p * alpha p = mul-le-mul_left (steps p) (omega (arith, good.some)) in
      omega (arith, good.whole)

  pub alpha_room : alpha p < 2 ^ 25
  alpha_room =
      let a : 1 * alpha p ≤ steps p * alpha p = mul-le-mul_right (alpha p) (omega (arith, good.many)) in
      omega (arith, good.whole, good.q_room)

  pub t1_readable : Readable (t1_layout p) p.q
  t1_readable = record { some = good.t1_some; width = good.t1_room; fits = good.t1_fits; base = omega arith; most = good.t1_half; room = good.q_room }

  pub t0_readable : Readable (t0_layout p) p.q
  t0_readable =
      let h = pow_pos p.d in
      record { some = good.d_some; width = omega (arith, good.d_room); fits = omega arith; base = omega (arith, good.halves, good.t0_half); most = omega (arith, good.t0_half); room = good.q_room }

  pub s_readable : Readable (s_layout p) p.q
  s_readable = record { some = good.s_some; width = good.s_room; fits = good.s_fits; base = omega (arith, good.s_half); most = omega (arith, good.s_half); room = good.q_room }

  pub z_readable : Readable (z_layout p) p.q
  z_readable = record {
    some = good.z_some;
    width = good.z_room;
    fits = omega (arith, good.z_fits, pow_pos p.zbits);
    base = omega (arith, good.z_fits, good.z_half);
    most = omega (arith, good.z_fits, good.z_half);
    room = good.q_room;
  }

  pub y_readable : Readable (y_layout p) p.q
  y_readable = record {
    some = good.z_some;
    width = good.z_room;
    fits = omega (arith, pow_pos p.zbits);
    base = omega (arith, good.z_fits, good.z_half);
    most = omega (arith, good.z_half);
    room = good.q_room;
  }

  pub w1_readable : Readable (w1_layout p) p.q
  w1_readable = record {
    some = good.w1_some;
    width = good.w1_room;
    fits = omega (arith, good.w1_fits, good.many);
    base = omega arith;
    most = omega (arith, many_steps);
    room = good.q_room;
  }

  pub hint_readable : Readable hint_layout p.q
  hint_readable = record { some = omega arith; width = omega arith; fits = omega arith; base = omega (arith, many_steps); most = omega (arith, many_steps, good.many); room = good.q_room }

-- every field's layout
pub field_readable : (p : Set) → Good p → (f : Field) → Readable (layout_of p f) p.q
field_readable p G T1 = t1_readable p G
field_readable p G T0 = t0_readable p G
field_readable p G S1 = s_readable p G
field_readable p G S2 = s_readable p G
field_readable p G S = s_readable p G
field_readable p G Z = z_readable p G
field_readable p G W1 = w1_readable p G

-- the bits of an element
pub bits_room : (w n : ℕ) → w ≤ 20 → n ≤ 4096 → w * n ≤ 20 * 4096
bits_room w n l m = mul-le-mul l m
