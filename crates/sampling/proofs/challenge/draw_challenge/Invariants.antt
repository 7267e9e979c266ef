-- What each turn keeps: the draws that are left decide the places that are left, and the power is never another.
use Rattle.std.proofs.Common.{◌≡◌, ◌^◌, ◌<◌}
use Rattle.std.specs.Slice.Iter.{iter_rest}
use Rattle.sampling.proofs.Finding.{drawn_pairs}
use Rattle.sampling.proofs.Stepping.{Stepping}
use Rattle.sampling.proofs.challenge.draw_challenge.Given as goal

abbrev pub invariant-loop-place : goal.invariant-loop-place
invariant-loop-place l = record {
  power : l.draws.f.0.now ≡ 2 ^ l.fn.p.jbits;
  some : 0 < l.draws.f.0.now;
  stepping : Stepping l.fn.p l.stream l.out l.place-counter l.signs (drawn_pairs (2 ^ l.fn.p.jbits) (iter_rest l.draws.iter));
}
