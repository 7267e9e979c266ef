-- What the loops keep: the places that are done, and the products of a place that are.
use Rattle.std.proofs.Common.{◌≡◌, ◌*◌, ◌^◌, ◌≤◌, take}
use Rattle.ring.specs.Inner.{pass}
use Rattle.ring.proofs.Adding.{Adding}
use Rattle.ring.proofs.add_rows.Given as goal

abbrev pub invariant-loop-k : goal.invariant-loop-k
invariant-loop-k g l = Adding l.initial.sums l.i (pass l.b l.rows) l.k l.sums

abbrev pub invariant-loop-row : goal.invariant-loop-row
invariant-loop-row g l = record {
  added : l.more ≡ pass l.b (take l.row-index l.rows) l.k;
  small : l.more ≤ l.row-index * 2 ^ 50;
}
