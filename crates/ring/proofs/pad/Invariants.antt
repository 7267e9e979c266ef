-- What the loop keeps: fifteen zeros before b, as much of b as it has come to, and zeros behind.
use Rattle.std.proofs.Common.{◌≡◌, ◌+◌, ◌<◌, ◌≤◌, ℕ, get_or}
use Rattle.ring.proofs.pad.Given as goal

abbrev pub invariant-loop-k : goal.invariant-loop-k
invariant-loop-k l = record {
  before : (j : ℕ) → j < 15 → get_or l.out j 0 ≡ 0;
  inside : (j : ℕ) → j < l.k → get_or l.out (j + 15) 0 ≡ get_or l.b j 0;
  behind : (j : ℕ) → l.k + 15 ≤ j → get_or l.out j 0 ≡ 0;
}
