use Rattle.std.proofs.Common.{◌≡◌, ◌≤◌, arith, length, rules}
use Rattle.std.specs.Prelude.{sum}
use Rattle.layouts.proofs.Hints.{ones_bits, sum_at_most_length}
use Rattle.layouts.proofs.unpack.count_ones.Goals as goal

-- by the count's value, so that any arithmetic behind the sum is judged by what it gives
pub returns : goal.returns
returns c =
    let s : c.sum.result ≡ sum c.args.bits.now = search rules in
    let few : sum c.args.bits.now ≤ length c.args.bits.now = sum_at_most_length c.args.bits.now c.requires.0 in
    omega (arith, s, few, c.requires.1, ones_bits c.args.bits.now)
