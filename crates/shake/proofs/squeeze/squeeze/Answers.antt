use Rattle.std.proofs.Common.{◌≡◌, ◌+◌, ◌*◌, ◌/◌, ◌-◌, ◌%◌, ◌∙◌, length, arith, refl}
use Rattle.shake.proofs.Squeezed.{stream, block_written, rest_written, nothing_left}
use Rattle.shake.proofs.squeeze.squeeze.Goals as goal

pub loop-k-preserved : goal.loop-k-preserved
loop-k-preserved c =
    let next : (c.loop-k.k + 1) * 136 ≡ c.loop-k.k * 136 + 136 = omega arith in
    rw next
    (block_written (length c.args.out.now) (c.loop-k.k * 136) c.loop-k.out _ c.loop-k.s c.loop-k.auto.out c.loop-k.invariant (omega arith) c.permute-s.ensures
    (c.copy_from_slice.ensures.after ∙ c.block.ensures))

pub returns-then-left-ne0 : goal.returns-then-left-ne0
unfolding stream
returns-then-left-ne0 c =
    let n = length c.args.out.now in
    let k : c.loop-k.k ≡ n / 136 = omega arith in
    let left : length c.loop-k.out % 136 ≡ n - n / 136 * 136 = omega arith in
    rest_written n (n / 136 * 136) c.loop-k.out _ c.loop-k.s c.loop-k.auto.out (rw k at c.loop-k.invariant) (omega arith) (omega arith) c.permute-s-then-left-ne0.ensures
    (c.copy_from_slice-then-left-ne0.ensures.after ∙ rw (c.block-then-left-ne0.ensures, left) refl)

pub returns-else-left-ne0 : goal.returns-else-left-ne0
unfolding stream
returns-else-left-ne0 c =
    nothing_left (length c.args.out.now) (c.loop-k.k * 136) c.loop-k.out _ c.loop-k.s c.loop-k.auto.out c.loop-k.invariant (omega arith)
