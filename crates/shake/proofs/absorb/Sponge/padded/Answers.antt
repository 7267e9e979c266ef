use Rattle.std.proofs.Common.{◌≡◌, length, refl, arith}
use Rattle.shake.proofs.Padding.{held_padded}
use Rattle.shake.proofs.absorb.Sponge.padded.Goals as goal

pub returns : goal.returns
returns c =
    let self = c.self.inside in
    let long : length c.self.inside.held ≡ 136 = omega arith in
    rw (← c.self.view_is, c.xored.ensures, held_padded self.held self.len long c.self.invariant (c.fill.ensures.after (λ y h. h)) _ refl) refl
