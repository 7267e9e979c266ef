use Rattle.std.proofs.Common.{◌≡◌, ◌++◌, refl, []}
use Rattle.shake.specs.Shake.{shake256, zeros}
use Rattle.shake.specs.Inner.{taken}
use Rattle.shake.proofs.Blocks.{taken-append, taken-padded}
use Rattle.shake.proofs.shake256.Goals as goal

pub returns : goal.returns
unfolding shake256
returns c =
    let x = c.args.first.now in
    let y = c.args.second.now in
    let z = c.args.third.now in
    let sponge : c.absorb-3.new.self ≡ taken (zeros, []) (x ++ (y ++ z)) =
    rw (c.absorb-3.ensures, c.absorb-2.ensures, c.absorb.ensures, c.new-sponge.ensures, taken-append (taken (zeros, []) x) y z, taken-append (zeros, []) x (y ++ z)) refl in
    rw (c.squeeze.ensures, c.padded.ensures, taken-padded (x ++ (y ++ z)) sponge) refl
