use Rattle.std.proofs.Common.{◌-◌, sym, ap, ap₂, ◌++◌, ◌∙◌, take-append-drop}
use Rattle.keccak.specs.Keccak.{keccak}
use Rattle.shake.proofs.Held.{held_short, held_long}
use Rattle.shake.proofs.absorb.Sponge.absorb.Goals as goal

pub returns-in_default : goal.returns-in_default
returns-in_default c =
    let self = c.self.inside in
    rw (← c.self.view_is) (sym (held_short self.held self.len c.self.told.1 c.self.invariant self.state c.args.m.now c.in_default.ensures.cases c.copy_from_slice.ensures.after))

pub returns : goal.returns
returns c =
    let self = c.self.inside in
    let cut = c.in-Some.ensures.cases in
    let m = sym (take-append-drop (136 - self.len) c.args.m.now) ∙ ap₂ ◌++◌ (sym cut.1) (sym cut.2) in
    rw (← c.self.view_is)
    (sym (held_long self.held self.len c.self.told.1 c.self.invariant self.state c.args.m.now c.in-Some.start.now c.in-Some.rest.now _ m cut.3
    c.copy_from_slice-2.ensures.after (c.permute-self-inside.ensures ∙ ap keccak c.xored.ensures) c.as_chunks.ensures.front c.absorbed-self-inside.ensures c.as_chunks.ensures.back c.copy_from_slice-3.ensures.after))
