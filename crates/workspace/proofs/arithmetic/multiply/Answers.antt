use Rattle.std.proofs.Common.{rules, ◌∙◌}
use Rattle.workspace.proofs.Filling.{ranged, lent_is, lent_residues, lent_written}
use Rattle.workspace.proofs.Making.{made_product}
use Rattle.workspace.proofs.arithmetic.multiply.Goals as goal

pub multiply-requires-clause-residues : goal.multiply-requires-clause-residues
multiply-requires-clause-residues c =
    let room = c.requires.trinomial.1 in (
      lent_residues _ room (ranged c.span.ensures c.range.ensures) c.requires.residues.0,
      lent_residues _ room (ranged c.span-2.ensures c.range-2.ensures) c.requires.residues.1,
      search rules,
    )

pub returns : goal.returns
returns c =
    let room = c.requires.trinomial.1 in
    made_product _ c.requires.trinomial.0 _ _ _ _ _
    (lent_written _ room (ranged c.span-3.ensures c.range-3.ensures) c.copy_from_slice.ensures.len
    (c.copy_from_slice.ensures.after ∙ (rw (lent_is _ room (ranged c.span.ensures c.range.ensures), lent_is _ room (ranged c.span-2.ensures c.range-2.ensures)) at c.multiply.ensures)))
