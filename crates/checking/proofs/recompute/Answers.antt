use Rattle.checking.proofs.Recomputing.{asks_az, asks_ct, asks_less, asks_used, held_highs}
use Rattle.checking.proofs.recompute.Goals as goal

pub multiply-requires-clause-residues : goal.multiply-requires-clause-residues
multiply-requires-clause-residues c = asks_az c.args.p c.requires.trinomial.0 c.requires.loaded.0 c.requires.loaded.1

pub multiply-requires-2-clause-residues : goal.multiply-requires-2-clause-residues
multiply-requires-2-clause-residues c = asks_ct c.args.p c.requires.trinomial.0 c.requires.loaded.0 c.requires.loaded.1 c.multiply.ensures

pub combine-requires-clause-residues : goal.combine-requires-clause-residues
combine-requires-clause-residues c =
    asks_less c.args.p c.requires.trinomial.0 c.requires.loaded.0 c.requires.loaded.1 c.multiply.ensures c.multiply-2.ensures

pub combine-requires-2-clause-residues : goal.combine-requires-2-clause-residues
combine-requires-2-clause-residues c =
    asks_used c.args.p c.requires.trinomial.0 c.requires.loaded.0 c.requires.loaded.1 c.multiply.ensures c.multiply-2.ensures c.combine.ensures

pub returns : goal.returns
returns c = λ i L. held_highs c.args.p c.requires.trinomial.0 i L c.multiply.ensures c.multiply-2.ensures c.combine.ensures c.combine-2.ensures
