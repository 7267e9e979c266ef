-- `digits::window`: the bytes from the place on, whose number is the same with zeros behind them.
use Rattle.std.proofs.Common.{arith, ◌≡◌, ℕ, List, drop, length, ◌∙◌}
use Rattle.std.specs.List.{between}
use Rattle.std.proofs.lemmas.List.{drop_all}
use Rattle.std.proofs.lemmas.Slice.{between_to_end}
use Rattle.digits.specs.Digits.{value}
use Rattle.digits.proofs.Windows.{le_value_first, le_value_filled}
use Rattle.digits.proofs.window.Goals as goal

rest_is : (s rest : List ℕ) (at : ℕ) → rest ≡ between at (length s) s → rest ≡ drop at s
rest_is s rest at h = h ∙ between_to_end s at (length s) (omega arith)

pub returns-in_default : goal.returns-in_default
unfolding value
returns-in_default c = rw (drop_all c.args.at c.args.s.now (omega (arith, c.in_default.ensures.lookup.0)))

pub returns-in-Some-first_chunk : goal.returns-in-Some-first_chunk
returns-in-Some-first_chunk c =
    let e = rest_is c.args.s.now _ c.args.at c.in-Some.ensures.lookup.0.2 in
    rw (c.from_le_bytes.ensures, c.in-Some-first_chunk.ensures.cases.same, e) (le_value_first _)

pub returns : goal.returns
returns c =
    let e = rest_is c.args.s.now _ c.args.at c.in-Some.ensures.lookup.0.2 in
    rw (c.from_le_bytes-2.ensures, c.copy_from_slice.ensures.after, e) (le_value_filled _ (rw e at c.in_default-first_chunk.ensures.cases))
