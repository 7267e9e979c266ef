use Rattle.shake.specs.Shake.{shake256}
use lib.ListN.{length}
use mathlib.Core.List.{List, append-nil}
use Prim.Native.Nat.{ℕ}
use mathlib.Core.Path.{refl, ap, ◌∙◌}
use Rattle.ncc_c.proofs.hash.ncc_shake256.Goals as goal

pub returns : goal.returns
returns c = record { answers = refl; leaves = c.shake256.ensures ∙ ap (λ (m : List ℕ). shake256 m (length c.args.out.now)) (append-nil c.args.message.now) }
