-- The public contract of this crate permits one outcome: one answer, and one content of each key.
use mathlib.Core.List.{List}
use Prim.Native.Nat.{ℕ}
use Rattle.outcome.proofs.One.{One}
use Rattle.answers.proofs.Outcomes.{determined_report}
use Rattle.scheme.specs.Keys.{Pair}
use Rattle.keys.proofs.make_keys.Reads as make_keys
use Rattle.keys.proofs.make_keys.Kinds as make_keys_kinds

abbrev pair : List ℕ → List ℕ → Pair
pair public secret = record { public = public; secret = secret }

pub make_keys_one : One 5 make_keys_kinds.ps make_keys_kinds.r make_keys.Post (λ κs s. pair s.1.1.1.0.now s.1.1.1.1.0.now)
make_keys_one κs a x y s t p q =
    determined_report _ x y (pair s.1.1.1.0.now s.1.1.1.1.0.now) (pair t.1.1.1.0.now t.1.1.1.1.0.now) p q
