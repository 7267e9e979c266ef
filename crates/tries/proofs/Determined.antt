-- The public contract of this crate permits one answer. The lent memory and the commitment are scratch of the tries, and the caller takes them up only where a try passed.
use Rattle.std.proofs.Common.{◌≡◌, refl, sym, ap, ◌∙◌, ℕ, arith, List, Option, Some, None}
use Rattle.outcome.proofs.One.{One}
use Rattle.sets.specs.Set.{Set}
use Rattle.answers.proofs.Results.{done_inv}
use Rattle.scheme.specs.Try.{Signer}
use Rattle.scheme.specs.Sign.{Signed}
use Rattle.tries.specs.Inner.{Found}
use Rattle.tries.proofs.first_passing.Reads as first_passing
use Rattle.tries.proofs.first_passing.Kinds as first_passing_kinds

one_tried : (p : Set) (S : Signer) (limit : ℕ) (x y : Option ℕ) (w v c d : List ℕ) → Found p S limit x w c → Found p S limit y v d → x ≡ y
one_tried p S limit (Some κ) (Some λ') w v c d P Q =
    ap Some (let e = ap (λ (s : Signed). s.count) (done_inv _ _ (sym P.found ∙ Q.found)) in omega arith)
one_tried p S limit (Some κ) None w v c d P Q = let e = sym P.found ∙ Q in cc
one_tried p S limit None (Some κ) w v c d P Q = let e = sym P ∙ Q.found in cc
one_tried p S limit None None w v c d P Q = refl

pub first_passing_one : One 4 first_passing_kinds.ps first_passing_kinds.r first_passing.Post (λ κs s. tt {0})
first_passing_one κs a x y s t p q = (one_tried _ _ _ x y _ _ _ _ p q, refl)
