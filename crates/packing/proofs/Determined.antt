-- Each public contract of this crate permits one outcome.
use mathlib.Core.Path.{◌≡◌, refl, sym, ◌∙◌}
use contract.Lifetimes.{Lfts}
use denote.Triple.Clauses.{AtExit}
use borrow.Fn.Kinds.{Dens, res_t, ended_of}
use Rattle.outcome.proofs.One.{One}
use Rattle.answers.proofs.Outcomes.{determined_report}
use Rattle.packing.proofs.parts.Whole.size.Reads as whole_size
use Rattle.packing.proofs.parts.Whole.size.Kinds as whole_size_kinds
use Rattle.packing.proofs.parts.Span.range.Reads as range
use Rattle.packing.proofs.parts.Span.range.Kinds as range_kinds
use Rattle.packing.proofs.parts.Part.span.Reads as part_span
use Rattle.packing.proofs.parts.Part.span.Kinds as part_span_kinds
use Rattle.packing.proofs.parts.Part.of.Reads as part_of
use Rattle.packing.proofs.parts.Part.of.Kinds as part_of_kinds
use Rattle.packing.proofs.parts.Part.put.Reads as part_put
use Rattle.packing.proofs.parts.Part.put.Kinds as part_put_kinds
use Rattle.packing.proofs.set1.pack.Reads as pack
use Rattle.packing.proofs.set1.pack.Kinds as pack_kinds
use Rattle.packing.proofs.set1.unpack.Reads as unpack
use Rattle.packing.proofs.set1.unpack.Kinds as unpack_kinds
use Rattle.packing.proofs.set1.pack_hints.Reads as pack_hints
use Rattle.packing.proofs.set1.pack_hints.Kinds as pack_hints_kinds
use Rattle.packing.proofs.set1.unpack_hints.Reads as unpack_hints
use Rattle.packing.proofs.set1.unpack_hints.Kinds as unpack_hints_kinds

-- ---- the parts of keys and signatures
pub whole_size_one : One 0 whole_size_kinds.ps whole_size_kinds.r whole_size.Post (λ κs s. tt {0})
whole_size_one κs a x y s t p q = (p ∙ sym q, refl)

pub range_one : One 0 range_kinds.ps range_kinds.r range.Post (λ κs s. tt {0})
range_one κs a x y s t p q = (λ i. record { start = (p.0 ∙ sym q.0) i; end = (p.1 ∙ sym q.1) i }, refl)

pub part_span_one : One 0 part_span_kinds.ps part_span_kinds.r part_span.Post (λ κs s. tt {0})
part_span_one κs a x y s t p q = (λ i. record { start = (p.0 ∙ sym q.0) i; end = (p.1 ∙ sym q.1) i }, refl)

-- the bytes of a part, which are lent and not copied: what the answer holds is one, and where it lies is not part of the contract
pub part_of_one : (κs : Lfts 1) (a : Dens κs part_of_kinds.ps) (x y : (res_t part_of_kinds.r κs).Denot) (s t : AtExit (ended_of 1 part_of_kinds.ps part_of_kinds.r) κs)
    → part_of.Post κs a x s → part_of.Post κs a y t → x.now ≡ y.now
part_of_one κs a x y s t p q = p ∙ sym q

pub part_put_one : One 2 part_put_kinds.ps part_put_kinds.r part_put.Post (λ κs s. s.1.1.0.now)
part_put_one κs a x y s t p q = (refl, p ∙ sym q)

-- ---- the calls of set 1; those for an element take every field
pub pack_one : One 2 pack_kinds.ps pack_kinds.r pack.Post (λ κs s. s.1.1.0.now)
pack_one κs a x y s t p q = determined_report _ x y s.1.1.0.now t.1.1.0.now p q

pub unpack_one : One 2 unpack_kinds.ps unpack_kinds.r unpack.Post (λ κs s. s.1.1.0.now)
unpack_one κs a x y s t p q = determined_report _ x y s.1.1.0.now t.1.1.0.now p q

pub pack_hints_one : One 2 pack_hints_kinds.ps pack_hints_kinds.r pack_hints.Post (λ κs s. s.1.0.now)
pack_hints_one κs a x y s t p q = determined_report _ x y s.1.0.now t.1.0.now p q

pub unpack_hints_one : One 2 unpack_hints_kinds.ps unpack_hints_kinds.r unpack_hints.Post (λ κs s. s.1.0.now)
unpack_hints_one κs a x y s t p q = determined_report _ x y s.1.0.now t.1.0.now p q
