-- A place that is lent as a part of the memory: it comes back filled, and it is read.
use mathlib.Core.Path.{◌≡◌, refl, sym, ap, subst, ◌∙◌}
use mathlib.Core.List.{List, map}
use Prim.Native.Nat.{ℕ, ◌+◌, ◌-◌}
use native.Mathlib.Omega.{arith}
use lib.IntN.{ℤ}
use lib.ListN.{length, take, drop, length-map}
use borrow.Rule.Slice.PartMut.{put_mid}
use Rattle.outcome.specs.Outcome.{Is}
use Rattle.sets.specs.Set.{Set}
use Rattle.answers.specs.declared.Refusal.{Refusal}
use Rattle.std.specs.Prelude.{Ok, Err}
use Rattle.answers.specs.Refusals.{Answer}
use Rattle.answers.specs.Result.{Result}
use Rattle.answers.specs.Inner.{Gives}
use Rattle.answers.proofs.Giving.{gives_well, gives_ill, gives_as}
use Rattle.residues.specs.Remainder.{residue}
use Rattle.digits.specs.Digits.{codes}
use Rattle.layouts.specs.declared.layout.Layout.{Layout}
use Rattle.layouts.specs.Layouts.{unpack}
use Rattle.layouts.specs.Inner.{Unpacked, Readable, unpacked_to}
use Rattle.layouts.proofs.Reading.{residues_means}
use Rattle.layouts.proofs.Packs.{Decoding, read_bad, read_means, read_remainders}
use Rattle.ring.specs.Inner.{Residues}
use Rattle.workspace.specs.declared.Place.{Place}
use Rattle.workspace.specs.Inner.{at, slot, Spans, Room, Touched, Holds, Packable, Codable, Fills, answer_with}
use Rattle.workspace.proofs.Memory.{Wrote, within, length_element, wrote_part}

touched : {p : Set} {k : Place} {new work more : List ℕ} → Wrote p.n (at k) new work more → Touched p k work more
touched w = record { long = w.long; kept = w.kept }

-- the range of a span is where it is
pub ranged : {p : Set} {k : Place} {start end from to : ℕ} → Spans p k start end → (from ≡ start) × (to ≡ end) → Spans p k from to
ranged s e = record { starts = e.0 ∙ s.starts; ends = omega (arith, e.0, e.1, s.ends); most = omega (arith, e.1, s.most) }

-- start and end are where place k stands, as the code has found it
module _ {p : Set} {k : Place} {start end : ℕ} (work : List ℕ) (room : Room p work) (s : Spans p k start end) where
  abbrev lent : List ℕ
  lent = take (end - start) (drop start work)

  abbrev back : List ℕ → List ℕ
  back out = put_mid start (end - start) work out

  pub lent_is : take (end - start) (drop start work) ≡ slot p k work
  lent_is = (λ i. take (wide i) (drop (s.starts i) work))
    where
      wide : end - start ≡ p.n
      wide = omega (arith, s.ends)

  pub lent_long : length (take (end - start) (drop start work)) ≡ p.n
  lent_long = ap length lent_is ∙ length_element p.n (at k) work (within p k work room)

  pub lent_residues : Residues p (slot p k work) → Residues p (take (end - start) (drop start work))
  lent_residues = subst (Residues p) (sym lent_is)

  pub lent_codable : {L : Layout} → Readable L p.q → Packable p L k work → Codable L p.q (take (end - start) (drop start work))
  lent_codable {L} R P =
      subst (Codable L p.q) (sym lent_is)
      (record { readable = R; below = P.residues.each; allowed = λ i l. P.allowed i (omega (arith, P.residues.long)) })

  pub lent_back : (out : List ℕ) → length out ≡ length (take (end - start) (drop start work)) → Wrote p.n (at k) out work (put_mid start (end - start) work out)
  lent_back out l =
      subst (λ (m : ℕ). Wrote p.n (at k) out work (put_mid start (m - start) work out)) (sym s.ends)
      (subst (λ (m : ℕ). Wrote p.n (at k) out work (put_mid m (m + p.n - m) work out)) (sym s.starts)
      (wrote_part p.n (at k) out work (l ∙ lent_long) (within p k work room)))

  -- an element that is known by what it is
  pub lent_written : {out want : List ℕ} → length out ≡ length (take (end - start) (drop start work)) → out ≡ want
      → Wrote p.n (at k) want work (put_mid start (end - start) work out)
  lent_written {out} l e = subst (λ (xs : List ℕ). Wrote p.n (at k) xs work (back out)) e (lent_back out l)

  pub back_touched : (out : List ℕ) → length out ≡ length (take (end - start) (drop start work)) → Touched p k work (put_mid start (end - start) work out)
  back_touched out l = touched (lent_back out l)

  -- it comes back with an element, as remainders
  pub back_holds : {out : List ℕ} {zs : List ℤ} → length out ≡ length (take (end - start) (drop start work)) → out ≡ map (residue p.q) zs
      → Holds p k zs (put_mid start (end - start) work out)
  back_holds {out} {zs} l h = record { long = sym (ap length h ∙ length-map zs (residue p.q)) ∙ l ∙ lent_long; here = (lent_back out l).here ∙ h }

  pub back_fills : {m : Result (List ℤ)} {answer : Answer} {out : List ℕ} → length out ≡ length (take (end - start) (drop start work))
      → Gives m (λ zs. out ≡ map (residue p.q) zs) answer → Fills p k m work answer (put_mid start (end - start) work out)
  back_fills {out = out} l g = record { touched = back_touched out l; gives = gives_as (λ zs d h. back_holds l h) g }

  -- or with what unpacking has left there
  module _ {L : Layout} (bs out : List ℕ) (R : Readable L p.q) (l : length out ≡ length (take (end - start) (drop start work))) (f : ℕ → Refusal) where
    pub back_read : (u : Unpacked) → Is (unpacked_to L p.q bs (take (end - start) (drop start work))) u out
        → Fills p k (unpack L f p.n bs) work (answer_with f u) (put_mid start (end - start) work out)
    back_read u i = record { touched = back_touched out l; gives = by u (record { readable = R; old = lent; room = lent_long; walk = i }) }
      where
        by : (u : Unpacked) → Decoding L p.q p.n bs u out → Gives (unpack L f p.n bs) (λ a. Holds p k a (back out)) (answer_with f u)
        by (Ok all) D =
            gives_well _ (read_means D refl f) (back_holds l (read_remainders D refl ∙ sym (residues_means L p.q R (codes L.bits p.n bs))))
        by (Err bad) D = gives_ill (f bad.index) (read_bad D f bad.index refl)
