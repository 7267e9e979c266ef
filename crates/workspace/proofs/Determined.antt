-- Each public contract of this crate permits one outcome. After a refusal the place is scratch, and so those theorems say that the answer is one.
use mathlib.Core.Path.{◌≡◌, refl, sym, ap, ◌∙◌}
use mathlib.Core.List.{List}
use Prim.Native.Nat.{ℕ, ◌+◌, ◌*◌, ◌/◌, ◌%◌, ◌<◌}
use native.Mathlib.Nat.{div-add-mod', mod-lt}
use native.Mathlib.Decide.{ℕ_discrete}
use native.Mathlib.Omega.{arith}
use lib.IntN.{ℤ}
use lib.ListN.{get_or}
use lib.Seq.{ext_get_or}
use Rattle.outcome.proofs.One.{One, OneGiven}
use Rattle.answers.proofs.Giving.{gives_one}
use Rattle.sets.specs.Set.{Set}
use Rattle.sets.specs.Good.{Good}
use Rattle.ring.specs.Inner.{Residues}
use Rattle.packing.specs.declared.parts.Span.{Span}
use Rattle.workspace.specs.declared.Place.{Place}
use Rattle.workspace.specs.Inner.{element, at, slot, Spans, Touched, Made}
use Rattle.workspace.proofs.Memory.{at_element}
use Rattle.workspace.proofs.Holding.{own}
use Rattle.workspace.proofs.Place.span.Reads as span
use Rattle.workspace.proofs.Place.span.Kinds as span_kinds
use Rattle.workspace.proofs.arithmetic.combine.Reads as combine
use Rattle.workspace.proofs.arithmetic.combine.Kinds as combine_kinds
use Rattle.workspace.proofs.arithmetic.multiply.Reads as multiply
use Rattle.workspace.proofs.arithmetic.multiply.Kinds as multiply_kinds
use Rattle.workspace.proofs.drawing.fill_a.Reads as fill_a
use Rattle.workspace.proofs.drawing.fill_a.Kinds as fill_a_kinds
use Rattle.workspace.proofs.drawing.fill_s.Reads as fill_s
use Rattle.workspace.proofs.drawing.fill_s.Kinds as fill_s_kinds
use Rattle.workspace.proofs.drawing.fill_c.Reads as fill_c
use Rattle.workspace.proofs.drawing.fill_c.Kinds as fill_c_kinds
use Rattle.workspace.proofs.drawing.fill_y.Reads as fill_y
use Rattle.workspace.proofs.drawing.fill_y.Kinds as fill_y_kinds
use Rattle.workspace.proofs.reading.read_field.Reads as read_field
use Rattle.workspace.proofs.reading.read_field.Kinds as read_field_kinds
use Rattle.workspace.proofs.reading.read_hints.Reads as read_hints
use Rattle.workspace.proofs.reading.read_hints.Kinds as read_hints_kinds
use Rattle.workspace.proofs.reading.count_ones.Reads as count_ones
use Rattle.workspace.proofs.reading.count_ones.Kinds as count_ones_kinds
use Rattle.workspace.proofs.packed.pack.Reads as pack
use Rattle.workspace.proofs.packed.pack.Kinds as pack_kinds
use Rattle.workspace.proofs.packed.put.Reads as put
use Rattle.workspace.proofs.packed.put.Kinds as put_kinds
use Rattle.workspace.proofs.commitment.mu.Reads as mu
use Rattle.workspace.proofs.commitment.mu.Kinds as mu_kinds
use Rattle.workspace.proofs.commitment.commit.Reads as commit
use Rattle.workspace.proofs.commitment.commit.Kinds as commit_kinds

spans_one : (p : Set) (k : Place) (x y : Span) → Spans p k x.start x.end → Spans p k y.start y.end → x ≡ y
spans_one p k x y f g =
    let s : x.start ≡ y.start = f.starts ∙ sym g.starts in
    λ i. record { start = s i; end = (f.ends ∙ ap (λ (m : ℕ). m + p.n) s ∙ sym g.ends) i }

-- every number of the memory is in some element, where elements are not empty
module _ (p : Set) (G : Good p) (k : Place) (work more more' : List ℕ) (T : Touched p k work more) (T' : Touched p k work more') where
  same_element : slot p k more ≡ slot p k more' → (j : ℕ) → element p.n j more ≡ element p.n j more'
  same_element h j = by (ℕ_discrete j (at k))
    where
      by : Dec (j ≡ at k) → element p.n j more ≡ element p.n j more'
      by (yes e) = ap (λ (i : ℕ). element p.n i more) e ∙ h ∙ sym (ap (λ (i : ℕ). element p.n i more') e)
      by (no d) = T.kept j d ∙ sym (T'.kept j d)

  pub touched_one : slot p k more ≡ slot p k more' → more ≡ more'
  touched_one h = ext_get_or 0 more more' (T.long ∙ sym T'.long) (λ i l. same_number i)
    where
      same_number : (i : ℕ) → get_or more i 0 ≡ get_or more' i 0
      same_number i =
          let l : i % p.n < p.n = mod-lt i (omega (arith, G.n_some)) in
          let e : i ≡ i / p.n * p.n + i % p.n = sym (div-add-mod' i p.n) in
          ap (λ (j : ℕ). get_or more j 0) e ∙
          sym (at_element p.n (i / p.n) (i % p.n) more l) ∙
          ap (λ (xs : List ℕ). get_or xs (i % p.n) 0) (same_element h (i / p.n)) ∙
          at_element p.n (i / p.n) (i % p.n) more' l ∙
          ap (λ (j : ℕ). get_or more' j 0) (sym e)

module _ (p : Set) (G : Good p) (i j k : Place) (f : List ℤ → List ℤ → List ℤ) (work more more' : List ℕ) where
  made_one : Residues p (slot p i work) → Residues p (slot p j work) → Made p i j k f work more → Made p i j k f work more' → more ≡ more'
  made_one r s m m' =
      touched_one p G k work more more' m.touched m'.touched
      ((m.here _ _ (own p G i work r) (own p G j work s)).here ∙ sym (m'.here _ _ (own p G i work r) (own p G j work s)).here)

pub place_span_one : One 0 span_kinds.ps span_kinds.r span.Post (λ κs s. tt {0})
place_span_one κs a x y s t f g = (spans_one a.1.0 a.0 x y f g, refl)

pub combine_one : OneGiven 1 combine_kinds.ps combine_kinds.r combine.Pre combine.Post (λ κs s. s.1.1.0.now)
combine_one κs a x y s t f g = (refl, made_one _ f.0.0.0.good _ _ _ _ _ _ _ f.0.1.0 f.0.1.1 f.1 g.1)

pub multiply_one : OneGiven 1 multiply_kinds.ps multiply_kinds.r multiply.Pre multiply.Post (λ κs s. s.1.0.now)
multiply_one κs a x y s t f g = (refl, made_one _ f.0.0.0.good _ _ _ _ _ _ _ f.0.1.0 f.0.1.1 f.1 g.1)

pub fill_a_one : One 2 fill_a_kinds.ps fill_a_kinds.r fill_a.Post (λ κs s. tt {0})
fill_a_one κs a x y s t f g = (gives_one x y f.gives g.gives, refl)

pub fill_s_one : One 2 fill_s_kinds.ps fill_s_kinds.r fill_s.Post (λ κs s. tt {0})
fill_s_one κs a x y s t f g = (gives_one x y f.gives g.gives, refl)

pub fill_c_one : One 2 fill_c_kinds.ps fill_c_kinds.r fill_c.Post (λ κs s. tt {0})
fill_c_one κs a x y s t f g = (gives_one x y f.gives g.gives, refl)

pub fill_y_one : OneGiven 2 fill_y_kinds.ps fill_y_kinds.r fill_y.Pre fill_y.Post (λ κs s. s.1.1.1.0.now)
fill_y_one κs a x y s t f g =
    (refl, touched_one _ f.0.0.0.good _ _ _ _ f.1.0 g.1.0 (f.1.1.here ∙ sym g.1.1.here))

pub read_field_one : One 2 read_field_kinds.ps read_field_kinds.r read_field.Post (λ κs s. tt {0})
read_field_one κs a x y s t f g = (gives_one x y f.gives g.gives, refl)

pub read_hints_one : One 2 read_hints_kinds.ps read_hints_kinds.r read_hints.Post (λ κs s. tt {0})
read_hints_one κs a x y s t f g = (gives_one x y f.gives g.gives, refl)

pub count_ones_one : One 1 count_ones_kinds.ps count_ones_kinds.r count_ones.Post (λ κs s. tt {0})
count_ones_one κs a x y s t f g = (f ∙ sym g, refl)

pub pack_one : One 2 pack_kinds.ps pack_kinds.r pack.Post (λ κs s. s.1.1.1.1.0.now)
pack_one κs a x y s t f g = (refl, f ∙ sym g)

pub put_one : One 2 put_kinds.ps put_kinds.r put.Post (λ κs s. s.1.1.1.1.1.0.now)
put_one κs a x y s t f g = (refl, f ∙ sym g)

pub mu_one : One 3 mu_kinds.ps mu_kinds.r mu.Post (λ κs s. s.1.1.0.now)
mu_one κs a x y s t f g = (refl, f ∙ sym g)

pub commit_one : One 3 commit_kinds.ps commit_kinds.r commit.Post (λ κs s. s.1.1.1.0.now)
commit_one κs a x y s t f g = (refl, f ∙ sym g)
