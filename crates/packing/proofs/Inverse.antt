-- "packing and unpacking are inverse on allowed values", of the calls: what one answers the other gives back.
use mathlib.Core.Path.{◌≡◌, sym, ap, ◌∙◌}
use mathlib.Core.List.{List}
use Prim.Native.Nat.{ℕ, ◌^◌, ◌<◌}
use native.Mathlib.Omega.{arith}
use borrow.Author.Tests.{eqb-true, leb-true}
use lib.Dec.{eqb, leb}
use lib.ListN.{length, get_or}
use lib.IntN.{ℤ, pos}
use Rattle.sets.specs.Set.{Set}
use Rattle.answers.specs.declared.Buffer.TheVariants.{Coefficients, Packed}
use Rattle.answers.specs.declared.Field.{Field}
use Rattle.answers.specs.declared.Refusal.{Refusal}
use Rattle.answers.specs.declared.Refusal.TheVariants.{Length, Hint, Coefficient}
use Rattle.answers.specs.Result.{done}
use Rattle.layouts.specs.declared.layout.Layout.{Layout}
use Rattle.layouts.specs.Layouts.{hint_layout, holds, every, size, pack, unpack, layout_of}
use Rattle.layouts.specs.Hints.{ones, any_hint, read_hints}
use Rattle.packing.specs.Calls.{pack_call, unpack_call, pack_hints_call, unpack_hints_call}
use Rattle.answers.proofs.Results.{need_inv, then-inv, done_inv}
use Rattle.layouts.proofs.Kept.{holds_of}
use Rattle.layouts.proofs.Elements.{every_done, every_inv, Element, element_of, ZeroFill, length_pack, unpack_element, was_read, pack_unpacked}
use Rattle.packing.proofs.Calling.{pack_done, unpack_goes, pack_hints_done, unpack_hints_goes}
use Rattle.packing.proofs.Wholes.{read_hints_lem, hints_read}

module _ (L : Layout) (n : ℕ) where
  -- the checks of packing, there and back
  every_held : (refusal : ℕ → Refusal) (zs : List ℤ) → Element L n zs → every (holds L) refusal 0 zs ≡ done tt
  every_held refusal zs E = every_done (pos 0) (holds L) refusal 0 zs (λ k l. holds_of L (get_or zs k (pos 0)) (E.kept k (omega (arith, E.long))))

  held : (refusal : ℕ → Refusal) (zs : List ℤ) → L.most < 2 ^ L.bits → length zs ≡ n → (u : Unit {0}) → every (holds L) refusal 0 zs ≡ done u → Element L n zs
  held refusal zs f l u e =
      element_of L n zs f (l, λ k h. every_inv (pos 0) (holds L) refusal 0 zs e k (omega (arith, l)))

module _ (p : Set) (f : Field) where
  abbrev L : Layout
  L = layout_of p f

  -- what packing answers, unpacking gives back
  pub unpack_of_pack : (layout_of p f).most < 2 ^ (layout_of p f).bits → (zs room : List ℤ) (out bs : List ℕ)
      → pack_call p f zs out ≡ done bs → length room ≡ p.n → unpack_call p f bs room ≡ done zs
  unfolding pack_call unpack_call
  unpack_of_pack k zs room out bs e l =
      let a = need_inv (eqb (length zs) p.n) (Length Coefficients) _ bs e in
      let b = need_inv (eqb (length out) (size L p.n)) (Length Packed) _ bs a.1 in
      let c = then-inv (every (holds L) (Coefficient f) 0 zs) (done (pack L p.n zs)) bs b.1 in
      let q : pack L p.n zs ≡ bs = done_inv (pack L p.n zs) bs c.2 in
      let E = held L p.n (Coefficient f) zs k (eqb-true _ _ a.0) c.0 c.1 in
      unpack_goes p f bs room (ap length (sym q) ∙ length_pack L p.n zs) l ∙
      ap (unpack L (Coefficient f) p.n) (sym q) ∙ unpack_element L p.n (Coefficient f) zs E

  -- what unpacking answers, packing gives back, where fill bits are zero
  pub pack_of_unpack : (bs room : List ℕ) (out zs : List ℤ) → ((k : ℕ) → get_or bs k 0 < 256) → ZeroFill (layout_of p f) p.n bs
      → unpack_call p f bs out ≡ done zs → length room ≡ size (layout_of p f) p.n → pack_call p f zs room ≡ done bs
  unfolding unpack_call
  pack_of_unpack bs room out zs b k e l =
      let x = need_inv (eqb (length bs) (size L p.n)) (Length Packed) _ zs e in
      let y = need_inv (eqb (length out) p.n) (Length Coefficients) (unpack L (Coefficient f) p.n bs) zs x.1 in
      let E = (was_read L p.n (Coefficient f) bs zs y.1).element in
      pack_done p f zs room E.long l (every_held L p.n (Coefficient f) zs E) ∙
      ap done (pack_unpacked L p.n (Coefficient f) bs zs b (eqb-true _ _ x.0) k y.1)

-- the hints
module _ (p : Set) where
  pub unpack_of_pack_hints : (zs room : List ℤ) (out bs : List ℕ) → pack_hints_call p zs out ≡ done bs → length room ≡ p.n → unpack_hints_call p bs room ≡ done zs
  unfolding pack_hints_call
  unpack_of_pack_hints zs room out bs e l =
      let a = need_inv (eqb (length zs) p.n) (Length Coefficients) _ bs e in
      let b = need_inv (eqb (length out) (size hint_layout p.n)) (Length Packed) _ bs a.1 in
      let c = then-inv (every (holds hint_layout) any_hint 0 zs) _ bs b.1 in
      let d = need_inv (leb (ones zs) p.omega) Hint (done (pack hint_layout p.n zs)) bs c.2 in
      let q : pack hint_layout p.n zs ≡ bs = done_inv (pack hint_layout p.n zs) bs d.1 in
      let E = held hint_layout p.n any_hint zs (omega arith) (eqb-true _ _ a.0) c.0 c.1 in
      unpack_hints_goes p bs room (ap length (sym q) ∙ length_pack hint_layout p.n zs) l ∙
      ap (read_hints p) (sym q) ∙ read_hints_lem p zs E (leb-true _ _ d.0)

  pub pack_of_unpack_hints : (bs room : List ℕ) (out zs : List ℤ) → ((k : ℕ) → get_or bs k 0 < 256) → ZeroFill hint_layout p.n bs
      → unpack_hints_call p bs out ≡ done zs → length room ≡ size hint_layout p.n → pack_hints_call p zs room ≡ done bs
  unfolding unpack_hints_call
  pack_of_unpack_hints bs room out zs b f e l =
      let x = need_inv (eqb (length bs) (size hint_layout p.n)) (Length Packed) _ zs e in
      let y = need_inv (eqb (length out) p.n) (Length Coefficients) (read_hints p bs) zs x.1 in
      let h = hints_read p bs zs y.1 in
      let E = (was_read hint_layout p.n any_hint bs zs h.0).element in
      pack_hints_done p zs room E.long l (every_held hint_layout p.n any_hint zs E) h.1 ∙
      ap done (pack_unpacked hint_layout p.n any_hint bs zs b (eqb-true _ _ x.0) f h.0)
