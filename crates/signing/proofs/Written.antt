-- The signature of a try that passed. Layouts are those that the code has made.
use mathlib.Core.Path.{◌≡◌, refl, sym, ap, ◌∙◌}
use mathlib.Core.List.{List, [], ◌∷◌}
use Prim.Native.Nat.{ℕ}
use native.Mathlib.Omega.{arith}
use lib.Dec.{lit≤}
use lib.ListN.{length}
use Rattle.sets.specs.Set.{Set, hash_size}
use Rattle.sets.specs.Good.{Trinomial}
use Rattle.ring.specs.Profile.{mul}
use Rattle.layouts.specs.declared.layout.Layout.{Layout}
use Rattle.packing.specs.declared.parts.Part.TheVariants as part
use Rattle.layouts.specs.Layouts.{z_layout, hint_layout, pack}
use Rattle.packing.specs.Parts.{Signature, pack_signature, total, signature_parts, signature_size}
use Rattle.packing.specs.Inner.{start_in, put}
use Rattle.layouts.proofs.Elements.{length_pack}
use Rattle.packing.proofs.Joins.{length_join}
use Rattle.packing.proofs.Standing.{puts_join}
use Rattle.scheme.specs.Elements.{plus, negated}
use Rattle.scheme.specs.Try.{Signer, response, masked, hints}
use Rattle.workspace.specs.declared.Place.TheVariants as place
use Rattle.workspace.specs.Inner.{values, Packable}
use Rattle.workspace.proofs.Packing.{Back, back_z, back_hints}
use Rattle.tries.specs.Inner.{y_of, w_of, Passes}

-- the parts, written one after the other
pub signature_written : (p : Set) (σ : Signature) → length σ.c~ ≡ hash_size → (L K : Layout) → L ≡ z_layout p → K ≡ hint_layout → (o0 o1 o2 o3 : List ℕ)
    → length o0 ≡ signature_size p → o1 ≡ put (start_in p part.Commitment) σ.c~ o0 → o2 ≡ put (start_in p part.Z) (pack L p.n σ.z) o1
    → o3 ≡ put (start_in p part.Hints) (pack K p.n σ.h) o2 → o3 ≡ pack_signature p σ
unfolding total
signature_written p σ l L K isL isK o0 o1 o2 o3 s e1 e2 e3 =
    let z = length_pack (z_layout p) p.n σ.z in
    puts_join (σ.c~ ∷ pack (z_layout p) p.n σ.z ∷ pack hint_layout p.n σ.h ∷ []) o0 o3
    (s ∙ sym (length_join (signature_parts p) (σ.c~ ∷ pack (z_layout p) p.n σ.z ∷ pack hint_layout p.n σ.h ∷ []) (l, (z, (length_pack hint_layout p.n σ.h, tt))))) (
      start_in p part.Commitment,
      refl,
      o1,
      e1,
      (
        start_in p part.Z,
        omega arith,
        o2,
        e2 ∙ ap (λ (x : Layout). put (start_in p part.Z) (pack x p.n σ.z) o1) isL,
        (start_in p part.Hints, omega (arith, z), o3, e3 ∙ ap (λ (x : Layout). put (start_in p part.Hints) (pack x p.n σ.h) o2) isK, refl),
      ),
    )

module _ (p : Set) (T : Trinomial p) (S : Signer) (limit κ : ℕ) (work c~ : List ℕ) (F : Passes p S limit κ work c~) where
  z_back : Back p (z_layout p) place.Z (response p S (y_of p S κ) F.c) work
  z_back = back_z p T (F.held place.Z (lit≤ tt)) F.small

  h_back : Back p hint_layout place.Hints (hints p S (w_of p S κ) F.c) work
  h_back =
      back_hints p T (negated p (mul p F.c S.t0)) (plus p (masked p S (w_of p S κ) F.c) (mul p F.c S.t0))
      (F.held place.Hints (lit≤ tt))

  pub both_packable : Packable p (z_layout p) place.Z work × Packable p hint_layout place.Hints work
  both_packable = (z_back.packable, h_back.packable)

  pub is_signature : (out : List ℕ) → out ≡ pack_signature p record { c~ = c~; z = values p place.Z work; h = values p place.Hints work }
      → out ≡ pack_signature p record { c~ = c~; z = response p S (y_of p S κ) F.c; h = hints p S (w_of p S κ) F.c }
  is_signature out e = e ∙ (λ i. pack_signature p record { c~ = c~; z = z_back.same i; h = h_back.same i })
