-- The parts of a key, written one after the other, are the key. Layouts are those that the code has made.
use mathlib.Core.Path.{◌≡◌, refl, sym, ap, ◌∙◌}
use mathlib.Core.List.{List, [], ◌∷◌, ◌++◌, append-nil}
use Prim.Native.Nat.{ℕ}
use native.Mathlib.Omega.{arith}
use lib.IntN.{ℤ}
use lib.ListN.{length}
use Rattle.sets.specs.Set.{Set, seed_size, hash_size}
use Rattle.shake.specs.Shake.{shake256}
use Rattle.layouts.specs.declared.layout.Layout.{Layout}
use Rattle.packing.specs.declared.parts.Part.TheVariants as part
use Rattle.layouts.specs.Layouts.{t1_layout, t0_layout, s_layout, size, pack}
use Rattle.packing.specs.Parts.{PublicKey, SecretKey, pack_public, pack_secret, total, public_parts, secret_parts, public_size, secret_size}
use Rattle.packing.specs.Inner.{start_in, put}
use Rattle.layouts.proofs.Elements.{length_pack}
use Rattle.packing.proofs.Joins.{length_join}
use Rattle.packing.proofs.Standing.{puts_join}
use Rattle.scheme.specs.Keys.{ph_of}

module _ (p : Set) where
  -- a field, packed by the layout that is wanted
  packed_as : (L want : Layout) → L ≡ want → (at : ℕ) (a : List ℤ) (old new : List ℕ) → new ≡ put at (pack L p.n a) old → new ≡ put at (pack want p.n a) old
  packed_as L want is at a old new e = e ∙ ap (λ (x : Layout). put at (pack x p.n a) old) is

  pub public_written : (K : PublicKey) → length K.zeta ≡ seed_size → (L : Layout) → L ≡ t1_layout p → (o0 o1 o2 : List ℕ) → length o0 ≡ public_size p
      → o1 ≡ put (start_in p part.PublicZeta) K.zeta o0 → o2 ≡ put (start_in p part.T1) (pack L p.n K.t1) o1 → o2 ≡ pack_public p K
  unfolding total
  public_written K z L is o0 o1 o2 l e1 e2 =
      puts_join (K.zeta ∷ pack (t1_layout p) p.n K.t1 ∷ []) o0 o2
      (l ∙ sym (length_join (public_parts p) (K.zeta ∷ pack (t1_layout p) p.n K.t1 ∷ []) (z, (length_pack (t1_layout p) p.n K.t1, tt))))
      (start_in p part.PublicZeta, refl, o1, e1, (start_in p part.T1, omega arith, o2, packed_as L (t1_layout p) is (start_in p part.T1) K.t1 o1 o2 e2, refl))

  module _ (K : SecretKey) (z : length K.zeta ≡ seed_size) (h : length K.ph ≡ hash_size) (k : length K.k ≡ seed_size) where
    abbrev parts : List (List ℕ)
    parts =
        K.zeta ∷ K.ph ∷ K.k ∷ pack (s_layout p) p.n K.s1 ∷ pack (s_layout p) p.n K.s2 ∷
        pack (t0_layout p) p.n K.t0 ∷ []

    l1 : length (pack (s_layout p) p.n K.s1) ≡ size (s_layout p) p.n
    l1 = length_pack (s_layout p) p.n K.s1

    l2 : length (pack (s_layout p) p.n K.s2) ≡ size (s_layout p) p.n
    l2 = length_pack (s_layout p) p.n K.s2

    pub secret_written : (S S' L : Layout) → S ≡ s_layout p → S' ≡ s_layout p → L ≡ t0_layout p
        → (o0 o1 o2 o3 o4 o5 o6 : List ℕ) → length o0 ≡ secret_size p → o1 ≡ put (start_in p part.SecretZeta) K.zeta o0
        → o2 ≡ put (start_in p part.Ph) K.ph o1 → o3 ≡ put (start_in p part.K) K.k o2 → o4 ≡ put (start_in p part.S1) (pack S p.n K.s1) o3
        → o5 ≡ put (start_in p part.S2) (pack S' p.n K.s2) o4 → o6 ≡ put (start_in p part.T0) (pack L p.n K.t0) o5 → o6 ≡ pack_secret p K
    unfolding total
    secret_written S S' L is is' it o0 o1 o2 o3 o4 o5 o6 l e1 e2 e3 e4 e5 e6 =
        let p1 = packed_as S (s_layout p) is (start_in p part.S1) K.s1 o3 o4 e4 in
        let p2 = packed_as S' (s_layout p) is' (start_in p part.S2) K.s2 o4 o5 e5 in
        let p3 = packed_as L (t0_layout p) it (start_in p part.T0) K.t0 o5 o6 e6 in
        puts_join parts o0 o6
        (l ∙ sym (length_join (secret_parts p) parts (z, (h, (k, (l1, (l2, (length_pack (t0_layout p) p.n K.t0, tt)))))))) (
          start_in p part.SecretZeta,
          refl,
          o1,
          e1,
          (
            start_in p part.Ph,
            omega arith,
            o2,
            e2,
            (
              start_in p part.K,
              omega arith,
              o3,
              e3,
              (
                start_in p part.S1,
                omega arith,
                o4,
                p1,
                (start_in p part.S2, omega (arith, l1), o5, p2, (start_in p part.T0, omega (arith, l1, l2), o6, p3, refl)),
              ),
            ),
          ),
        )

  -- ph as the hash of the public key
  pub secret_hashed : (sk ζ ph k pk : List ℕ) (s1 s2 t0 : List ℤ)
      → sk ≡ pack_secret p record { zeta = ζ; ph = ph; k = k; s1 = s1; s2 = s2; t0 = t0 } → ph ≡ shake256 (pk ++ ([] ++ [])) hash_size
      → sk ≡ pack_secret p record { zeta = ζ; ph = ph_of shake256 pk; k = k; s1 = s1; s2 = s2; t0 = t0 }
  secret_hashed sk ζ ph k pk s1 s2 t0 e h =
      e ∙
      ap (λ (x : List ℕ). pack_secret p record { zeta = ζ; ph = x; k = k; s1 = s1; s2 = s2; t0 = t0 }) (h ∙ ap (ph_of shake256) (append-nil pk))
