-- Keys and signatures: reading and packing are inverse on the values that are allowed (SPEC 6), over the set.
use mathlib.Core.Path.{◌≡◌, refl, sym, ap, ◌∙◌}
use mathlib.Core.List.{List, [], ◌∷◌}
use Prim.Native.Nat.{ℕ, ◌≤◌, ◌<◌}
use borrow.Author.Tests.{le-leb, leb-true}
use lib.Dec.{leb}
use lib.ListN.{length, get_or}
use lib.IntN.{ℤ}
use Rattle.sets.specs.Set.{Set, seed_size}
use Rattle.sets.specs.Good.{Good}
use Rattle.answers.specs.declared.Field.TheVariants.{T1, T0, S1, S2, Z}
use Rattle.answers.specs.declared.Refusal.TheVariants.{Coefficient, Hint}
use Rattle.answers.specs.Result.{done, ◌>>=◌, ◌>>◌, need}
use Rattle.layouts.specs.Layouts.{t1_layout, t0_layout, s_layout, z_layout, hint_layout, pack, unpack}
use Rattle.layouts.specs.Hints.{ones, any_hint}
use Rattle.packing.specs.Parts.{cut, total, part, public_parts, secret_parts, signature_parts}
use Rattle.layouts.specs.Hints.{read_hints}
use Rattle.packing.specs.Parts.{PublicKey, SecretKey, Signature, pack_public, pack_secret, pack_signature, read_public, read_secret, read_signature}
use Rattle.answers.proofs.Results.{bind_inv, need_inv, done_inv}
use Rattle.layouts.proofs.Elements.{Element, Allowed, element_of, ZeroFill, Full, length_pack, unpack_element, was_read, pack_unpacked, no_fill}
use Rattle.layouts.proofs.Room.{t1_readable, t0_readable, s_readable, z_readable, hint_readable}
use Rattle.packing.proofs.Joins.{cut_join, join_cut, sizes_cut, part_bytes}

-- ---- what a key or a signature holds
pub record RightPublic (p : Set) (k : PublicKey) : Type 0 where
  pub zeta : length k.zeta ≡ seed_size
  pub t1 : Element (t1_layout p) p.n k.t1

pub record RightSecret (p : Set) (sk : SecretKey) : Type 0 where
  pub zeta : length sk.zeta ≡ seed_size
  pub ph : length sk.ph ≡ 32
  pub k : length sk.k ≡ 32
  pub s1 : Element (s_layout p) p.n sk.s1
  pub s2 : Element (s_layout p) p.n sk.s2
  pub t0 : Element (t0_layout p) p.n sk.t0

pub record RightSignature (p : Set) (σ : Signature) : Type 0 where
  pub c~ : length σ.c~ ≡ 32
  pub z : Element (z_layout p) p.n σ.z
  pub h : Element hint_layout p.n σ.h
  pub few : ones σ.h ≤ p.omega

-- of a good set every value that passes the layout's test is kept
module _ (p : Set) (good : Good p) where
  pub allowed_public : (k : PublicKey) → length k.zeta ≡ seed_size → Allowed (t1_layout p) p.n k.t1 → RightPublic p k
  allowed_public k zeta t1 = record { zeta = zeta; t1 = element_of (t1_layout p) p.n k.t1 (t1_readable p good).fits t1 }

  pub allowed_secret : (k : SecretKey) → length k.zeta ≡ seed_size → length k.ph ≡ 32 → length k.k ≡ 32
      → Allowed (s_layout p) p.n k.s1 → Allowed (s_layout p) p.n k.s2 → Allowed (t0_layout p) p.n k.t0 → RightSecret p k
  allowed_secret k zeta ph kk s1 s2 t0 = record {
    zeta = zeta;
    ph = ph;
    k = kk;
    s1 = element_of (s_layout p) p.n k.s1 (s_readable p good).fits s1;
    s2 = element_of (s_layout p) p.n k.s2 (s_readable p good).fits s2;
    t0 = element_of (t0_layout p) p.n k.t0 (t0_readable p good).fits t0;
  }

  pub allowed_signature : (σ : Signature) → length σ.c~ ≡ 32 → Allowed (z_layout p) p.n σ.z → Allowed hint_layout p.n σ.h
      → ones σ.h ≤ p.omega → RightSignature p σ
  allowed_signature σ c~ z h few = record {
    c~ = c~;
    z = element_of (z_layout p) p.n σ.z (z_readable p good).fits z;
    h = element_of hint_layout p.n σ.h (hint_readable p good).fits h;
    few = few;
  }

-- what is packed is read again
module _ (p : Set) where
  pub read_public_lem : (k : PublicKey) → RightPublic p k → read_public p (pack_public p k) ≡ done k
  unfolding read_public
  read_public_lem k R =
      rw (
        cut_join (public_parts p) (k.zeta ∷ pack (t1_layout p) p.n k.t1 ∷ []) (R.zeta, (length_pack (t1_layout p) p.n k.t1, tt)),
        unpack_element (t1_layout p) p.n (Coefficient T1) k.t1 R.t1,
      )

  pub read_secret_lem : (k : SecretKey) → RightSecret p k → read_secret p (pack_secret p k) ≡ done k
  unfolding read_secret
  read_secret_lem k R =
      rw (
        cut_join (secret_parts p)
            (k.zeta ∷ k.ph ∷ k.k ∷ pack (s_layout p) p.n k.s1 ∷ pack (s_layout p) p.n k.s2 ∷ pack (t0_layout p) p.n k.t0 ∷ [])
            (R.zeta, (R.ph, (R.k, (length_pack (s_layout p) p.n k.s1, (length_pack (s_layout p) p.n k.s2, (length_pack (t0_layout p) p.n k.t0, tt)))))),
        unpack_element (s_layout p) p.n (Coefficient S1) k.s1 R.s1,
        unpack_element (s_layout p) p.n (Coefficient S2) k.s2 R.s2,
        unpack_element (t0_layout p) p.n (Coefficient T0) k.t0 R.t0,
      )

  pub read_hints_lem : (h : List ℤ) → Element hint_layout p.n h → ones h ≤ p.omega → read_hints p (pack hint_layout p.n h) ≡ done h
  unfolding read_hints
  read_hints_lem h E l = rw (unpack_element hint_layout p.n any_hint h E, le-leb (ones h) p.omega l)

  pub read_signature_lem : (σ : Signature) → RightSignature p σ → read_signature p (pack_signature p σ) ≡ done σ
  unfolding read_signature
  read_signature_lem σ R =
      rw (
        cut_join (signature_parts p)
            (σ.c~ ∷ pack (z_layout p) p.n σ.z ∷ pack hint_layout p.n σ.h ∷ [])
            (R.c~, (length_pack (z_layout p) p.n σ.z, (length_pack hint_layout p.n σ.h, tt))),
        unpack_element (z_layout p) p.n (Coefficient Z) σ.z R.z,
        read_hints_lem σ.h R.h R.few,
      )

-- ---- and what is read is packed again into the same bytes
-- the bytes of a key or a signature: as many as its parts have, with zero fill bits
pub record CleanPublic (p : Set) (bs : List ℕ) : Type 0 where
  pub bytes : (k : ℕ) → get_or bs k 0 < 256
  pub long : length bs ≡ total (public_parts p)
  pub t1 : ZeroFill (t1_layout p) p.n (part (public_parts p) 1 bs)

pub record CleanSecret (p : Set) (bs : List ℕ) : Type 0 where
  pub bytes : (k : ℕ) → get_or bs k 0 < 256
  pub long : length bs ≡ total (secret_parts p)
  pub s1 : ZeroFill (s_layout p) p.n (part (secret_parts p) 3 bs)
  pub s2 : ZeroFill (s_layout p) p.n (part (secret_parts p) 4 bs)
  pub t0 : ZeroFill (t0_layout p) p.n (part (secret_parts p) 5 bs)

pub record CleanSignature (p : Set) (bs : List ℕ) : Type 0 where
  pub bytes : (k : ℕ) → get_or bs k 0 < 256
  pub long : length bs ≡ total (signature_parts p)
  pub z : ZeroFill (z_layout p) p.n (part (signature_parts p) 1 bs)
  pub h : ZeroFill hint_layout p.n (part (signature_parts p) 2 bs)

module _ (p : Set) (bs : List ℕ) where
  abbrev whole_public : List ℤ → PublicKey
  whole_public t1 = record { zeta = part (public_parts p) 0 bs; t1 = t1 }

  pub public_parts_lem : (k : PublicKey) → read_public p bs ≡ done k → (t1 : List ℤ) × (unpack (t1_layout p) (Coefficient T1) p.n (part (public_parts p) 1 bs) ≡ done t1) × (k ≡ whole_public t1)
  unfolding read_public
  public_parts_lem k e =
      let a = bind_inv (unpack (t1_layout p) (Coefficient T1) p.n (part (public_parts p) 1 bs)) (λ t1. done (whole_public t1)) k e in
      (a.0, a.1, sym (done_inv (whole_public a.0) k a.2))

  pub right_public : length bs ≡ total (public_parts p) → (k : PublicKey) → read_public p bs ≡ done k → RightPublic p k
  unfolding cut
  right_public l k e =
      let a = public_parts_lem k e in
      let s = sizes_cut (public_parts p) bs l in
      rw a.2 (record { zeta = s.0; t1 = (was_read (t1_layout p) p.n (Coefficient T1) (part (public_parts p) 1 bs) a.0 a.1).element })

  pub pack_public_lem : CleanPublic p bs → (k : PublicKey) → read_public p bs ≡ done k → pack_public p k ≡ bs
  unfolding cut
  pack_public_lem C k e =
      let a = public_parts_lem k e in
      let s = sizes_cut (public_parts p) bs C.long in
      rw (a.2, pack_unpacked (t1_layout p) p.n (Coefficient T1) (part (public_parts p) 1 bs) a.0 (part_bytes (public_parts p) 1 bs C.bytes) s.1.0 C.t1 a.1)
      (join_cut (public_parts p) bs C.long)

  abbrev whole_secret : List ℤ → List ℤ → List ℤ → SecretKey
  whole_secret s1 s2 t0 =
      record { zeta = part (secret_parts p) 0 bs; ph = part (secret_parts p) 1 bs; k = part (secret_parts p) 2 bs; s1 = s1; s2 = s2; t0 = t0 }

  pub record SecretRead (k : SecretKey) : Type 0 where
    pub s1 : unpack (s_layout p) (Coefficient S1) p.n (part (secret_parts p) 3 bs) ≡ done k.s1
    pub s2 : unpack (s_layout p) (Coefficient S2) p.n (part (secret_parts p) 4 bs) ≡ done k.s2
    pub t0 : unpack (t0_layout p) (Coefficient T0) p.n (part (secret_parts p) 5 bs) ≡ done k.t0
    pub same : k ≡ whole_secret k.s1 k.s2 k.t0

  pub secret_parts_lem : (k : SecretKey) → read_secret p bs ≡ done k → SecretRead k
  unfolding read_secret
  secret_parts_lem k e =
      let r1 = unpack (s_layout p) (Coefficient S1) p.n (part (secret_parts p) 3 bs) in
      let r2 = unpack (s_layout p) (Coefficient S2) p.n (part (secret_parts p) 4 bs) in
      let r3 = unpack (t0_layout p) (Coefficient T0) p.n (part (secret_parts p) 5 bs) in
      let a = bind_inv r1 (λ s1. r2 >>= (λ s2. r3 >>= (λ t0. done (whole_secret s1 s2 t0)))) k e in
      let b = bind_inv r2 (λ s2. r3 >>= (λ t0. done (whole_secret a.0 s2 t0))) k a.2 in
      let c = bind_inv r3 (λ t0. done (whole_secret a.0 b.0 t0)) k b.2 in
      let k≡ : k ≡ whole_secret a.0 b.0 c.0 = sym (done_inv (whole_secret a.0 b.0 c.0) k c.2) in
      rw k≡ (record { s1 = a.1; s2 = b.1; t0 = c.1; same = refl })

  pub right_secret : length bs ≡ total (secret_parts p) → (k : SecretKey) → read_secret p bs ≡ done k → RightSecret p k
  unfolding cut
  right_secret l k e =
      let a = secret_parts_lem k e in
      let s = sizes_cut (secret_parts p) bs l in
      record {
        zeta = ap (λ (x : SecretKey). length x.zeta) a.same ∙ s.0;
        ph = ap (λ (x : SecretKey). length x.ph) a.same ∙ s.1.0;
        k = ap (λ (x : SecretKey). length x.k) a.same ∙ s.1.1.0;
        s1 = (was_read (s_layout p) p.n (Coefficient S1) (part (secret_parts p) 3 bs) k.s1 a.s1).element;
        s2 = (was_read (s_layout p) p.n (Coefficient S2) (part (secret_parts p) 4 bs) k.s2 a.s2).element;
        t0 = (was_read (t0_layout p) p.n (Coefficient T0) (part (secret_parts p) 5 bs) k.t0 a.t0).element;
      }

  pub pack_secret_lem : CleanSecret p bs → (k : SecretKey) → read_secret p bs ≡ done k → pack_secret p k ≡ bs
  unfolding cut
  pack_secret_lem C k e =
      let a = secret_parts_lem k e in
      let s = (sizes_cut (secret_parts p) bs C.long).1.1.1 in
      let e1 = pack_unpacked (s_layout p) p.n (Coefficient S1) (part (secret_parts p) 3 bs) k.s1 (part_bytes (secret_parts p) 3 bs C.bytes) s.0 C.s1 a.s1 in
      let e2 = pack_unpacked (s_layout p) p.n (Coefficient S2) (part (secret_parts p) 4 bs) k.s2 (part_bytes (secret_parts p) 4 bs C.bytes) s.1.0 C.s2 a.s2 in
      let e3 = pack_unpacked (t0_layout p) p.n (Coefficient T0) (part (secret_parts p) 5 bs) k.t0 (part_bytes (secret_parts p) 5 bs C.bytes) s.1.1.0 C.t0 a.t0 in
      ap (pack_secret p) a.same ∙ rw (e1, e2, e3) (join_cut (secret_parts p) bs C.long)

  -- hints
  pub hints_read : (h : List ℤ) → read_hints p bs ≡ done h → (unpack hint_layout any_hint p.n bs ≡ done h) × (ones h ≤ p.omega)
  unfolding read_hints
  hints_read h e =
      let a = bind_inv (unpack hint_layout any_hint p.n bs) (λ h. need (leb (ones h) p.omega) Hint >> done h) h e in
      let b = need_inv (leb (ones a.0) p.omega) Hint (done a.0) h a.2 in
      let c : a.0 ≡ h = done_inv a.0 h b.1 in
      (a.1 ∙ ap done c, leb-true (ones h) p.omega (sym (ap (λ (x : List ℤ). leb (ones x) p.omega) c) ∙ b.0))

module _ (p : Set) (bs : List ℕ) where
  abbrev whole_signature : List ℤ → List ℤ → Signature
  whole_signature z h = record { c~ = part (signature_parts p) 0 bs; z = z; h = h }

  pub record SignatureRead (σ : Signature) : Type 0 where
    pub z : unpack (z_layout p) (Coefficient Z) p.n (part (signature_parts p) 1 bs) ≡ done σ.z
    pub h : unpack hint_layout any_hint p.n (part (signature_parts p) 2 bs) ≡ done σ.h
    pub few : ones σ.h ≤ p.omega
    pub same : σ ≡ whole_signature σ.z σ.h

  pub signature_parts_lem : (σ : Signature) → read_signature p bs ≡ done σ → SignatureRead σ
  unfolding read_signature
  signature_parts_lem σ e =
      let r1 = unpack (z_layout p) (Coefficient Z) p.n (part (signature_parts p) 1 bs) in
      let r2 = read_hints p (part (signature_parts p) 2 bs) in
      let a = bind_inv r1 (λ z. r2 >>= (λ h. done (whole_signature z h))) σ e in
      let b = bind_inv r2 (λ h. done (whole_signature a.0 h)) σ a.2 in
      let c = hints_read p (part (signature_parts p) 2 bs) b.0 b.1 in
      let σ≡ : σ ≡ whole_signature a.0 b.0 = sym (done_inv (whole_signature a.0 b.0) σ b.2) in
      rw σ≡ (record { z = a.1; h = c.0; few = c.1; same = refl })

  pub right_signature : length bs ≡ total (signature_parts p) → (σ : Signature) → read_signature p bs ≡ done σ → RightSignature p σ
  unfolding cut
  right_signature l σ e =
      let a = signature_parts_lem σ e in
      let s = sizes_cut (signature_parts p) bs l in
      record {
        c~ = ap (λ (x : Signature). length x.c~) a.same ∙ s.0;
        z = (was_read (z_layout p) p.n (Coefficient Z) (part (signature_parts p) 1 bs) σ.z a.z).element;
        h = (was_read hint_layout p.n any_hint (part (signature_parts p) 2 bs) σ.h a.h).element;
        few = a.few;
      }

  pub pack_signature_lem : CleanSignature p bs → (σ : Signature) → read_signature p bs ≡ done σ → pack_signature p σ ≡ bs
  unfolding cut
  pack_signature_lem C σ e =
      let a = signature_parts_lem σ e in
      let s = (sizes_cut (signature_parts p) bs C.long).1 in
      let e1 = pack_unpacked (z_layout p) p.n (Coefficient Z) (part (signature_parts p) 1 bs) σ.z (part_bytes (signature_parts p) 1 bs C.bytes) s.0 C.z a.z in
      let e2 = pack_unpacked hint_layout p.n any_hint (part (signature_parts p) 2 bs) σ.h (part_bytes (signature_parts p) 2 bs C.bytes) s.1.0 C.h a.h in
      ap (pack_signature p) a.same ∙ rw (e1, e2) (join_cut (signature_parts p) bs C.long)

-- no layout of the set leaves fill bits
pub record AllFull (p : Set) : Type 0 where
  pub t1 : Full (t1_layout p) p.n
  pub t0 : Full (t0_layout p) p.n
  pub s : Full (s_layout p) p.n
  pub z : Full (z_layout p) p.n
  pub h : Full hint_layout p.n

module _ (p : Set) (full : AllFull p) (bs : List ℕ) (bytes : (k : ℕ) → get_or bs k 0 < 256) where
  pub clean_public : length bs ≡ total (public_parts p) → CleanPublic p bs
  unfolding cut
  clean_public l =
      let s = (sizes_cut (public_parts p) bs l).1 in
      record { bytes = bytes; long = l; t1 = no_fill (t1_layout p) p.n (part (public_parts p) 1 bs) (part_bytes (public_parts p) 1 bs bytes) s.0 full.t1 }

  pub clean_secret : length bs ≡ total (secret_parts p) → CleanSecret p bs
  unfolding cut
  clean_secret l =
      let s = (sizes_cut (secret_parts p) bs l).1.1.1 in
      record {
        bytes = bytes;
        long = l;
        s1 = no_fill (s_layout p) p.n (part (secret_parts p) 3 bs) (part_bytes (secret_parts p) 3 bs bytes) s.0 full.s;
        s2 = no_fill (s_layout p) p.n (part (secret_parts p) 4 bs) (part_bytes (secret_parts p) 4 bs bytes) s.1.0 full.s;
        t0 = no_fill (t0_layout p) p.n (part (secret_parts p) 5 bs) (part_bytes (secret_parts p) 5 bs bytes) s.1.1.0 full.t0;
      }

  pub clean_signature : length bs ≡ total (signature_parts p) → CleanSignature p bs
  unfolding cut
  clean_signature l =
      let s = (sizes_cut (signature_parts p) bs l).1 in
      record {
        bytes = bytes;
        long = l;
        z = no_fill (z_layout p) p.n (part (signature_parts p) 1 bs) (part_bytes (signature_parts p) 1 bs bytes) s.0 full.z;
        h = no_fill hint_layout p.n (part (signature_parts p) 2 bs) (part_bytes (signature_parts p) 2 bs bytes) s.1.0 full.h;
      }
