-- Keys and signatures of set 1: reading and packing are inverse, with nothing left to show but lengths, bytes and allowed values.
use mathlib.Core.Path.{◌≡◌, refl, sym, ◌∙◌}
use mathlib.Core.List.{List}
use Prim.Native.Nat.{ℕ, ◌≤◌, ◌<◌}
use native.Mathlib.Omega.{arith}
use lib.ListN.{length, get_or}
use Rattle.sets.specs.Set.{set1}
use Rattle.answers.specs.Result.{done}
use Rattle.sets.proofs.Five.{good_set1}
use Rattle.layouts.specs.Layouts.{t1_layout, t0_layout, s_layout, z_layout, hint_layout}
use Rattle.layouts.specs.Hints.{ones}
use Rattle.packing.specs.Parts.{total, public_parts, secret_parts, signature_parts}
use Rattle.packing.specs.Parts.{PublicKey, SecretKey, Signature, pack_public, pack_secret, pack_signature, read_public, read_secret, read_signature}
use Rattle.layouts.proofs.Elements.{Allowed}
use Rattle.packing.proofs.Wholes.{AllFull, allowed_public, allowed_secret, allowed_signature, clean_public, clean_secret, clean_signature}
use Rattle.packing.proofs.Wholes.{read_public_lem, read_secret_lem, read_signature_lem, pack_public_lem, pack_secret_lem, pack_signature_lem}

-- SPEC 6.7 to 6.9: how many bytes they have
pub public_size_lem : total (public_parts set1) ≡ 1760
unfolding total
public_size_lem = refl

pub secret_size_lem : total (secret_parts set1) ≡ 2400
unfolding total
secret_size_lem = refl

pub signature_size_lem : total (signature_parts set1) ≡ 2912
unfolding total
signature_size_lem = refl

-- 1,152 codes of any of the widths are whole bytes
pub full_set1 : AllFull set1
full_set1 = omega arith

-- what is packed is read again
pub read_public_set1 : (k : PublicKey) → length k.zeta ≡ 32 → Allowed (t1_layout set1) 1152 k.t1 → read_public set1 (pack_public set1 k) ≡ done k
read_public_set1 k zeta t1 = read_public_lem set1 k (allowed_public set1 good_set1 k zeta t1)

pub read_secret_set1 : (k : SecretKey) → length k.zeta ≡ 32 → length k.ph ≡ 32 → length k.k ≡ 32
    → Allowed (s_layout set1) 1152 k.s1 → Allowed (s_layout set1) 1152 k.s2 → Allowed (t0_layout set1) 1152 k.t0 → read_secret set1 (pack_secret set1 k) ≡ done k
read_secret_set1 k zeta ph kk s1 s2 t0 = read_secret_lem set1 k (allowed_secret set1 good_set1 k zeta ph kk s1 s2 t0)

pub read_signature_set1 : (σ : Signature) → length σ.c~ ≡ 32 → Allowed (z_layout set1) 1152 σ.z → Allowed hint_layout 1152 σ.h → ones σ.h ≤ 80
    → read_signature set1 (pack_signature set1 σ) ≡ done σ
read_signature_set1 σ c~ z h few = read_signature_lem set1 σ (allowed_signature set1 good_set1 σ c~ z h few)

-- what is read is packed again into the same bytes
module _ (bs : List ℕ) (bytes : (k : ℕ) → get_or bs k 0 < 256) where
  pub pack_public_set1 : length bs ≡ 1760 → (k : PublicKey) → read_public set1 bs ≡ done k → pack_public set1 k ≡ bs
  pack_public_set1 l = pack_public_lem set1 bs (clean_public set1 full_set1 bs bytes (l ∙ sym public_size_lem))

  pub pack_secret_set1 : length bs ≡ 2400 → (k : SecretKey) → read_secret set1 bs ≡ done k → pack_secret set1 k ≡ bs
  pack_secret_set1 l = pack_secret_lem set1 bs (clean_secret set1 full_set1 bs bytes (l ∙ sym secret_size_lem))

  pub pack_signature_set1 : length bs ≡ 2912 → (σ : Signature) → read_signature set1 bs ≡ done σ → pack_signature set1 σ ≡ bs
  pack_signature_set1 l = pack_signature_lem set1 bs (clean_signature set1 full_set1 bs bytes (l ∙ sym signature_size_lem))
