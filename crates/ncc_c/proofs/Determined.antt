-- Each exported contract permits one outcome: one answer, and one content of each buffer.
use mathlib.Core.Path.{refl, sym, ◌∙◌}
use Rattle.outcome.proofs.One.{One, determined}
use Rattle.scheme.specs.Keys.{Pair}
use Rattle.ncc_c.proofs.hash.ncc_shake256.Reads as ncc_shake256
use Rattle.ncc_c.proofs.hash.ncc_shake256.Kinds as ncc_shake256_kinds
use Rattle.ncc_c.proofs.product.ncc_product.Reads as ncc_product
use Rattle.ncc_c.proofs.product.ncc_product.Kinds as ncc_product_kinds
use Rattle.ncc_c.proofs.round.ncc_high_bits.Reads as ncc_high_bits
use Rattle.ncc_c.proofs.round.ncc_high_bits.Kinds as ncc_high_bits_kinds
use Rattle.ncc_c.proofs.round.ncc_low_bits.Reads as ncc_low_bits
use Rattle.ncc_c.proofs.round.ncc_low_bits.Kinds as ncc_low_bits_kinds
use Rattle.ncc_c.proofs.round.ncc_make_hint.Reads as ncc_make_hint
use Rattle.ncc_c.proofs.round.ncc_make_hint.Kinds as ncc_make_hint_kinds
use Rattle.ncc_c.proofs.round.ncc_use_hint.Reads as ncc_use_hint
use Rattle.ncc_c.proofs.round.ncc_use_hint.Kinds as ncc_use_hint_kinds
use Rattle.ncc_c.proofs.round.ncc_power2_high.Reads as ncc_power2_high
use Rattle.ncc_c.proofs.round.ncc_power2_high.Kinds as ncc_power2_high_kinds
use Rattle.ncc_c.proofs.round.ncc_power2_low.Reads as ncc_power2_low
use Rattle.ncc_c.proofs.round.ncc_power2_low.Kinds as ncc_power2_low_kinds
use Rattle.ncc_c.proofs.samplers.ncc_sample_a.Reads as ncc_sample_a
use Rattle.ncc_c.proofs.samplers.ncc_sample_a.Kinds as ncc_sample_a_kinds
use Rattle.ncc_c.proofs.samplers.ncc_sample_s.Reads as ncc_sample_s
use Rattle.ncc_c.proofs.samplers.ncc_sample_s.Kinds as ncc_sample_s_kinds
use Rattle.ncc_c.proofs.samplers.ncc_sample_challenge.Reads as ncc_sample_challenge
use Rattle.ncc_c.proofs.samplers.ncc_sample_challenge.Kinds as ncc_sample_challenge_kinds
use Rattle.ncc_c.proofs.pack.ncc_pack_t1.Reads as ncc_pack_t1
use Rattle.ncc_c.proofs.pack.ncc_pack_t1.Kinds as ncc_pack_t1_kinds
use Rattle.ncc_c.proofs.pack.ncc_unpack_t1.Reads as ncc_unpack_t1
use Rattle.ncc_c.proofs.pack.ncc_unpack_t1.Kinds as ncc_unpack_t1_kinds
use Rattle.ncc_c.proofs.pack.ncc_pack_t0.Reads as ncc_pack_t0
use Rattle.ncc_c.proofs.pack.ncc_pack_t0.Kinds as ncc_pack_t0_kinds
use Rattle.ncc_c.proofs.pack.ncc_unpack_t0.Reads as ncc_unpack_t0
use Rattle.ncc_c.proofs.pack.ncc_unpack_t0.Kinds as ncc_unpack_t0_kinds
use Rattle.ncc_c.proofs.pack.ncc_pack_s.Reads as ncc_pack_s
use Rattle.ncc_c.proofs.pack.ncc_pack_s.Kinds as ncc_pack_s_kinds
use Rattle.ncc_c.proofs.pack.ncc_unpack_s.Reads as ncc_unpack_s
use Rattle.ncc_c.proofs.pack.ncc_unpack_s.Kinds as ncc_unpack_s_kinds
use Rattle.ncc_c.proofs.pack.ncc_pack_z.Reads as ncc_pack_z
use Rattle.ncc_c.proofs.pack.ncc_pack_z.Kinds as ncc_pack_z_kinds
use Rattle.ncc_c.proofs.pack.ncc_unpack_z.Reads as ncc_unpack_z
use Rattle.ncc_c.proofs.pack.ncc_unpack_z.Kinds as ncc_unpack_z_kinds
use Rattle.ncc_c.proofs.pack.ncc_pack_w1.Reads as ncc_pack_w1
use Rattle.ncc_c.proofs.pack.ncc_pack_w1.Kinds as ncc_pack_w1_kinds
use Rattle.ncc_c.proofs.pack.ncc_unpack_w1.Reads as ncc_unpack_w1
use Rattle.ncc_c.proofs.pack.ncc_unpack_w1.Kinds as ncc_unpack_w1_kinds
use Rattle.ncc_c.proofs.signatures.ncc_sign.Reads as ncc_sign
use Rattle.ncc_c.proofs.signatures.ncc_sign.Kinds as ncc_sign_kinds
use Rattle.ncc_c.proofs.signatures.ncc_make_keys.Reads as ncc_make_keys
use Rattle.ncc_c.proofs.signatures.ncc_make_keys.Kinds as ncc_make_keys_kinds
use Rattle.ncc_c.proofs.signatures.ncc_check.Reads as ncc_check
use Rattle.ncc_c.proofs.signatures.ncc_check.Kinds as ncc_check_kinds

-- ---- the hash

pub ncc_shake256_one : One 2 ncc_shake256_kinds.ps ncc_shake256_kinds.r ncc_shake256.Post (λ κs s. s.1.0.now)
ncc_shake256_one κs a x y s t p q = determined _ x y s.1.0.now t.1.0.now p q

-- ---- the ring

pub ncc_product_one : One 3 ncc_product_kinds.ps ncc_product_kinds.r ncc_product.Post (λ κs s. s.1.1.0.now)
ncc_product_one κs a x y s t p q = determined _ x y s.1.1.0.now t.1.1.0.now p q

-- ---- rounding and hints

pub ncc_high_bits_one : One 0 ncc_high_bits_kinds.ps ncc_high_bits_kinds.r ncc_high_bits.Post (λ κs s. tt {0})
ncc_high_bits_one κs a x y s t p q = (p ∙ sym q, refl)

pub ncc_low_bits_one : One 0 ncc_low_bits_kinds.ps ncc_low_bits_kinds.r ncc_low_bits.Post (λ κs s. tt {0})
ncc_low_bits_one κs a x y s t p q = (p ∙ sym q, refl)

pub ncc_make_hint_one : One 0 ncc_make_hint_kinds.ps ncc_make_hint_kinds.r ncc_make_hint.Post (λ κs s. tt {0})
ncc_make_hint_one κs a x y s t p q = (p ∙ sym q, refl)

pub ncc_use_hint_one : One 1 ncc_use_hint_kinds.ps ncc_use_hint_kinds.r ncc_use_hint.Post (λ κs s. s.1.1.0.now)
ncc_use_hint_one κs a x y s t p q = determined _ x y s.1.1.0.now t.1.1.0.now p q

pub ncc_power2_high_one : One 0 ncc_power2_high_kinds.ps ncc_power2_high_kinds.r ncc_power2_high.Post (λ κs s. tt {0})
ncc_power2_high_one κs a x y s t p q = (p ∙ sym q, refl)

pub ncc_power2_low_one : One 0 ncc_power2_low_kinds.ps ncc_power2_low_kinds.r ncc_power2_low.Post (λ κs s. tt {0})
ncc_power2_low_one κs a x y s t p q = (p ∙ sym q, refl)

-- ---- samplers

pub ncc_sample_a_one : One 2 ncc_sample_a_kinds.ps ncc_sample_a_kinds.r ncc_sample_a.Post (λ κs s. s.1.0.now)
ncc_sample_a_one κs a x y s t p q = determined _ x y s.1.0.now t.1.0.now p q

pub ncc_sample_s_one : One 2 ncc_sample_s_kinds.ps ncc_sample_s_kinds.r ncc_sample_s.Post (λ κs s. s.1.0.now)
ncc_sample_s_one κs a x y s t p q = determined _ x y s.1.0.now t.1.0.now p q

pub ncc_sample_challenge_one : One 2 ncc_sample_challenge_kinds.ps ncc_sample_challenge_kinds.r ncc_sample_challenge.Post (λ κs s. s.1.0.now)
ncc_sample_challenge_one κs a x y s t p q = determined _ x y s.1.0.now t.1.0.now p q

-- ---- packing

pub ncc_pack_t1_one : One 2 ncc_pack_t1_kinds.ps ncc_pack_t1_kinds.r ncc_pack_t1.Post (λ κs s. s.1.0.now)
ncc_pack_t1_one κs a x y s t p q = determined _ x y s.1.0.now t.1.0.now p q

pub ncc_unpack_t1_one : One 2 ncc_unpack_t1_kinds.ps ncc_unpack_t1_kinds.r ncc_unpack_t1.Post (λ κs s. s.1.0.now)
ncc_unpack_t1_one κs a x y s t p q = determined _ x y s.1.0.now t.1.0.now p q

pub ncc_pack_t0_one : One 2 ncc_pack_t0_kinds.ps ncc_pack_t0_kinds.r ncc_pack_t0.Post (λ κs s. s.1.0.now)
ncc_pack_t0_one κs a x y s t p q = determined _ x y s.1.0.now t.1.0.now p q

pub ncc_unpack_t0_one : One 2 ncc_unpack_t0_kinds.ps ncc_unpack_t0_kinds.r ncc_unpack_t0.Post (λ κs s. s.1.0.now)
ncc_unpack_t0_one κs a x y s t p q = determined _ x y s.1.0.now t.1.0.now p q

pub ncc_pack_s_one : One 2 ncc_pack_s_kinds.ps ncc_pack_s_kinds.r ncc_pack_s.Post (λ κs s. s.1.0.now)
ncc_pack_s_one κs a x y s t p q = determined _ x y s.1.0.now t.1.0.now p q

pub ncc_unpack_s_one : One 2 ncc_unpack_s_kinds.ps ncc_unpack_s_kinds.r ncc_unpack_s.Post (λ κs s. s.1.0.now)
ncc_unpack_s_one κs a x y s t p q = determined _ x y s.1.0.now t.1.0.now p q

pub ncc_pack_z_one : One 2 ncc_pack_z_kinds.ps ncc_pack_z_kinds.r ncc_pack_z.Post (λ κs s. s.1.0.now)
ncc_pack_z_one κs a x y s t p q = determined _ x y s.1.0.now t.1.0.now p q

pub ncc_unpack_z_one : One 2 ncc_unpack_z_kinds.ps ncc_unpack_z_kinds.r ncc_unpack_z.Post (λ κs s. s.1.0.now)
ncc_unpack_z_one κs a x y s t p q = determined _ x y s.1.0.now t.1.0.now p q

pub ncc_pack_w1_one : One 2 ncc_pack_w1_kinds.ps ncc_pack_w1_kinds.r ncc_pack_w1.Post (λ κs s. s.1.0.now)
ncc_pack_w1_one κs a x y s t p q = determined _ x y s.1.0.now t.1.0.now p q

pub ncc_unpack_w1_one : One 2 ncc_unpack_w1_kinds.ps ncc_unpack_w1_kinds.r ncc_unpack_w1.Post (λ κs s. s.1.0.now)
ncc_unpack_w1_one κs a x y s t p q = determined _ x y s.1.0.now t.1.0.now p q

-- ---- keys, signing, checking

pub ncc_make_keys_one : One 4 ncc_make_keys_kinds.ps ncc_make_keys_kinds.r ncc_make_keys.Post {B = Pair}
    (λ κs s. record { public = s.1.1.0.now; secret = s.1.1.1.0.now })
ncc_make_keys_one κs a x y s t p q =
    determined {B = Pair} _ x y record { public = s.1.1.0.now; secret = s.1.1.1.0.now } record { public = t.1.1.0.now; secret = t.1.1.1.0.now } p q

pub ncc_sign_one : One 3 ncc_sign_kinds.ps ncc_sign_kinds.r ncc_sign.Post (λ κs s. s.1.1.1.0.now)
ncc_sign_one κs a x y s t p q = determined _ x y s.1.1.1.0.now t.1.1.1.0.now p q

pub ncc_check_one : One 3 ncc_check_kinds.ps ncc_check_kinds.r ncc_check.Post (λ κs s. tt {0})
ncc_check_one κs a x y s t p q = (p ∙ sym q, refl)
