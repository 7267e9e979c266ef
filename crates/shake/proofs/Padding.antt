-- Laws of the last block: what is held of the message, the suffix and the padding. Assumes nothing.
use Rattle.std.proofs.Common.{◌≡◌, ℕ, zero, suc, ◌+◌, ◌-◌, ◌<◌, List, [], ◌∷◌, ◌++◌, length, take, drop, set, get_or, replicate, refl, ◌∙◌, arith, add-one, append_assoc, length-append, length-drop, length-take-le}
use Rattle.std.proofs.lemmas.List.{set_at, get_or_at, length-replicate, replicate_more}
use Rattle.std.specs.Int.Bits.{bit_or}
use borrow.Rule.Slice.PartMut.{put_mid}
use Rattle.shake.specs.Shake.{pad}
use Rattle.shake.proofs.Held.{full}

-- zeros but for the first and the last of q bytes behind p
ends_set : (q : ℕ) (p : List ℕ) (n : ℕ) → length p ≡ n → 0 < q → n + q ≡ 136
    → set (set (p ++ replicate q 0) n 0x1f) 135 (bit_or (get_or (set (p ++ replicate q 0) n 0x1f) 135 0) 0x80) ≡ p ++ pad q
ends_set zero p n l h e = absurd (omega arith)
ends_set (suc zero) p n l h e =
    let m : length p ≡ 135 = omega arith in
    rw (set_at p 0 [] 0x1f n l, get_or_at p 0x1f [] 0 135 m) (set_at p 0x1f [] 0x9f 135 m)
ends_set (suc (suc k)) p n l h e =
    let b = p ++ (0x1f ∷ replicate k 0) in
    let m : length b ≡ 135 = omega (arith, length-append p (0x1f ∷ replicate k 0), length-replicate {A = ℕ} k 0) in
    let first : set (p ++ replicate (suc (suc k)) 0) n 0x1f ≡ b ++ (0 ∷ []) =
    rw (set_at p 0 (replicate (suc k) 0) 0x1f n l, append_assoc p (0x1f ∷ replicate k 0) (0 ∷ []), replicate_more {X = ℕ} k 0, add-one) refl in
    rw (first, get_or_at b 0 [] 0 135 m) (set_at b 0 [] 0x80 135 m ∙ append_assoc p (0x1f ∷ replicate k 0) (0x80 ∷ []))

-- what is done to the buffer, of which n bytes are in use
pub held_padded : (held : List ℕ) (n : ℕ) {zeros : List ℕ} → length held ≡ 136 → n < 136 → zeros ≡ replicate (length (take (136 - n) (drop n held))) 0
    → (b : List ℕ) → b ≡ put_mid n (136 - n) held zeros
    → set (set b n 0x1f) 135 (bit_or (get_or (set b n 0x1f) 135 0) 0x80) ≡ take n held ++ pad (136 - length (take n held))
held_padded held n long room z b e =
    let used = length-take-le n held (omega arith) in
    let rest = length-take-le (136 - n) (drop n held) (omega (arith, length-drop n held)) in
    rw (e, z, rest, full held n long room (replicate (136 - n) 0), used) (ends_set (136 - n) (take n held) n used (omega arith) (omega arith))
