-- Laws of the buffer of a block, of which the first n bytes are in use. Assumes nothing.
use Rattle.std.proofs.Common.{◌≡◌, ℕ, ◌+◌, ◌-◌, ◌*◌, ◌/◌, ◌<◌, List, ◌++◌, length, take, drop, refl, arith, append-nil, length-append, length-drop, length-take-le, take_at}
use Rattle.std.proofs.lemmas.List.{drop_all}
use Rattle.std.proofs.lemmas.Slice.{take-put_mid}
use Rattle.std.specs.List.{fold}
use Rattle.std.specs.Simd.{first_chunks}
use borrow.Rule.Slice.PartMut.{put_mid}
use Rattle.keccak.specs.Keccak.{keccak}
use Rattle.shake.specs.Shake.{xored}
use Rattle.shake.specs.Inner.{taken}
use Rattle.shake.proofs.Blocks.{taken_short, taken_blocks}

module _ (held : List ℕ) (n : ℕ) (long : length held ≡ 136) (room : n < 136) where
  -- a part that fills no block
  pub held_short : (s : List (List ℕ)) (m : List ℕ) {copy : List ℕ} → length m < 136 - n → copy ≡ m
      → taken (s, take n held) m ≡ (s, take (n + length m) (put_mid n (n + length m - n) held copy))
  held_short s m h e =
      let used = length-take-le n held (omega arith) in
      let after = take-put_mid n (n + length m - n) held m (n + length m) refl (omega arith) in
      rw (e, after) (taken_short s (take n held) m (omega (arith, used)))

  pub full : (start : List ℕ) → put_mid n (136 - n) held start ≡ take n held ++ start
  full start =
      rw (drop_all (136 - n) (drop n held) (omega (arith, length-drop n held)), append-nil start) refl

  -- one that does
  pub held_long : (s : List (List ℕ)) (m start rest more : List ℕ) {copy copied last : List ℕ} {blocks t u : List (List ℕ)} → m ≡ start ++ rest → length start ≡ 136 - n
      → copy ≡ start → t ≡ keccak (xored s (put_mid n (136 - n) held copy))
      → blocks ≡ first_chunks 136 (length rest / 136) rest → u ≡ fold (λ s b. keccak (xored s b)) t blocks
      → last ≡ drop (length rest / 136 * 136) rest → copied ≡ last
      → taken (s, take n held) m ≡ (u, take (length last) (copied ++ more))
  held_long s m start rest more {copy} {copied} {last} e h f g i j k l =
      let used = length-take-le n held (omega arith) in
      let filled : length (take n held ++ start) ≡ 136 = omega (arith, length-append (take n held) start, used) in
      rw (e, j, g, f, full start, l, take_at last more (length last) refl) (taken_blocks s (take n held) start rest filled i k)
