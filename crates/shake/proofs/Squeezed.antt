-- Laws of squeezing a block at a time. Assumes nothing.
use Rattle.std.proofs.Common.{◌≡◌, ℕ, zero, suc, ◌+◌, ◌-◌, ◌/◌, ◌≤◌, ◌<◌, List, [], ◌∷◌, ◌++◌, length, get_or, take, drop, refl, ap, ◌∙◌, arith, add-one, append-nil, append_assoc, length-drop, take_all}
use Rattle.std.proofs.lemmas.List.{take-append-le, drop_all}
use Rattle.std.proofs.lemmas.Slice.{take-put_mid}
use Rattle.std.proofs.Math.Seq.{take-append-add}
use borrow.Rule.Slice.PartMut.{put_mid}
use Rattle.std.proofs.Math.Nat.{div-one}
use Rattle.std.specs.List.{flat_map}
use Rattle.keccak.specs.Keccak.{keccak}
use Rattle.shake.specs.Shake.{bytes, squeezed}
use Rattle.shake.specs.Inner.{lanes_bytes}

-- the bytes of a state's rows are those of the state
pub flat_rows : (a : List (List ℕ))
    → flat_map (λ l. l) (flat_map (λ r. r)
    (lanes_bytes (get_or a 0 []) ∷ lanes_bytes (get_or a 1 []) ∷ lanes_bytes (get_or a 2 []) ∷ lanes_bytes (get_or a 3 []) ∷ lanes_bytes (get_or a 4 []) ∷ [])) ≡ bytes 200 0 a
unfolding bytes
flat_rows a = simp div-one

pub length-bytes : (n i : ℕ) (s : List (List ℕ)) → length (bytes n i s) ≡ n
unfolding bytes
length-bytes zero i s = refl
length-bytes (suc n) i s = ap suc (length-bytes n (i + 1) s)

pub take-bytes : (m n i : ℕ) (s : List (List ℕ)) → m ≤ n → take m (bytes n i s) ≡ bytes m i s
unfolding bytes
take-bytes zero n i s h = refl
take-bytes (suc m) zero i s h = absurd (omega arith)
take-bytes (suc m) (suc n) i s h = rw (take-bytes m n (i + 1) s (omega arith)) refl

-- n bytes
unfoldable pub stream : ℕ → List (List ℕ) → List ℕ
stream n s = take n (squeezed (n / 136 + 1) s)

pub stream_block : (n : ℕ) (s : List (List ℕ)) → 136 ≤ n → stream n s ≡ bytes 136 0 s ++ stream (n - 136) (keccak s)
unfolding stream squeezed
stream_block n s h =
    let more : n / 136 ≡ (n - 136) / 136 + 1 = omega arith in
    let e : n ≡ length (bytes 136 0 s) + (n - 136) = omega (arith, length-bytes 136 0 s) in
    rw (add-one (n / 136), more) (ap (λ (m : ℕ). take m (bytes 136 0 s ++ squeezed ((n - 136) / 136 + 1) (keccak s))) e ∙ take-append-add (bytes 136 0 s) _ (n - 136))

pub stream_last : (n : ℕ) (s : List (List ℕ)) → n ≤ 136 → stream n s ≡ take n (bytes 136 0 s)
unfolding stream squeezed
stream_last n s h = rw (add-one (n / 136)) (take-append-le n (bytes 136 0 s) (squeezed (n / 136) (keccak s)) (omega (arith, length-bytes 136 0 s)))

-- ---- out has all up to at, of which the rest is to come from the state s

module _ (n at : ℕ) (out all : List ℕ) (s : List (List ℕ)) (long : length out ≡ n) (sofar : take at out ++ stream (n - at) (keccak s) ≡ all) where
  pub block_written : {t : List (List ℕ)} {copy : List ℕ} → at + 136 ≤ n → t ≡ keccak s → copy ≡ bytes 136 0 t
      → take (at + 136) (put_mid at (at + 136 - at) out copy) ++ stream (n - (at + 136)) (keccak t) ≡ all
  block_written {t} {copy} h f g =
      let l : length copy ≡ 136 = ap length g ∙ length-bytes 136 0 t in
      let rest : n - at - 136 ≡ n - (at + 136) = omega arith in
      rw (take-put_mid at (at + 136 - at) out copy (at + 136) (omega arith) (omega arith), g, append_assoc (take at out) (bytes 136 0 t) _, f)
      (rw (stream_block (n - at) (keccak s) (omega arith), rest) at sofar)

  pub rest_written : {t : List (List ℕ)} {copy : List ℕ} → n - at < 136 → at ≤ n → t ≡ keccak s → copy ≡ take (n - at) (bytes 136 0 t)
      → put_mid at (length out - at) out copy ≡ all
  rest_written {t} {copy} h m f g =
      rw (drop_all (length out - at) (drop at out) (omega (arith, length-drop at out)), append-nil copy, g, f)
      (rw (stream_last (n - at) (keccak s) (omega arith)) at sofar)

  pub nothing_left : n ≤ at → out ≡ all
  unfolding stream
  nothing_left l =
      let none : n - at ≡ 0 = omega arith in
      rw (take_all at out (omega arith), none, append-nil) at sofar
