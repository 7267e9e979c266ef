-- What callers ask of SHAKE256's output besides its value: its length, that it is bytes, and that a shorter one is its beginning. Assumes nothing.
use Rattle.std.proofs.Common.{◌≡◌, ℕ, zero, suc, ◌+◌, ◌*◌, ◌/◌, ◌-◌, ◌≤◌, ◌<◌, List, [], ◌∷◌, ◌++◌, get_or, take, length, refl, ap, ◌∙◌, arith, append_assoc, length-append, length-take-le, take-take}
use Rattle.std.proofs.Math.Nat.{zero-add, suc-add}
use Rattle.std.proofs.lemmas.List.{take-append-le}
use Rattle.keccak.specs.Keccak.{keccak}
use Rattle.shake.specs.Shake.{bytes, absorbed, squeezed, padded, zeros, shake256}
use Rattle.shake.proofs.Squeezed.{length-bytes}

length-squeezed : (n : ℕ) (s : List (List ℕ)) → length (squeezed n s) ≡ 136 * n
unfolding squeezed
length-squeezed zero s = refl
length-squeezed (suc n) s = omega (arith, length-append (bytes 136 0 s) (squeezed n (keccak s)), length-bytes 136 0 s, length-squeezed n (keccak s))

pub length_shake256 : (m : List ℕ) (n : ℕ) → length (shake256 m n) ≡ n
unfolding shake256
length_shake256 m n =
    let s = absorbed (length m / 136 + 1) (padded m) zeros in
    length-take-le n (squeezed (n / 136 + 1) s) (omega (arith, length-squeezed (n / 136 + 1) s))

-- ---- bytes

byte_bytes : (n i : ℕ) (s : List (List ℕ)) (k : ℕ) → get_or (bytes n i s) k 0 < 256
unfolding bytes
byte_bytes zero i s k = omega arith
byte_bytes (suc n) i s zero = omega arith
byte_bytes (suc n) i s (suc k) = byte_bytes n (i + 1) s k

byte_append : (p q : List ℕ) → ((k : ℕ) → get_or p k 0 < 256) → ((k : ℕ) → get_or q k 0 < 256) → (k : ℕ) → get_or (p ++ q) k 0 < 256
byte_append [] q hp hq k = hq k
byte_append (b ∷ p) q hp hq zero = hp 0
byte_append (b ∷ p) q hp hq (suc k) = byte_append p q (λ j. hp (suc j)) hq k

byte_squeezed : (n : ℕ) (s : List (List ℕ)) (k : ℕ) → get_or (squeezed n s) k 0 < 256
unfolding squeezed
byte_squeezed zero s k = omega arith
byte_squeezed (suc n) s k = byte_append (bytes 136 0 s) (squeezed n (keccak s)) (byte_bytes 136 0 s) (byte_squeezed n (keccak s)) k

byte_take : (n : ℕ) (p : List ℕ) → ((k : ℕ) → get_or p k 0 < 256) → (k : ℕ) → get_or (take n p) k 0 < 256
byte_take zero p h k = omega arith
byte_take (suc n) [] h k = omega arith
byte_take (suc n) (b ∷ p) h zero = h 0
byte_take (suc n) (b ∷ p) h (suc k) = byte_take n p (λ j. h (suc j)) k

pub byte_shake256 : (m : List ℕ) (n k : ℕ) → get_or (shake256 m n) k 0 < 256
unfolding shake256
byte_shake256 m n = byte_take n _ (byte_squeezed (n / 136 + 1) _)

-- ---- a shorter output

after : ℕ → List (List ℕ) → List (List ℕ)
after zero s = s
after (suc n) s = after n (keccak s)

squeezed-add : (n k : ℕ) (s : List (List ℕ)) → squeezed (n + k) s ≡ squeezed n s ++ squeezed k (after n s)
unfolding squeezed after
squeezed-add zero k s = rw zero-add refl
squeezed-add (suc n) k s = rw (suc-add n k, squeezed-add n k (keccak s), append_assoc) refl

take-squeezed : (n k : ℕ) (s : List (List ℕ)) (j : ℕ) → j ≤ 136 * n → n ≤ k → take j (squeezed k s) ≡ take j (squeezed n s)
take-squeezed n k s j h hk =
    let e : k ≡ n + (k - n) = omega arith in
    ap (λ (i : ℕ). take j (squeezed i s)) e ∙ ap (take j) (squeezed-add n (k - n) s) ∙
    take-append-le j (squeezed n s) (squeezed (k - n) (after n s)) (omega (arith, length-squeezed n s))

pub prefix_shake256 : (m : List ℕ) (n k : ℕ) → k ≤ n → take k (shake256 m n) ≡ shake256 m k
unfolding shake256
prefix_shake256 m n k h =
    take-take k n _ h ∙ take-squeezed (k / 136 + 1) (n / 136 + 1) _ k (omega arith) (omega arith)
