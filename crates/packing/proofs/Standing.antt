-- The parts of keys and signatures: how long they are, where they stand, and that parts written one after the other are the parts joined.
use mathlib.Core.Path.{◌≡◌, refl, sym, ap, ◌∙◌}
use mathlib.Core.List.{List, [], ◌∷◌, ◌++◌, append_assoc}
use Prim.Native.Nat.{ℕ, zero, suc, ◌+◌, ◌-◌, ◌≤◌, ◌<◌}
use native.Mathlib.Omega.{arith}
use lib.Dec.{lit<}
use lib.ListN.{length, get_or, take, drop, replicate, length-append, length-drop}
use lib.Seq.{length-take-le, take_at, drop_at, drop-drop}
use Rattle.std.specs.Prelude.{sum}
use Rattle.std.proofs.lemmas.List.{take-append-le, get_or_append_left}
use Rattle.std.proofs.lemmas.List.Sums.{sum_by-cons}
use borrow.Rule.Slice.PartMut.{put_mid, Post-is}
use Rattle.sets.specs.Set.{Set}
use Rattle.sets.specs.Good.{Good}
use Rattle.layouts.specs.declared.layout.Layout.{Layout}
use Rattle.packing.specs.declared.parts.Whole.{Whole}
use Rattle.packing.specs.declared.parts.Whole.TheVariants as whole
use Rattle.packing.specs.declared.parts.Part.{Part}
use Rattle.packing.specs.declared.parts.Part.TheVariants as part
use Rattle.layouts.specs.Layouts.{t1_layout, t0_layout, s_layout, z_layout, hint_layout, size}
use Rattle.packing.specs.Parts.{cut, join, total, part, parts_in, parts_of, whole_of, rank, bytes_of}
use Rattle.layouts.specs.Inner.{Readable}
use Rattle.packing.specs.Inner.{lengths, size_in, start_in, put}
use Rattle.layouts.proofs.Room.{bits_room, t1_readable, t0_readable, s_readable, z_readable, hint_readable}

-- ---- lengths
-- the definition's total is a sum
total_sum : (ms : List ℕ) → total ms ≡ sum ms
unfolding total
total_sum [] = refl
total_sum (m ∷ ms) = omega (arith, total_sum ms, sum_by-cons (λ (x : ℕ). x) m ms)

-- no part is long, so that the lengths' sum is small
pub few_bytes : (p : Set) → Good p → (w : Whole) → sum (lengths p w) ≤ 61440
few_bytes p G = by
  where
    few : (L : Layout) → Readable L p.q → size L p.n ≤ 10240
    few L R = let l = bits_room L.bits p.n R.width G.n_room in omega arith

    by : (w : Whole) → sum (lengths p w) ≤ 61440
    by whole.PublicKey = let t1 = few (t1_layout p) (t1_readable p G) in omega arith
    by whole.SecretKey =
        let s = few (s_layout p) (s_readable p G) in
        let t0 = few (t0_layout p) (t0_readable p G) in
        omega arith
    by whole.Signature =
        let z = few (z_layout p) (z_readable p G) in
        let h = few hint_layout (hint_readable p G) in
        omega arith
    by whole.Seeds = omega arith

-- past the last part the lengths are 0
padded : (p : Set) (w : Whole) → (n : ℕ) × (lengths p w ≡ parts_in p w ++ replicate n 0)
padded p whole.PublicKey = (4, refl)
padded p whole.SecretKey = (0, refl)
padded p whole.Signature = (3, refl)
padded p whole.Seeds = (3, refl)

pub whole_sum : (p : Set) (w : Whole) → sum (lengths p w) ≡ total (parts_in p w)
unfolding total
whole_sum p whole.PublicKey = omega arith
whole_sum p whole.SecretKey = omega arith
whole_sum p whole.Signature = omega arith
whole_sum p whole.Seeds = omega arith

rank_within : (p : Set) (x : Part) → rank x < length (parts_of p x)
rank_within p part.PublicZeta = lit< tt
rank_within p part.T1 = lit< tt
rank_within p part.SecretZeta = lit< tt
rank_within p part.Ph = lit< tt
rank_within p part.K = lit< tt
rank_within p part.S1 = lit< tt
rank_within p part.S2 = lit< tt
rank_within p part.T0 = lit< tt
rank_within p part.Commitment = lit< tt
rank_within p part.Z = lit< tt
rank_within p part.Hints = lit< tt
rank_within p part.Xi1 = lit< tt
rank_within p part.Xi2 = lit< tt
rank_within p part.NewK = lit< tt

-- a part ends within its whole
within : (ms : List ℕ) (i : ℕ) → total (take i ms) + get_or ms i 0 ≤ total ms
unfolding total
within [] zero = omega arith
within [] (suc i) = omega arith
within (m ∷ ms) zero = omega arith
within (m ∷ ms) (suc i) = omega (arith, within ms i)

pub part_within : (p : Set) (x : Part) → start_in p x + size_in p x ≤ total (parts_of p x)
part_within p x = within (parts_of p x) (rank x)

-- where a part starts and how long it is, by the lengths of its whole
module _ (p : Set) (x : Part) where
  pub start_is : sum (take (rank x) (lengths p (whole_of x))) ≡ start_in p x
  start_is =
      let e = padded p (whole_of x) in
      rw (e.1, take-append-le (rank x) (parts_of p x) (replicate e.0 0) (omega (arith, rank_within p x))) (sym (total_sum (take (rank x) (parts_of p x))))

  pub size_is : get_or (lengths p (whole_of x)) (rank x) 0 ≡ size_in p x
  size_is =
      let e = padded p (whole_of x) in
      rw (e.1, get_or_append_left (parts_of p x) (replicate e.0 0) 0 (rank x) (rank_within p x))

  pub end_few : Good p → start_in p x + size_in p x ≤ 61440
  end_few G = omega (arith, part_within p x, sym (whole_sum p (whole_of x)), few_bytes p G (whole_of x))

-- a part lies after the parts before it
part_at : (ms : List ℕ) (i : ℕ) (bs : List ℕ) → part ms i bs ≡ take (get_or ms i 0) (drop (total (take i ms)) bs)
unfolding cut total
part_at [] i bs = refl
part_at (m ∷ ms) zero bs = refl
part_at (m ∷ ms) (suc i) bs = part_at ms i (drop m bs) ∙ ap (take (get_or ms i 0)) (drop-drop (total (take i ms)) m bs)

-- what is lent of a whole is the part
pub part_lent : (p : Set) (x : Part) (start end : ℕ) (bs : List ℕ) → start ≡ start_in p x → end ≡ start_in p x + size_in p x
    → take (end - start) (drop start bs) ≡ bytes_of p x bs
part_lent p x start end bs s e =
    (λ i. take (lent i) (drop (s i) bs)) ∙ sym (part_at (parts_of p x) (rank x) bs)
  where
    lent : end - start ≡ size_in p x
    lent = omega arith

pub part_long : (p : Set) (x : Part) (bs : List ℕ) → length bs ≡ total (parts_of p x) → length (bytes_of p x bs) ≡ size_in p x
part_long p x bs l =
    ap length (part_at (parts_of p x) (rank x) bs) ∙
    length-take-le (size_in p x) (drop (start_in p x) bs) (omega (arith, length-drop (start_in p x) bs, part_within p x))

-- ---- writing
put_front : (front rest new : List ℕ) → put (length front) new (front ++ rest) ≡ (front ++ new) ++ drop (length new) rest
put_front front rest new =
    (λ i. take_at front rest (length front) refl i ++ (new ++ past i)) ∙ sym (append_assoc front new (drop (length new) rest))
  where
    past : drop (length front + length new) (front ++ rest) ≡ drop (length new) rest
    past = sym (drop-drop (length new) (length front) (front ++ rest)) ∙ ap (drop (length new)) (drop_at front rest (length front) refl)

-- parts written from place `at` on, one after the other, from `old` to `now`
abbrev pub Puts : ℕ → List (List ℕ) → List ℕ → List ℕ → Type 0
Puts at [] old now = now ≡ old
Puts at (x ∷ xs) old now = (a : ℕ) × (a ≡ at) × (more : List ℕ) × (more ≡ put a x old) × Puts (at + length x) xs more now

puts_after : (xs : List (List ℕ)) (at : ℕ) (front rest old now : List ℕ) → old ≡ front ++ rest → at ≡ length front → length rest ≡ length (join xs)
    → Puts at xs old now → now ≡ front ++ join xs
unfolding join
puts_after [] at front [] old now e a l P = P ∙ e
puts_after [] at front (r ∷ rest) old now e a l P = absurd (omega arith)
puts_after (x ∷ xs) at front rest old now e a l P =
    puts_after xs (at + length x) (front ++ x) (drop (length x) rest) P.2 now
    (P.3 ∙ (λ i. put ((P.1 ∙ a) i) x (e i)) ∙ put_front front rest x)
    (omega (arith, length-append front x))
    (length-drop (length x) rest ∙ omega (arith, length-append x (join xs)))
    P.4 ∙
    append_assoc front x (join xs)

pub puts_join : (xs : List (List ℕ)) (old now : List ℕ) → length old ≡ length (join xs) → Puts 0 xs old now → now ≡ join xs
puts_join xs old now l P = puts_after xs 0 [] old old now refl refl l P
