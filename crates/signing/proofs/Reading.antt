-- The secret key read into the memory is the definition's key.
use mathlib.Core.Path.{◌≡◌, refl, sym, ap, ◌∙◌}
use mathlib.Core.List.{List, [], ◌∷◌, map}
use Prim.Native.Nat.{ℕ, suc, ◌<◌}
use native.Mathlib.Omega.{arith}
use lib.IntN.{ℤ, pos}
use lib.ListN.{length, get_or}
use Rattle.std.specs.Prelude.{Ok, Err, IsErrAnd}
use Rattle.std.proofs.lemmas.Result.{err_from_is_err_and}
use Rattle.sets.specs.Set.{Set}
use Rattle.sets.specs.Good.{Trinomial}
use Rattle.answers.specs.declared.Field.{Field}
use Rattle.answers.specs.declared.Field.TheVariants as field
use Rattle.answers.specs.declared.Refusal.{Refusal}
use Rattle.answers.specs.declared.Refusal.TheVariants.{Coefficient}
use Rattle.answers.specs.Refusals.{Answer}
use Rattle.answers.specs.Result.{done, refused}
use Rattle.answers.specs.Inner.{Gives}
use Rattle.answers.proofs.Giving.{gives_ill, bind_well, gives_then}
use Rattle.residues.specs.Remainder.{residue}
use Rattle.residues.proofs.Remainders.{residue_small}
use Rattle.rounding.proofs.Congruent.{q_pos}
use Rattle.shake.specs.Shake.{shake256}
use Rattle.packing.specs.declared.parts.Part.{Part}
use Rattle.packing.specs.declared.parts.Part.TheVariants as part
use Rattle.packing.specs.Parts.{bytes_of, field_in, read_secret}
use Rattle.layouts.proofs.Room.{field_readable}
use Rattle.streams.specs.Streams.{expand_a}
use Rattle.streams.proofs.Drawn.{expanded_a}
use Rattle.workspace.specs.declared.Place.{Place}
use Rattle.workspace.specs.declared.Place.TheVariants as place
use Rattle.workspace.specs.Inner.{slot, values, Room, Holds, Fills}
use Rattle.workspace.proofs.Holding.{residues_of, holds_kept, room_kept, ready_first, ready_next}
use Rattle.workspace.proofs.Packing.{back_read}
use Rattle.scheme.specs.Sign.{read_key}
use Rattle.signing.specs.Inner.{KeyHeld}

-- a, from its remainders
module _ (p : Set) (T : Trinomial p) where
  plain_again : (a : List ℤ) → ((k : ℕ) → k < length a → (v : ℕ) × (get_or a k (pos 0) ≡ pos v) × (v < p.q)) → map pos (map (residue p.q) a) ≡ a
  plain_again [] h = refl
  plain_again (x ∷ a) h = λ i. first i ∷ plain_again a (λ k l. h (suc k) (omega arith)) i
    where
      first : pos (residue p.q x) ≡ x
      first = let v = h 0 (omega arith) in ap (λ (y : ℤ). pos (residue p.q y)) v.1 ∙ ap pos (residue_small p.q (q_pos p T.good) v.0 v.2) ∙ sym v.1

  plain_back : (ζ : List ℕ) (a : List ℤ) → expand_a p shake256 ζ ≡ done a → {work : List ℕ} → Holds p place.A a work → map pos (slot p place.A work) ≡ a
  plain_back ζ a e H =
      let E = expanded_a p shake256 ζ a e in
      ap (map pos) H.here ∙ plain_again a (λ k l. E.each k (omega (arith, E.long)))

module _ (p : Set) (sk : List ℕ) where
  abbrev KeyIn : List ℕ → Answer → Type 0
  KeyIn work r = Gives (read_key p shake256 sk) (λ k. KeyHeld p k work) r

  -- the exit of a `?`
  exit : {work : List ℕ} {why : Refusal} → read_key p shake256 sk ≡ refused why → {s : Answer} → IsErrAnd s (λ y. y ≡ why) → KeyIn work s
  exit {why = why} e {s = s} i =
      let b = err_from_is_err_and s i in
      rw (b.1, b.2) (gives_ill why e)

  module _ {w0 w1 : List ℕ} {r1 : Answer} (f1 : Fills p place.S1 (field_in p field.S1 part.S1 sk) w0 r1 w1) where
    pub no_s1 : {why : Refusal} → r1 ≡ Err why → {s : Answer} → IsErrAnd s (λ y. y ≡ why) → KeyIn w1 s
    unfolding read_key read_secret
    no_s1 {why} e = exit (rw (f1.gives.ill why e))

    module _ (d1 : r1 ≡ Ok tt) {w2 : List ℕ} {r2 : Answer} (f2 : Fills p place.S2 (field_in p field.S2 part.S2 sk) w1 r2 w2) where
      abbrev s1 : List ℤ
      s1 = (f1.gives.well d1).0

      pub no_s2 : {why : Refusal} → r2 ≡ Err why → {s : Answer} → IsErrAnd s (λ y. y ≡ why) → KeyIn w2 s
      unfolding read_key read_secret
      no_s2 {why} e = exit (rw ((f1.gives.well d1).1, f2.gives.ill why e))

      module _ (d2 : r2 ≡ Ok tt) {w3 : List ℕ} {r3 : Answer} (f3 : Fills p place.T0 (field_in p field.T0 part.T0 sk) w2 r3 w3) where
        abbrev s2 : List ℤ
        s2 = (f2.gives.well d2).0

        pub no_t0 : {why : Refusal} → r3 ≡ Err why → {s : Answer} → IsErrAnd s (λ y. y ≡ why) → KeyIn w3 s
        unfolding read_key read_secret
        no_t0 {why} e = exit (rw ((f1.gives.well d1).1, (f2.gives.well d2).1, f3.gives.ill why e))

        module _ (T : Trinomial p) (room : Room p w0) (d3 : r3 ≡ Ok tt) {w4 : List ℕ} {r4 : Answer} {ζ : List ℕ} (is_ζ : ζ ≡ bytes_of p part.SecretZeta sk)
            (filled : Fills p place.A (expand_a p shake256 ζ) w3 r4 w4) where
          f4 : Fills p place.A (expand_a p shake256 (bytes_of p part.SecretZeta sk)) w3 r4 w4
          f4 = rw is_ζ at filled

          abbrev t0 : List ℤ
          t0 = (f3.gives.well d3).0

          in-s1 : Holds p place.S1 s1 w4
          in-s1 =
              holds_kept f4.touched (λ x. omega arith)
              (holds_kept f3.touched (λ x. omega arith) (holds_kept f2.touched (λ x. omega arith) (f1.gives.well d1).2))

          in-s2 : Holds p place.S2 s2 w4
          in-s2 = holds_kept f4.touched (λ x. omega arith) (holds_kept f3.touched (λ x. omega arith) (f2.gives.well d2).2)

          in-t0 : Holds p place.T0 t0 w4
          in-t0 = holds_kept f4.touched (λ x. omega arith) (f3.gives.well d3).2

          secret_read : read_secret p sk ≡ done record {
            zeta = bytes_of p part.SecretZeta sk;
            ph = bytes_of p part.Ph sk;
            k = bytes_of p part.K sk;
            s1 = s1;
            s2 = s2;
            t0 = t0;
          }
          unfolding read_secret
          secret_read = rw ((f1.gives.well d1).1, (f2.gives.well d2).1, (f3.gives.well d3).1)

          -- what was read from a place is what lies there
          same : (f : Field) (x : Part) {k : Place} {v : List ℤ} → field_in p f x sk ≡ done v → Holds p k v w4 → v ≡ values p k w4
          same f x e h = sym (back_read p T _ (field_readable p T.good f) (Coefficient f) _ e h).same

          held : (a : List ℤ) → expand_a p shake256 (bytes_of p part.SecretZeta sk) ≡ done a → Holds p place.A a w4
              → KeyHeld p (record { a = a; s1 = s1; s2 = s2; t0 = t0 }) w4
          held a e h =
              let same1 = same field.S1 part.S1 (f1.gives.well d1).1 in-s1 in
              let same2 = same field.S2 part.S2 (f2.gives.well d2).1 in-s2 in
              let same3 = same field.T0 part.T0 (f3.gives.well d3).1 in-t0 in
              record {
                is = λ i. record { a = sym (plain_back p T _ a e h) i; s1 = same1 i; s2 = same2 i; t0 = same3 i };
                ready =
                    ready_next {k = place.S2} refl
                    (ready_next {k = place.S1} refl
                    (ready_next {k = place.A} refl
                    (ready_first refl (room_kept f4.touched (room_kept f3.touched (room_kept f2.touched (room_kept f1.touched room))))
                    (residues_of p T.good h))
                    (residues_of p T.good in-s1))
                    (residues_of p T.good in-s2))
                    (residues_of p T.good in-t0);
              }

          pub key_read : KeyIn w4 r4
          unfolding read_key
          key_read = bind_well _ _ secret_read (gives_then _ held f4.gives)
