-- What checking reads and draws, step by step. The steps' memories are w0 to w5 and their answers r1 to r5.
use mathlib.Core.Path.{◌≡◌, refl, ◌∙◌}
use mathlib.Core.List.{List}
use Prim.Native.Nat.{ℕ}
use native.Mathlib.Omega.{arith}
use lib.IntN.{ℤ}
use Rattle.std.specs.Prelude.{Ok, Err, IsErrAnd}
use Rattle.std.proofs.lemmas.Result.{err_from_is_err_and}
use Rattle.sets.specs.Set.{Set}
use Rattle.answers.specs.declared.Field.TheVariants as field
use Rattle.answers.specs.declared.Refusal.{Refusal}
use Rattle.answers.specs.Refusals.{Answer}
use Rattle.answers.specs.Result.{done, refused}
use Rattle.answers.specs.Inner.{Gives}
use Rattle.answers.proofs.Outcomes.{gives}
use Rattle.answers.proofs.Giving.{gives_ill, bind_well, gives_then}
use Rattle.shake.specs.Shake.{shake256}
use Rattle.packing.specs.declared.parts.Part.TheVariants as part
use Rattle.layouts.specs.Hints.{read_hints}
use Rattle.packing.specs.Parts.{PublicKey, Signature, bytes_of, field_in, read_public, read_signature}
use Rattle.sampling.specs.Samplers.{drawn}
use Rattle.streams.specs.Streams.{expand_a, expand_c}
use Rattle.workspace.specs.declared.Place.TheVariants as place
use Rattle.workspace.specs.Inner.{Holds, Fills}
use Rattle.workspace.proofs.Holding.{holds_kept}
use Rattle.workspace.proofs.HintBits.{bits_read}
use Rattle.checking.specs.Inner.{Inputs, inputs, Opens, Loaded}

module _ (p : Set) (pk σ : List ℕ) where
  -- all is there
  abbrev There : List ℕ → Inputs → Type 0
  There work i = Opens p σ i × Loaded p i work

  abbrev InputsIn : List ℕ → Answer → Type 0
  InputsIn work r = Gives (inputs p shake256 pk σ) (There work) r

  -- the exit of a `?`
  exit : {work : List ℕ} {why : Refusal} → inputs p shake256 pk σ ≡ refused why → {s : Answer} → IsErrAnd s (λ y. y ≡ why) → InputsIn work s
  exit {why = why} e {s = s} i =
      let b = err_from_is_err_and s i in
      rw (b.1, b.2) (gives_ill why e)

  module _ {w0 w1 : List ℕ} {r1 : Answer} (f1 : Fills p place.T1 (field_in p field.T1 part.T1 pk) w0 r1 w1) where
    pub no_t1 : {why : Refusal} → r1 ≡ Err why → {s : Answer} → IsErrAnd s (λ y. y ≡ why) → InputsIn w1 s
    unfolding inputs read_public
    no_t1 {why} e = exit (rw (f1.gives.ill why e))

    module _ (d1 : r1 ≡ Ok tt) where
      abbrev key : PublicKey
      key = record { zeta = bytes_of p part.PublicZeta pk; t1 = (f1.gives.well d1).0 }

      key_read : read_public p pk ≡ done key
      unfolding read_public
      key_read = gives _ (f1.gives.well d1).0 _ (f1.gives.well d1).1

      module _ {w2 : List ℕ} {r2 : Answer} (f2 : Fills p place.Z (field_in p field.Z part.Z σ) w1 r2 w2) where
        pub no_z : {why : Refusal} → r2 ≡ Err why → {s : Answer} → IsErrAnd s (λ y. y ≡ why) → InputsIn w2 s
        unfolding inputs read_signature
        no_z {why} e = exit (rw (key_read, f2.gives.ill why e))

        module _ (d2 : r2 ≡ Ok tt) {w3 : List ℕ} {r3 : Answer} (f3 : Fills p place.Hints (read_hints p (bytes_of p part.Hints σ)) w2 r3 w3) where
          pub no_hints : {why : Refusal} → r3 ≡ Err why → {s : Answer} → IsErrAnd s (λ y. y ≡ why) → InputsIn w3 s
          unfolding inputs read_signature
          no_hints {why} e = exit (rw (key_read, (f2.gives.well d2).1, f3.gives.ill why e))

          module _ (d3 : r3 ≡ Ok tt) where
            abbrev signature : Signature
            signature = record { c~ = bytes_of p part.Commitment σ; z = (f2.gives.well d2).0; h = (f3.gives.well d3).0 }

            signature_read : read_signature p σ ≡ done signature
            unfolding read_signature
            signature_read = gives _ (f2.gives.well d2).0 _ (f2.gives.well d2).1 ∙ gives _ (f3.gives.well d3).0 _ (f3.gives.well d3).1

            module _ {w4 : List ℕ} {r4 : Answer} {ζ : List ℕ} (is_ζ : ζ ≡ bytes_of p part.PublicZeta pk)
                (filled_a : Fills p place.A (expand_a p shake256 ζ) w3 r4 w4) where
              f4 : Fills p place.A (expand_a p shake256 (bytes_of p part.PublicZeta pk)) w3 r4 w4
              f4 = rw is_ζ at filled_a

              pub no_a : {why : Refusal} → r4 ≡ Err why → {s : Answer} → IsErrAnd s (λ y. y ≡ why) → InputsIn w4 s
              unfolding inputs
              no_a {why} e = exit (rw (key_read, signature_read, f4.gives.ill why e))

              module _ (d4 : r4 ≡ Ok tt) {w5 : List ℕ} {r5 : Answer} {c~ : List ℕ} (is-c~ : c~ ≡ bytes_of p part.Commitment σ)
                  (filled_c : Fills p place.C (drawn (expand_c p shake256 c~)) w4 r5 w5) where
                f5 : Fills p place.C (drawn (expand_c p shake256 (bytes_of p part.Commitment σ))) w4 r5 w5
                f5 = rw is-c~ at filled_c

                abbrev a : List ℤ
                a = (f4.gives.well d4).0

                held : (c : List ℤ) → drawn (expand_c p shake256 (bytes_of p part.Commitment σ)) ≡ done c → Holds p place.C c w5
                    → There w5 record { key = key; signature = signature; a = a; c = c }
                held c e h = (
                  refl,
                  record {
                    a = holds_kept f5.touched (λ x. omega arith) (f4.gives.well d4).2;
                    z =
                        holds_kept f5.touched (λ x. omega arith)
                        (holds_kept f4.touched (λ x. omega arith) (holds_kept f3.touched (λ x. omega arith) (f2.gives.well d2).2));
                    t1 =
                        holds_kept f5.touched (λ x. omega arith)
                        (holds_kept f4.touched (λ x. omega arith)
                        (holds_kept f3.touched (λ x. omega arith) (holds_kept f2.touched (λ x. omega arith) (f1.gives.well d1).2)));
                    hints = holds_kept f5.touched (λ x. omega arith) (holds_kept f4.touched (λ x. omega arith) (f3.gives.well d3).2);
                    c = h;
                    bits = bits_read p _ _ (f3.gives.well d3).1;
                  },
                )

                pub all_there : InputsIn w5 r5
                unfolding inputs
                all_there =
                    bind_well _ key key_read (bind_well _ signature signature_read (bind_well _ a (f4.gives.well d4).1 (gives_then _ held f5.gives)))
