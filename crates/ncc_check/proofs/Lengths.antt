-- An input that ends before the message begins is number 1, and one byte more than the longest is number 2 (SPEC 11.1). What is lent to checking are
-- the parts of any other input. The code's numbers are `key` and `signature`.
use mathlib.Core.Path.{◌≡◌, refl, ap, ◌∙◌}
use mathlib.Core.Bool.{Bool, true, false}
use mathlib.Core.List.{List}
use Prim.Native.Nat.{ℕ, ◌+◌, ◌-◌, ◌<◌}
use native.Mathlib.Omega.{arith}
use borrow.Author.Tests.{eq-eqb, ne_eqb, lt-leb}
use lib.Dec.{eqb}
use lib.ListN.{length, take, drop, length-take, length-drop}
use lib.Seq.{take_all}
use Rattle.sets.specs.Set.{set1, message_max}
use Rattle.answers.specs.declared.Buffer.{Buffer}
use Rattle.answers.specs.declared.Refusal.TheVariants.{Length, LongMessage}
use Rattle.answers.specs.declared.Report.{Report}
use Rattle.answers.specs.Result.{Result, ◌>>◌, need, told}
use Rattle.shake.specs.Shake.{shake256}
use Rattle.packing.specs.Parts.{public_size, signature_size}
use Rattle.packing.proofs.WholesOfSet1.{signature_size_lem}
use Rattle.scheme.specs.Check.{check}
use Rattle.ncc_check.specs.Input.{key_in, signature_in, message_in, number_from}

record Says {A : Type 0} (k : ℕ) (m : Result A) : Type 0 where
  number : (told m).number ≡ k

-- whatever the first length is, a second one that is wrong makes it 1
wrong_second : {A : Type 0} (b c : Bool) (r s : Buffer) (m : Result A) → c ≡ false → Says 1 (need b (Length r) >> (need c (Length s) >> m))
wrong_second true c r s m e = record { number = ap (λ (x : Bool). (told (need x (Length s) >> m)).number) e }
wrong_second false c r s m e = record { number = refl }

-- two right lengths and a long message make it 2
long_third : {A : Type 0} (a b c : Bool) (r s : Buffer) (m : Result A) → a ≡ true → b ≡ true → c ≡ false
    → Says 2 (need a (Length r) >> (need b (Length s) >> (need c LongMessage >> m)))
long_third a b c r s m e f g =
    record {
      number =
          ap (λ (x : Bool). (told (need x (Length r) >> (need b (Length s) >> (need c LongMessage >> m)))).number) e ∙
          ap (λ (x : Bool). (told (need x (Length s) >> (need c LongMessage >> m))).number) f ∙
          ap (λ (x : Bool). (told (need x LongMessage >> m)).number) g;
    }

module _ (input : List ℕ) where
  says : ℕ → Type 0
  says k = Says k (check set1 shake256 (key_in input) (signature_in input) (message_in input))

  short : length input < public_size set1 + signature_size set1 → says 1
  unfolding says check
  short h =
      wrong_second (eqb (length (key_in input)) (public_size set1)) _ _ _ _
      (ne_eqb (length (signature_in input)) (signature_size set1)
      (λ e. omega (arith, length-take (signature_size set1) (drop (public_size set1) input), length-drop (public_size set1) input, signature_size_lem)))

  long : public_size set1 + signature_size set1 + message_max < length input → says 2
  unfolding says check
  long h =
      long_third _ _ _ _ _ _
      (eq-eqb (length (key_in input)) (public_size set1) (omega (arith, length-take (public_size set1) input)))
      (eq-eqb (length (signature_in input)) (signature_size set1)
      (omega (arith, length-take (signature_size set1) (drop (public_size set1) input), length-drop (public_size set1) input)))
      (lt-leb (length (message_in input)) message_max (omega (arith, length-drop (public_size set1 + signature_size set1) input)))

  pub long_is_2 : public_size set1 + signature_size set1 + message_max < length input → number_from input ≡ 2
  unfolding says
  long_is_2 h = (long h).number

  module _ (key signature : ℕ) (is_key : key ≡ public_size set1) (is_signature : signature ≡ signature_size set1) where
    pub short_is_1 : length input < key + signature → number_from input ≡ 1
    unfolding says
    short_is_1 h = (short (omega (arith, is_key, is_signature))).number

    abbrev number_with : ℕ → ℕ → ℕ
    number_with k s = (told (check set1 shake256 (take k input) (take s (drop k input)) (drop (k + s) input))).number

    pub whole : (r : Report)
        → r ≡ told (check set1 shake256 (take key input) (take signature (drop key input)) (take (length input - (key + signature)) (drop (key + signature) input)))
        → r.number ≡ number_from input
    whole r e =
        ap (λ (x : Report). x.number) e ∙
        ap (λ (m : List ℕ). (told (check set1 shake256 (take key input) (take signature (drop key input)) m)).number)
        (take_all (length input - (key + signature)) (drop (key + signature) input) (omega (arith, length-drop (key + signature) input))) ∙
        (λ t. number_with (is_key t) (is_signature t))
