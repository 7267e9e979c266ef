-- What the samplers draw from SHAKE256's stream is the definition's element.
use mathlib.Core.Path.{◌≡◌, refl, sym, ap, ap₂, subst, ◌∙◌}
use mathlib.Core.List.{List, [], ◌∷◌, ◌++◌, append-nil, map}
use Prim.Native.Nat.{ℕ, suc, ◌≤◌, ◌<◌}
use native.Mathlib.Omega.{arith}
use mathlib.Core.Bool.{Bool, true}
use lib.IntN.{ℤ, pos}
use lib.ListN.{length, get_or}
use Rattle.outcome.specs.Outcome.{Is}
use Rattle.sets.specs.Set.{Set}
use Rattle.sets.specs.Good.{Good}
use Rattle.answers.specs.declared.Refusal.TheVariants.{Dry as DryStream}
use Rattle.answers.specs.Refusals.{Answer}
use Rattle.std.specs.Prelude.{Ok, IsErrAnd}
use Rattle.answers.specs.Result.{Result}
use Rattle.answers.proofs.Giving.{gives_well, gives_ill}
use Rattle.shake.specs.Shake.{shake256}
use Rattle.shake.proofs.Output.{length_shake256}
use Rattle.residues.specs.Remainder.{residue}
use Rattle.residues.proofs.Remainders.{residue_small}
use Rattle.std.specs.Int.{w16, to_le_bytes}
use Rattle.digits.specs.Digits.{digits, codes, two_bytes}
use Rattle.layouts.specs.Layouts.{y_layout, allowed, means, size}
use Rattle.layouts.specs.declared.layout.Layout.{Layout}
use Rattle.layouts.specs.Inner.{Readable, Unpacked, scan, written_to, remainders, unpacked_to}
use Rattle.layouts.proofs.Kept.{allowed_of}
use Rattle.layouts.proofs.Elements.{codes_below}
use Rattle.layouts.proofs.Reading.{residues_means}
use Rattle.layouts.proofs.Room.{y_readable}
use Rattle.sampling.specs.Samplers.{drawn, sample_a, sample_s, challenge}
use Rattle.streams.specs.Streams.{expand_a, expand_s, expand_y, expand_c}
use Rattle.sampling.specs.Inner.{Sampled, dry_stream, drawn_a, drawn_s, drawn_c}
use Rattle.sampling.proofs.Bounds.{q_most}
use Rattle.sampling.proofs.Drawing.{held_below}
use Rattle.sampling.proofs.Filling.{said}
use Rattle.sampling.proofs.Samplings.{tied_a, tied_s, tied_c}
use Rattle.answers.specs.Inner.{Gives}
use Rattle.std.proofs.lemmas.Result.{err_from_is_err_and}

-- numbers below q are their own remainders
pub own_back : (q : ℕ) → 0 < q → (xs : List ℕ) → ((k : ℕ) → get_or xs k 0 < q) → xs ≡ map (residue q) (map pos xs)
own_back q some [] h = refl
own_back q some (x ∷ xs) h = ap₂ ◌∷◌ (sym (residue_small q some x (h 0))) (own_back q some xs (λ k. h (suc k)))

-- the stream is the hash of the parts joined
module _ (p : Set) (bs : List ℕ) (r : Sampled) where
  pub drew_a : (xs ζ : List ℕ) → bs ≡ shake256 (ζ ++ ((0 ∷ 0 ∷ []) ++ [])) p.astream → Is (drawn_a p bs) r xs → expand_a p shake256 ζ ≡ drawn (said r (map pos xs))
  unfolding expand_a digits
  drew_a xs ζ e i = ap (λ (x : List ℕ). drawn (sample_a p x)) (sym e) ∙ ap drawn (tied_a p bs r xs i)

  pub drew_s : (s : List ℤ) (ξ : List ℕ) → bs ≡ shake256 (ξ ++ ([] ++ [])) p.sstream → Is (drawn_s p bs) r s → expand_s p shake256 ξ ≡ drawn (said r s)
  unfolding expand_s
  drew_s s ξ e i =
      ap (λ (x : List ℕ). drawn (sample_s p x)) (sym (e ∙ ap (λ (x : List ℕ). shake256 x p.sstream) (append-nil ξ))) ∙ ap drawn (tied_s p bs r s i)

  pub drew_c : (c : List ℤ) (c~ : List ℕ) → bs ≡ shake256 (c~ ++ ([] ++ [])) p.cstream → Is (drawn_c p bs) r c → drawn (expand_c p shake256 c~) ≡ drawn (said r c)
  unfolding expand_c
  drew_c c c~ e i =
      ap (λ (x : List ℕ). drawn (challenge p x)) (sym (e ∙ ap (λ (x : List ℕ). shake256 x p.cstream) (append-nil c~))) ∙ ap drawn (tied_c p bs r c i)

-- a stream that is dry, and an element that is drawn and then stored
module _ (m : Result (List ℤ)) (r : Sampled) (zs : List ℤ) (e : m ≡ drawn (said r zs)) (q : ℕ) (out : List ℕ) where
  pub got_all : r ≡ Ok tt → out ≡ map (residue q) zs → Gives m (λ xs. out ≡ map (residue q) xs) (Ok tt)
  got_all a h = gives_well zs (e ∙ rw a) h

  -- the exit of a `?`
  pub got_dry : r ≡ dry_stream → (s : Answer) → IsErrAnd s (λ y. y ≡ DryStream) → Gives m (λ xs. out ≡ map (residue q) xs) s
  got_dry d s i =
      let p = err_from_is_err_and s i in
      rw (p.1, p.2) (gives_ill DryStream (e ∙ rw d))

-- a's numbers are below q, and so are their own remainders
pub own_a : (p : Set) → Good p → (bs out : List ℕ) (r : Sampled) → Is (drawn_a p bs) r out → r ≡ Ok tt → out ≡ map (residue p.q) (map pos out)
own_a p G bs out r i a =
    let some : 0 < p.q = omega (arith, q_most p G) in
    own_back p.q some out (held_below p bs out some (rw a at (tied_a p bs r out i)))

-- ---- y: its count is two bytes, and every code is allowed
lowest_first : (κ : ℕ) → to_le_bytes w16 κ ≡ two_bytes κ
unfolding digits
lowest_first κ = refl

scan_all : {A : Type 0} (d : A) (ok : A → Bool) (i : ℕ) (xs : List A) → ((k : ℕ) → k < length xs → ok (get_or xs k d) ≡ true) → scan ok i xs ≡ Ok tt
unfolding scan
scan_all d ok i [] h = refl
scan_all d ok i (x ∷ xs) h = rw (h 0 (omega arith)) (scan_all d ok (suc i) xs (λ k l. h (suc k) (omega arith)))

module _ (p : Set) (G : Good p) (bs old : List ℕ) (l : length old ≡ p.n) where
  all_codes : scan (allowed (y_layout p)) 0 (codes p.zbits (length old) bs) ≡ Ok tt
  all_codes =
      scan_all 0 (allowed (y_layout p)) 0 (codes p.zbits (length old) bs)
      (λ k m.
      let b = codes_below p.zbits (length old) bs k in
      allowed_of (y_layout p) (get_or (codes p.zbits (length old) bs) k 0) (omega arith) (omega arith))

  got_codes : (ρ : List ℕ) (κ : ℕ) (count : List ℕ) (r : Unpacked) (out : List ℕ) → count ≡ to_le_bytes w16 κ
      → bs ≡ shake256 (ρ ++ (count ++ [])) (size (y_layout p) p.n) → Is (unpacked_to (y_layout p) p.q bs old) r out
      → out ≡ map (residue p.q) (expand_y p shake256 ρ κ)
  unfolding expand_y
  got_codes ρ κ count r out f e i =
      i.leaves ∙
      ap (λ (u : Unpacked). written_to u (remainders (y_layout p) p.q (codes p.zbits (length old) bs)) old) all_codes ∙
      sym (residues_means (y_layout p) p.q (y_readable p G) (codes p.zbits (length old) bs)) ∙
      rw (l, e, append-nil, f)
      (ap (λ (bytes : List ℕ). map (residue p.q) (map (means (y_layout p)) (codes p.zbits p.n (shake256 (ρ ++ bytes) (size (y_layout p) p.n))))) (lowest_first κ))

  -- as a call gives it: the layout is one that the code has made
  pub got_y : (y : Layout) → y ≡ y_layout p → (ρ : List ℕ) (κ : ℕ) (count : List ℕ) (r : Unpacked) (out : List ℕ) → count ≡ to_le_bytes w16 κ
      → bs ≡ shake256 (ρ ++ (count ++ [])) (size (y_layout p) p.n) → Is (unpacked_to y p.q bs old) r out
      → out ≡ map (residue p.q) (expand_y p shake256 ρ κ)
  got_y y is ρ κ count r out f e i = got_codes ρ κ count r out f e (subst (λ (l : Layout). Is (unpacked_to l p.q bs old) r out) is i)

  -- what the call asks
  pub asks_y : (y : Layout) → y ≡ y_layout p → (m : List ℕ) (k : ℕ) → bs ≡ shake256 m k → k ≡ size (y_layout p) p.n
      → Readable y p.q × (length bs ≡ size y (length old)) × (length old ≤ 4096)
  asks_y y is m k e h =
      (subst (λ (x : Layout). Readable x p.q) (sym is) (y_readable p G), ap length e ∙ length_shake256 m k ∙ h ∙ rw (l, is) refl, omega (arith, l, G.n_room))
