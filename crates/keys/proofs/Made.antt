-- What was written is what the definition makes.
use mathlib.Core.Path.{◌≡◌, refl, sym, ap, ◌∙◌}
use mathlib.Core.List.{List}
use Prim.Native.Nat.{ℕ}
use lib.IntN.{ℤ}
use Rattle.sets.specs.Set.{Set}
use Rattle.sets.specs.Good.{Trinomial}
use Rattle.answers.specs.declared.Refusal.{Refusal}
use Rattle.answers.specs.Result.{Result, done, refused, ◌>>=◌}
use Rattle.answers.proofs.Outcomes.{stops, gives}
use Rattle.answers.proofs.Results.{bind_inv, done_inv}
use Rattle.shake.specs.Shake.{shake256}
use Rattle.packing.specs.declared.parts.Part.TheVariants as part
use Rattle.layouts.specs.Layouts.{t1_layout, t0_layout, s_layout}
use Rattle.packing.specs.Parts.{pack_public, pack_secret, total, bytes_of, seeds_size}
use Rattle.streams.specs.Streams.{expand_a, expand_s}
use Rattle.streams.proofs.Drawn.{expanded_s}
use Rattle.sampling.proofs.Drawing.{Each, Small}
use Rattle.scheme.specs.Elements.{power_highs, power_lows}
use Rattle.scheme.specs.Keys.{Pair, public_key, ph_of, secret_key, pair_from}
use Rattle.workspace.specs.declared.Place.TheVariants as place
use Rattle.workspace.specs.Inner.{Room, Ready, values, Packable}
use Rattle.workspace.proofs.Holding.{residues_of, ready_first, ready_next}
use Rattle.workspace.proofs.Packing.{Back, back_s, back_t1, back_t0}
use Rattle.keys.specs.Inner.{Drawn, drawn_from, t_of, Held, Rounded}

-- how long ξ1, ξ2 and K are together
pub seeds_long : 96 ≡ seeds_size
unfolding total
seeds_long = refl

-- what was drawn is remainders
pub drawn_ready : (p : Set) → Trinomial p → (d : Drawn) (work : List ℕ) → Room p work → Held p d work → Ready p place.S2 work
drawn_ready p T d work room H =
    ready_next {k = place.S1} refl
    (ready_next {k = place.A} refl (ready_first refl room (residues_of p T.good H.a)) (residues_of p T.good H.s1))
    (residues_of p T.good H.s2)

-- the definition is what it draws, and then the keys of that
module _ (p : Set) (ζ seeds : List ℕ) where
  abbrev pub pair_of : Drawn → Pair
  pair_of d = record {
    public = public_key p ζ (t_of p d);
    secret = secret_key p shake256 ζ (bytes_of p part.NewK seeds) d.s1 d.s2 (t_of p d);
  }

  pair_is : pair_from p shake256 ζ seeds ≡ (drawn_from p ζ seeds >>= λ d. done (pair_of d))
  unfolding pair_from drawn_from
  pair_is = by (expand_a p shake256 ζ) (expand_s p shake256 (bytes_of p part.Xi1 seeds)) (expand_s p shake256 (bytes_of p part.Xi2 seeds))
    where
      by : (m m₁ m₂ : Result (List ℤ)) → ◌≡◌ {A = Result Pair} (m >>= λ a. m₁ >>= λ s1. m₂ >>= λ s2. done (pair_of record { a = a; s1 = s1; s2 = s2 }))
          ((m >>= λ a. m₁ >>= λ s1. m₂ >>= λ s2. done (record { a = a; s1 = s1; s2 = s2 })) >>= λ d. done (pair_of d))
      by (refused r) m₁ m₂ = refl
      by (done a) (refused r) m₂ = refl
      by (done a) (done s1) (refused r) = refl
      by (done a) (done s1) (done s2) = refl

  pub pair_refused : (why : Refusal) → drawn_from p ζ seeds ≡ refused why → pair_from p shake256 ζ seeds ≡ refused why
  pair_refused why e = pair_is ∙ stops (drawn_from p ζ seeds) why _ e

  -- what was drawn is small
  module _ (d : Drawn) (drew : drawn_from p ζ seeds ≡ done d) where
    small_both : Each (Small p.eta) p.n d.s1 × Each (Small p.eta) p.n d.s2
    unfolding drawn_from
    small_both =
        let x = bind_inv (expand_a p shake256 ζ) _ d drew in
        let y = bind_inv (expand_s p shake256 (bytes_of p part.Xi1 seeds)) _ d x.2 in
        let z = bind_inv (expand_s p shake256 (bytes_of p part.Xi2 seeds)) _ d y.2 in
        let i : record { a = x.0; s1 = y.0; s2 = z.0 } ≡ d = done_inv _ _ z.2 in
        rw (← i) (expanded_s p shake256 _ y.0 y.1, expanded_s p shake256 _ z.0 z.1)

    module _ (T : Trinomial p) (work : List ℕ) (R : Rounded p d work) where
      t1_back : Back p (t1_layout p) place.T1 (power_highs p (t_of p d)) work
      t1_back = back_t1 p T (t_of p d) R.t1

      t0_back : Back p (t0_layout p) place.T0 (power_lows p (t_of p d)) work
      t0_back = back_t0 p T (t_of p d) R.t0

      s1_back : Back p (s_layout p) place.S1 d.s1 work
      s1_back = back_s p T small_both.0 R.s1

      s2_back : Back p (s_layout p) place.S2 d.s2 work
      s2_back = back_s p T small_both.1 R.s2

      pub all_packable : Packable p (t1_layout p) place.T1 work × Packable p (s_layout p) place.S1 work × Packable p (s_layout p) place.S2 work × Packable p (t0_layout p) place.T0 work
      all_packable = (t1_back.packable, s1_back.packable, s2_back.packable, t0_back.packable)

      module _ (pk sk k : List ℕ) (third : k ≡ bytes_of p part.NewK seeds) (e : pk ≡ pack_public p record { zeta = ζ; t1 = values p place.T1 work })
          (f :
          sk ≡
          pack_secret p record {
            zeta = ζ;
            ph = ph_of shake256 pk;
            k = k;
            s1 = values p place.S1 work;
            s2 = values p place.S2 work;
            t0 = values p place.T0 work;
          }) where
        public_is : pk ≡ public_key p ζ (t_of p d)
        public_is = e ∙ ap (λ (x : List ℤ). pack_public p record { zeta = ζ; t1 = x }) t1_back.same

        secret_is : sk ≡ secret_key p shake256 ζ (bytes_of p part.NewK seeds) d.s1 d.s2 (t_of p d)
        secret_is =
            f ∙
            (λ i. pack_secret p record {
              zeta = ζ;
              ph = ph_of shake256 (public_is i);
              k = third i;
              s1 = s1_back.same i;
              s2 = s2_back.same i;
              t0 = t0_back.same i;
            })

        pub pair_made : pair_from p shake256 ζ seeds ≡ done record { public = pk; secret = sk }
        pair_made =
            pair_is ∙ gives (drawn_from p ζ seeds) d (λ x. done (pair_of x)) drew ∙
            ap done (sym (λ i. record { public = public_is i; secret = secret_is i }))
