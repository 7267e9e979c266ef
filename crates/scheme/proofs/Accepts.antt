-- A try that passes gives a signature that checking accepts.
use mathlib.Core.Path.{◌≡◌, refl, sym, ap, ◌∙◌}
use mathlib.Core.Bool.{true}
use mathlib.Core.List.{List, [], ◌∷◌, ◌++◌}
use Prim.Native.Nat.{ℕ, suc, ◌+◌, ◌≤◌}
use native.Mathlib.Nat.{le_of_eq}
use native.Mathlib.Omega.{arith}
use borrow.Author.Tests.{eq-eqb, le-leb}
use lib.ListN.{length}
use lib.IntN.{ℤ, pos, nat_abs}
use Rattle.sets.specs.Set.{message_max, hash_size, Set}
use Rattle.answers.specs.declared.Buffer.TheVariants.{PublicKey as PublicBuffer, Signature as SignatureBuffer}
use Rattle.answers.specs.declared.Refusal.TheVariants.{Length, LongMessage, Differs}
use Rattle.answers.specs.Result.{done, need}
use Rattle.answers.proofs.Results.{bind_done, need_done}
use Rattle.rounding.specs.Rounding.{make_hint}
use Rattle.ring.specs.Ring.{at}
use Rattle.ring.specs.Inner.{total as sum_to}
use Rattle.ring.specs.Profile.{mul}
use Rattle.ring.proofs.Lists.{length_tab, at_tab}
use Rattle.ring.proofs.Rings.{Fits}
use Rattle.layouts.specs.Layouts.{w1_layout, z_layout, hint_layout, pack}
use Rattle.packing.specs.Parts.{Signature, read_signature, signature_parts, signature_size}
use Rattle.layouts.proofs.Elements.{length_pack}
use Rattle.packing.proofs.Joins.{length_join}
use Rattle.packing.proofs.Wholes.{RightSignature, read_signature_lem}
use Rattle.sampling.specs.Samplers.{drew, drawn}
use Rattle.streams.specs.Streams.{Hash, expand_y, expand_c}
use Rattle.sampling.proofs.Sparse.{magnitudes, Sparse, sparse_challenge}
use Rattle.scheme.specs.Elements.{plus, negated, highs, power_highs, use_hints}
use Rattle.scheme.specs.Keys.{Pair}
use Rattle.scheme.specs.Try.{Signer, commit, response, masked, hints}
use Rattle.scheme.specs.Sign.{mu}
use Rattle.scheme.specs.Check.{same, recomputed, check}
use Rattle.scheme.proofs.Agree.{agree, z_small}
use Rattle.scheme.proofs.Tries.{Passed}
use Rattle.scheme.proofs.Allowed.{kept_z, kept_hint}
use Rattle.scheme.proofs.Made.{Sized, Made, keys_t, signer_of, public_back, public_length, ph_is}

-- bytes are the same as themselves
same_self : (xs : List ℕ) → same xs xs ≡ true
unfolding same
same_self [] = refl
same_self (x ∷ xs) = rw (eq-eqb x x refl) (same_self xs)

-- the sum of a list's magnitudes, by place
sum_at : (c : List ℤ) → sum_to (length c) (λ k. nat_abs (at c k)) ≡ magnitudes c
unfolding sum_to magnitudes
sum_at c = up_to c ∙ refl
  where
    -- one place more in front
    front : (n : ℕ) (f : ℕ → ℕ) → sum_to (suc n) f ≡ f 0 + sum_to n (λ k. f (suc k))
    front Prim.Native.Nat.zero f = omega arith
    front (suc n) f = let i = front n f in omega arith

    up_to : (c : List ℤ) → sum_to (length c) (λ k. nat_abs (at c k)) ≡ magnitudes c
    up_to [] = refl
    up_to (x ∷ xs) = front (length xs) (λ k. nat_abs (at (x ∷ xs) k)) ∙ ap (λ (m : ℕ). nat_abs x + m) (up_to xs)

-- a challenge that was drawn has τ coefficients of magnitude 1
pub few_drawn : (p : Set) → Fits p → (H : Hash) (c~ : List ℕ) (c : List ℤ) → expand_c p H c~ ≡ drew c → sum_to p.n (λ k. nat_abs (at c k)) ≤ p.tau
unfolding expand_c
few_drawn p F H c~ c e =
    let s : Sparse p.n p.tau c = sparse_challenge p F.good (H c~ p.cstream) c e in
    rw (← s.long) (le_of_eq (sum_at c ∙ s.sum))

module _ (p : Set) (F : Fits p) (H : Hash) (sized : Sized H) (ζ ζ' : List ℕ) (keys : Pair) (K : Made p H ζ ζ' keys) (M ρ : List ℕ) (κ : ℕ) (σ : List ℕ) (long : length M ≤ message_max) where
  abbrev pub S : Signer
  S = signer_of p F H sized ζ ζ' keys K M ρ

  abbrev pub y : List ℤ
  y = expand_y p H ρ κ

  abbrev pub w : List ℤ
  w = mul p K.a y

  abbrev pub c~ : List ℕ
  c~ = commit p H S.mu (highs p w)

  module _ (T : Passed p S y w c~ (expand_c p H c~) σ) where
    abbrev z : List ℤ
    z = response p S y T.c

    abbrev h : List ℤ
    h = hints p S w T.c

    abbrev signature_of : Signature
    signature_of = record { c~ = c~; z = z; h = h }

    right : RightSignature p signature_of
    unfolding commit
    right = record {
      c~ = sized (S.mu ++ pack (w1_layout p) p.n (highs p w)) hash_size;
      z = record {
        long = length_tab p.n _;
        kept = λ k l. kept_z p F.good (at z k) (z_small p F K.a y T.c K.s1 K.s2 T.z_small k l);
      };
      h = record {
        long = length_tab p.n _;
        kept = λ k l.
            rw (at_tab (pos 0) p.n (λ k. pos (make_hint p (at (negated p (mul p T.c S.t0)) k) (at (plus p (masked p S w T.c) (mul p T.c S.t0)) k))) k l)
            (kept_hint p F.good (at (negated p (mul p T.c S.t0)) k) (at (plus p (masked p S w T.c) (mul p T.c S.t0)) k));
      };
      few = T.few_ones;
    }

    signature_length : length σ ≡ signature_size p
    signature_length =
        ap length T.signature_is ∙
        length_join (signature_parts p) (c~ ∷ pack (z_layout p) p.n z ∷ pack hint_layout p.n h ∷ [])
        (right.c~, (length_pack (z_layout p) p.n z, (length_pack hint_layout p.n h, tt)))

    signature_back : read_signature p σ ≡ done signature_of
    signature_back = ap (read_signature p) T.signature_is ∙ read_signature_lem p signature_of right

    same_high : use_hints p h (recomputed p K.a z T.c (power_highs p (keys_t p F H sized ζ ζ' keys K))) ≡ highs p w
    same_high = agree p F K.a y T.c K.s1 K.s2 (few_drawn p F H c~ T.c T.drawn_is) K.s2_small.each T.low_small T.ct0_small

    pub accepted : check p H keys.public σ M ≡ done tt
    unfolding check
    accepted =
        need_done _ (Length PublicBuffer) _ (eq-eqb _ _ (public_length p F H sized ζ ζ' keys K))
        (need_done _ (Length SignatureBuffer) _ (eq-eqb _ _ signature_length)
        (need_done _ LongMessage _ (le-leb _ _ long)
        (bind_done _ (public_back p F H sized ζ ζ' keys K)
        (bind_done _ signature_back
        (bind_done _ K.a_is
        (bind_done _ (ap drawn T.drawn_is)
        (ap (λ x. need x Differs)
        ((λ i. same c~ (commit p H (mu H (sym (ph_is p F H sized ζ ζ' keys K) i) M) (same_high i))) ∙ same_self c~))))))))
