-- Reason 4 never occurs for a secret key that unpacks (SPEC 12.2).
use mathlib.Core.Path.{◌≡◌, refl, sym, ap, ◌∙◌}
use mathlib.Core.Bool.{Bool, true, false}
use mathlib.Core.List.{List, [], ◌∷◌}
use Prim.Native.Nat.{ℕ, suc, ◌-◌, ◌*◌, ◌^◌, ◌≤◌, ◌<◌}
use native.Mathlib.Omega.{arith}
use borrow.Author.Tests.{lt-leb}
use lib.Dec.{leb}
use lib.ListN.{length}
use lib.IntN.{ℤ, nat_abs}
use Rattle.sets.specs.Set.{Set}
use Rattle.answers.specs.Result.{Result, done, refused, pick}
use Rattle.answers.proofs.Results.{bind_inv}
use Rattle.residues.specs.Remainder.{magnitude}
use Rattle.residues.proofs.Differences.{pos_sub, abs_sub_le}
use Rattle.rounding.specs.Rounding.{norm}
use Rattle.rounding.proofs.Congruent.{q_wide}
use Rattle.ring.specs.Ring.{at}
use Rattle.ring.specs.Profile.{mul}
use Rattle.ring.proofs.Rings.{Fits}
use Rattle.layouts.specs.Layouts.{t0_layout}
use Rattle.layouts.specs.Hints.{ones}
use Rattle.packing.specs.Parts.{SecretKey, read_secret, pack_signature}
use Rattle.layouts.proofs.Kept.{allowed_ends}
use Rattle.layouts.proofs.Elements.{was_read}
use Rattle.packing.proofs.Wholes.{secret_parts_lem}
use Rattle.sampling.specs.Samplers.{Drawn, drew, dry}
use Rattle.streams.specs.Streams.{Hash, expand_a, expand_c}
use Rattle.scheme.specs.Elements.{lows}
use Rattle.scheme.specs.Try.{ZLarge, LowLarge, Ct0Large, ManyOnes, reason_number, Try, passes, fails, Signer, response, masked, hints, judged, try}
use Rattle.scheme.specs.Sign.{Key, read_key, read_signer}
use Rattle.scheme.proofs.Agree.{small_product, length_mul}
use Rattle.scheme.proofs.Accepts.{few_drawn}

-- the norm is below a bound where every coefficient is
norm_below : (q b : ℕ) (xs : List ℤ) → 0 < b → ((k : ℕ) → k < length xs → magnitude q (at xs k) < b) → norm q xs < b
unfolding norm
norm_below q b [] h f = h
norm_below q b (x ∷ xs) h f =
    let a = f 0 (omega arith) in
    let r = norm_below q b xs h (λ k l. f (suc k) (omega arith)) in
    omega arith

module _ (p : Set) (F : Fits p) where
  -- t0 of a secret key that unpacks
  t0_small : (sk : List ℕ) (k : SecretKey) → read_secret p sk ≡ done k → (i : ℕ) → i < p.n → nat_abs (at k.t0 i) ≤ 2 ^ (p.d - 1)
  t0_small sk k e i l =
      let r = secret_parts_lem p sk k e in
      let w = was_read (t0_layout p) p.n _ _ k.t0 r.t0 in
      let x = w.each i l in
      let m = allowed_ends (t0_layout p) x.0 x.2 in
      rw x.1
      (rw (pos_sub (2 ^ (p.d - 1)) x.0)
      (abs_sub_le (2 ^ (p.d - 1)) x.0 (2 ^ (p.d - 1)) (omega arith) (omega (arith, F.good.halves, m.1))))

  module _ (S : Signer) (small : (k : ℕ) → k < p.n → nat_abs (at S.t0 k) ≤ 2 ^ (p.d - 1)) (H : Hash) where
    ct0_below : (c~ : List ℕ) (c : List ℤ) → expand_c p H c~ ≡ drew c → norm p.q (mul p c S.t0) < p.gamma2
    ct0_below c~ c e =
        norm_below p.q p.gamma2 (mul p c S.t0) F.good.some
        (λ k l.
        let b = small_product p F c S.t0 (2 ^ (p.d - 1)) (few_drawn p F H c~ c e) small
        (omega (arith, room, F.good.never4, q_wide p F.good)) k (rw length_mul at l) in
        omega (arith, room, F.good.never4))
      where
        room : p.tau * (2 * 2 ^ (p.d - 1)) ≡ p.tau * 2 ^ p.d
        room = ap (λ (x : ℕ). p.tau * x) (sym F.good.halves)

    never_judged : (y w : List ℤ) (c~ : List ℕ) (d : Drawn) → expand_c p H c~ ≡ d → judged p S y w c~ d ≡ fails Ct0Large → ⊥
    unfolding judged
    never_judged y w c~ dry g e = let z : ◌≡◌ {A = ℕ} 0 1 = cc in omega arith
    never_judged y w c~ (drew c) g e =
        let f : leb p.gamma2 (norm p.q (mul p c S.t0)) ≡ false = lt-leb _ _ (ct0_below c~ c g) in
        by (leb (p.gamma1 - p.beta) (norm p.q (response p S y c)))
        (leb (p.gamma2 - p.beta) (norm p.q (lows p (masked p S w c))))
        (leb (ones (hints p S w c)) p.omega) (rw f at e)
      where
        number : Try → ℕ
        number (passes x) = 0
        number (fails r) = reason_number r

        σ : List ℕ
        σ = pack_signature p record { c~ = c~; z = response p S y c; h = hints p S w c }

        by : (a b d : Bool) → pick a (fails ZLarge) (pick b (fails LowLarge) (pick d (passes σ) (fails ManyOnes))) ≡ fails Ct0Large → ⊥
        by true b d e = let z : ◌≡◌ {A = ℕ} 2 4 = ap number e in omega arith
        by false true d e = let z : ◌≡◌ {A = ℕ} 3 4 = ap number e in omega arith
        by false false true e = let z : ◌≡◌ {A = ℕ} 0 4 = ap number e in omega arith
        by false false false e = let z : ◌≡◌ {A = ℕ} 5 4 = ap number e in omega arith

  -- no try of such a key fails for reason 4
  pub never_reason4 : (H : Hash) (sk M ρ : List ℕ) (S : Signer) → read_signer p H sk M ρ ≡ done S → (κ : ℕ) → try p H S κ ≡ fails Ct0Large → ⊥
  unfolding read_signer read_key try
  never_reason4 H sk M ρ S e κ =
      let r = bind_inv (read_key p H sk) _ S e in
      let x = bind_inv (read_secret p sk) _ r.0 r.1 in
      let v = bind_inv (expand_a p H x.0.zeta) _ r.0 x.2 in
      let t : x.0.t0 ≡ S.t0 = ap key_t0 v.2 ∙ ap t0_of r.2 in
      never_judged S (λ k l. rw (← t) (t0_small sk x.0 x.1 k l)) H _ _ _ _ refl
    where
      t0_of : Result Signer → List ℤ
      t0_of (done s) = s.t0
      t0_of (refused r) = []

      key_t0 : Result Key → List ℤ
      key_t0 (done k) = k.t0
      key_t0 (refused r) = []
