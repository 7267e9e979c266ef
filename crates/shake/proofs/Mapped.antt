-- A law of an array's `map` at five elements. Assumes nothing.
use Rattle.std.proofs.Common.{◌≡◌, ℕ, ◌<◌, List, [], ◌∷◌, length, get_or, refl, ◌∙◌, arith, lit<}
use Rattle.std.specs.Array.{IsMapOf}
use denote.Param.Members.{Mut, Called}

five : {X : Type 0} (d : X) (ys : List X) → length ys ≡ 5 → ys ≡ get_or ys 0 d ∷ get_or ys 1 d ∷ get_or ys 2 d ∷ get_or ys 3 d ∷ get_or ys 4 d ∷ []
five d (a ∷ b ∷ c ∷ e ∷ f ∷ []) h = refl
five d _ h = absurd (omega arith)

pub map_of_five : {F A B : Type 0} (g : Mut F (A × Unit {0}) B) (h : A → B) {f : F} {xs : List A} {ys : List B} → IsMapOf g f xs ys 5
    → ((x : A) (y : B) (p q : F) → Called g p (x, tt) y q → y ≡ h x)
    → (d : A) → ys ≡ h (get_or xs 0 d) ∷ h (get_or xs 1 d) ∷ h (get_or xs 2 d) ∷ h (get_or xs 3 d) ∷ h (get_or xs 4 d) ∷ []
map_of_five g h {f} {xs} {ys} m k d =
    let at : (i : ℕ) → i < 5 → get_or ys i (h d) ≡ h (get_or xs i d) = λ i l. let r = m.at i d (h d) l in k _ _ r.0 r.1 r.2 in
    five (h d) ys m.long ∙ rw (at 0 (lit< tt), at 1 (lit< tt), at 2 (lit< tt), at 3 (lit< tt), at 4 (lit< tt)) refl
