-- The size of the packed w1. W is w1's layout as the code has made it.
use mathlib.Core.Path.{◌≡◌, ap, ◌∙◌}
use Prim.Native.Nat.{ℕ, ◌≤◌}
use Rattle.sets.specs.Set.{Set, w1_capacity}
use Rattle.sets.specs.Good.{Trinomial}
use Rattle.layouts.specs.declared.layout.Layout.{Layout}
use Rattle.layouts.specs.Layouts.{w1_layout, size}

module _ (p : Set) (W : Layout) (is : W ≡ w1_layout p) (m : ℕ) (e : m ≡ size W p.n) where
  pub w1_size : m ≡ size (w1_layout p) p.n
  w1_size = e ∙ ap (λ (l : Layout). size l p.n) is

  pub w1_room_lem : Trinomial p → m ≤ w1_capacity
  w1_room_lem T = rw w1_size T.w1_held
