-- Set 1: what the walks over its elements' arrays, which come with zeros, answer and leave.
use mathlib.Core.Path.{◌≡◌, refl}
use mathlib.Core.List.{List}
use Prim.Native.Nat.{ℕ}
use lib.ListN.{length, replicate}
use lib.IntN.{ℤ}
use Rattle.outcome.specs.Outcome.{Is}
use Rattle.layouts.specs.declared.layout.Layout.{Layout}
use Rattle.layouts.specs.Layouts.{code, holds}
use Rattle.layouts.specs.Inner.{Unpacked, Readable, taken_to, unpacked_to}
use Rattle.layouts.proofs.Packs.{Coding, Decoding, taken_as, unpacked_as}

abbrev zeros : List ℕ
zeros = replicate 1152 0

-- with a layout that a constructor made
module _ {L M : Layout} (h : L ≡ M) (R : Readable M 8401537) where
  pub coded : (values : List ℤ) {found : Unpacked} {cs : List ℕ} → length values ≡ 1152
      → Is (taken_to (holds L) (code L) values (replicate 1152 0)) found cs → Coding M 8401537 1152 values found cs
  coded values {found} {cs} e I = record { readable = R; long = e; old = zeros; walk = taken_as h values zeros found cs I }

  pub decoded : (packed : List ℕ) {found : Unpacked} {xs : List ℕ}
      → Is (unpacked_to L 8401537 packed (replicate 1152 0)) found xs → Decoding M 8401537 1152 packed found xs
  decoded packed {found} {xs} I = record { readable = R; old = zeros; room = refl; walk = unpacked_as h 8401537 packed zeros found xs I }
