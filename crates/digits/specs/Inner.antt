-- Inner: how packing proceeds, with bytes that are written and bits that wait. No definition, and no promise of a public entry, rests on this file.
use Rattle.std.specs.Prelude.{◌≡◌, List, ℕ, ◌+◌, ◌*◌, ◌^◌, ◌<◌, length, take}
use Rattle.digits.specs.declared.Waiting.{Waiting}
use Rattle.digits.specs.Digits.{value}

-- the number that is written in part
abbrev pub number : List ℕ → Waiting → ℕ
number out w = value 256 (take w.at out) + 2 ^ (8 * w.at) * w.held

-- a code of w bits has come in above the bits that waited
pub record Pushed (first : Waiting) (code w : ℕ) (r : Waiting) : Type 0 where
  pub held : r.held ≡ first.held + code * 2 ^ first.bits
  pub bits : r.bits ≡ first.bits + w
  pub at : r.at ≡ first.at

-- whole bytes have been written; the number and the place among its bits are the same
pub record Flushed (out : List ℕ) (first : Waiting) (more : List ℕ) (r : Waiting) : Type 0 where
  pub long : length more ≡ length out
  pub same : number more r ≡ number out first
  pub place : 8 * r.at + r.bits ≡ 8 * first.at + first.bits
  pub few : r.bits < 8
  pub below : r.held < 2 ^ r.bits
