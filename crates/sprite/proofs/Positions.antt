-- A frame at a signed position, and the same counted from -32,768. Assumes nothing.
use Prim.Native.Nat.{ℕ, zero, suc, ◌+◌, ◌-◌, ◌/◌, ◌%◌, ◌<◌, ◌≤◌}
use mathlib.Core.Path.{◌≡◌, refl}
use mathlib.Core.List.{List}
use mathlib.Core.Bool.{Bool, true, false, cond}
use native.Mathlib.Omega.{arith}
use lib.Dec.{ltb}
use lib.IntN.{ℤ, pos, negsuc, ◌-ℤ◌}
use lib.Signed.{mag}
use mir.Syntax.{w16}
use mir.Val.{SFits, to_z, of_z}
use mir.Facts.{to_z-of_z}
use borrow.Author.Tests.{lt-ltb, le-ltb, ltb-true, ltb-false}
use Rattle.spec.specs.declared.Size.{Size}
use Rattle.spec.specs.Basics.{if}
use Rattle.sprite.specs.Frames.{Shade}
use Rattle.sprite.specs.Symbols.{shade_at, placed, overlay}
use Rattle.sprite.specs.Strips.{origin, from_least, along, sheet}
use Rattle.sprite.proofs.Overlays.{overlay-same}

-- the difference of a = origin + x and b, with its sign
data Falls (a b : ℕ) : ℤ → Type 0 where
  before : {m : ℕ} → a < b → Falls a b (negsuc m)
  from : {m : ℕ} → b ≤ a → m ≡ a - b → Falls a b (pos m)

falls : (n : ℤ) (x : ℕ) → mag n < origin → Falls (origin + x) (from_least n) (pos x -ℤ n)
falls (pos zero) x h = from {m = x + 0} (omega arith) (omega arith)
falls (pos (suc n)) x h = by (ltb x (suc n)) refl
  where
    by : (b : Bool) → ltb x (suc n) ≡ b → Falls (origin + x) (origin + suc n) (cond b (negsuc (suc n - suc x)) (pos (x - suc n)))
    by true t = let l = ltb-true x (suc n) t in before (omega arith)
    by false t = let l = ltb-false x (suc n) t in from {m = x - suc n} (omega arith) (omega arith)
falls (negsuc n) x h = from {m = x + suc n} (omega arith) (omega arith)

module _ (rows : List (List Shade)) where
  sheet-is : (left top x y : ℕ) (dx dy : ℤ) → Falls (origin + x) left dx → Falls (origin + y) top dy → sheet left top rows x y ≡ shade_at rows dx dy
  unfolding sheet along if
  sheet-is left top x y (negsuc i) (negsuc j) (before h) (before g) = rw (lt-ltb (origin + y) top g)
  sheet-is left top x y (pos i) (negsuc j) (from h e) (before g) = rw (lt-ltb (origin + y) top g)
  sheet-is left top x y (negsuc i) (pos j) (before h) (from g f) = rw (le-ltb (origin + y) top g, lt-ltb (origin + x) left h)
  sheet-is left top x y (pos i) (pos j) (from h e) (from g f) = rw (le-ltb (origin + y) top g, le-ltb (origin + x) left h, e, f)

  pub at_position : (z : Size) (left top : ℤ) (pic : List ℕ) → mag left < origin → mag top < origin
      → overlay z (sheet (from_least left) (from_least top) rows) pic ≡ overlay z (placed left top rows) pic
  at_position z left top pic h g =
      overlay-same z (sheet (from_least left) (from_least top) rows) (placed left top rows) pic (λ p b.
      sheet-is (from_least left) (from_least top) (p % z.width) (p / z.width) _ _ (falls left (p % z.width) h) (falls top (p / z.width) g))

-- a signed 16-bit number
module _ (n : ℤ) (fits : SFits w16 n) where
  pub low : mag n < origin
  low = fits.sfits

  pub narrow : to_z w16 (of_z w16 n) ≡ n
  narrow = to_z-of_z fits
