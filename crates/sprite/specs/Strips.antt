-- What the paint pass goes by: a row of a frame, or a part of it, as a strip of shades. Assumes nothing.
-- Columns and rows that may lie off the picture are counted from -32,768, so that none is below 0: the picture's first is number `origin`.
use Rattle.std.specs.Prelude.{ℕ, suc, ◌+◌, ◌-◌, min, ◌≡◌, List, [], ltb, eqb, ℤ, pos, negsuc, get_or}
use Rattle.spec.specs.Basics.{if}
use Rattle.sprite.specs.Frames.{Shade, background}

abbrev pub origin : ℕ
origin = 32768

-- a signed 16-bit number, counted so
abbrev pub from_least : ℤ → ℕ
from_least (pos n) = origin + n
from_least (negsuc n) = origin - suc n

-- shades from column `left` on, at column x of the picture
unfoldable pub along : ℕ → List Shade → ℕ → Shade
along left shades x = if (ltb (origin + x) left) background (get_or shades (origin + x - left) background)

-- the same in row `line` alone, at column x and row y of the picture
unfoldable pub strip : ℕ → ℕ → List Shade → ℕ → ℕ → Shade
strip left line shades x y = if (eqb (origin + y) line) (along left shades x) background

-- a frame's rows from row `top` on
unfoldable pub sheet : ℕ → ℕ → List (List Shade) → ℕ → ℕ → Shade
sheet left top rows x y = if (ltb (origin + y) top) background (along left (get_or rows (origin + y - top) []) x)

-- of `count` pixels from column `left` on: how many lie left of the picture, the picture's column where the others begin, and how many of
-- them lie on it
abbrev pub hidden : ℕ → ℕ
hidden left = origin - left

abbrev pub column : ℕ → ℕ
column left = left - origin

abbrev pub seen : ℕ → ℕ → ℕ → ℕ
seen width left count = min (count - hidden left) (width - column left)

-- the code's three numbers for them
pub record Clipped (width left count hides starts shows : ℕ) : Type 0 where
  pub hidden : hides ≡ hidden left
  pub column : starts ≡ column left
  pub seen : shows ≡ seen width left count
