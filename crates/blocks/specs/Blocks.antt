-- A block as the code holds it: four rows, each four pixels in a number, the first pixel lowest. Assumes nothing.
use Rattle.std.specs.Prelude.{ℕ, ◌+◌, ◌*◌, ◌/◌, ◌%◌, ◌<◌, ◌≤◌, ◌≡◌, List, [], ◌∷◌, ◌++◌, length, get_or}
use Rattle.spec.specs.Sizes.{max_columns, max_lines}
use Rattle.blocks.specs.declared.Rows.{Rows}

unfoldable pub row_of : ℕ → List ℕ
row_of w = w % 256 ∷ w / 256 % 256 ∷ w / 65536 % 256 ∷ w / 16777216 % 256 ∷ []

unfoldable pub pixels : Rows → List ℕ
pixels r = row_of r.a ++ row_of r.b ++ row_of r.c ++ row_of r.d

-- four bytes from a place on; and four times four, a stride apart
unfoldable pub row : List ℕ → ℕ → List ℕ
row s p = get_or s p 0 ∷ get_or s (p + 1) 0 ∷ get_or s (p + 2) 0 ∷ get_or s (p + 3) 0 ∷ []

unfoldable pub rows : List ℕ → ℕ → ℕ → List ℕ
rows s p w = row s p ++ row s (p + w) ++ row s (p + 2 * w) ++ row s (p + 3 * w)

-- the pixels of c by r blocks; and a picture of so many, within the limits
abbrev pub area : ℕ → ℕ → ℕ
area c r = 4 * c * (4 * r)

pub record Canvas (c r : ℕ) (pic : List ℕ) : Type 0 where
  pub wide : 0 < c
  pub narrow : c ≤ max_columns
  pub low : r ≤ max_lines
  pub exact : length pic ≡ area c r
