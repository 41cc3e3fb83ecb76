-- 01, "Picture, blocks, map": a picture's blocks, and where their pixels come from. Assumes nothing.
-- Here c is how many blocks stand to a line, and r how many lines of blocks there are: a row of pixels has 4 * c.
use Rattle.std.specs.Prelude.{ℕ, zero, suc, ◌+◌, ◌*◌, ◌/◌, ◌%◌, ◌<◌, ◌≡◌, List, map, length, get_or, set}
use Rattle.spec.specs.Basics.{from, Every}

-- "Blocks are 4 by 4, numbered from 0, left to right, then down": the place in the picture of pixel i of block k
unfoldable pub place : ℕ → ℕ → ℕ → ℕ
place c k i = (4 * (k / c) + i / 4) * (4 * c) + (4 * (k % c) + i % 4)

-- the other way round: the block in which place p lies, and which of its pixels it is
unfoldable pub block_of : ℕ → ℕ → ℕ
block_of c p = p / (4 * c) / 4 * c + p % (4 * c) / 4

unfoldable pub pixel_of : ℕ → ℕ → ℕ
pixel_of c p = 4 * (p / (4 * c) % 4) + p % (4 * c) % 4

-- An origin: where a block's sixteen pixels come from. Given, row by row; or held by block j of the picture that was lent
pub data Origin : Type 0 where
  given : List ℕ → Origin
  held : ℕ → Origin

-- a list that covers n blocks has one origin for each, and holds only blocks that there are
abbrev pub Below : ℕ → Origin → Type 0
Below n (given px) = Unit {0}
Below n (held j) = j < n

pub record Covers (n : ℕ) (os : List Origin) : Type 0 where
  pub size : length os ≡ n
  pub below : Every (Below n) os

-- pixel i of an origin over the picture that was lent, and all sixteen
abbrev pub pixel : ℕ → List ℕ → Origin → ℕ → ℕ
pixel c pic (given px) i = get_or px i 0
pixel c pic (held j) i = get_or pic (place c j i) 0

unfoldable pub shown : ℕ → List ℕ → Origin → List ℕ
shown c pic o = map (pixel c pic o) (from 0 16)

-- the sixteen pixels of block k
abbrev pub block_at : ℕ → List ℕ → ℕ → List ℕ
block_at c pic k = shown c pic (held k)

-- the whole picture that a list of origins, one a block, makes of the picture that was lent
unfoldable pub paint : ℕ → ℕ → List Origin → List ℕ → List ℕ
paint c r os pic = map (λ p. pixel c pic (get_or os (block_of c p) (held 0)) (pixel_of c p)) (from 0 (4 * c * (4 * r)))

-- the first m pixels of px stored in block k, one after the other, and nothing else touched
unfoldable pub put_pixels : ℕ → ℕ → List ℕ → ℕ → List ℕ → List ℕ
put_pixels c k px zero pic = pic
put_pixels c k px (suc i) pic = set (put_pixels c k px i pic) (place c k i) (get_or px i 0)

abbrev pub put_block : ℕ → ℕ → List ℕ → List ℕ → List ℕ
put_block c k px pic = put_pixels c k px 16 pic
