-- 01, "Picture, blocks, map": sizes. Assumes nothing.
use Rattle.std.specs.Prelude.{ℕ, ◌*◌, ◌/◌, ◌%◌, Bool, ◌&&◌, eqb, leb}
use Rattle.spec.specs.declared.Size.{Size}
use Rattle.spec.specs.Basics.{if}
use Rattle.spec.specs.Answers.{ok, bad_size, bad_length}

-- "width 4 to 320, height 4 to 200"
abbrev pub max_width : ℕ
max_width = 320

abbrev pub max_height : ℕ
max_height = 200

-- "Width and height are multiples of 4"
unfoldable pub side : ℕ → ℕ → Bool
side most x = eqb (x % 4) 0 && leb 4 x && leb x most

abbrev pub allowed : Size → Bool
allowed z = side max_width z.width && side max_height z.height

-- "One byte a pixel, row after row, exactly width x height bytes"
abbrev pub pixels : Size → ℕ
pixels z = z.width * z.height

-- "Blocks are 4 by 4": the blocks to a line, the lines of blocks, and the blocks of a picture
abbrev pub columns : Size → ℕ
columns z = z.width / 4

abbrev pub lines : Size → ℕ
lines z = z.height / 4

abbrev pub blocks : Size → ℕ
blocks z = columns z * lines z

-- what follows from the limits: 80 and 50 blocks a side, "At most 4,000 blocks", 64,000 pixels
abbrev pub max_columns : ℕ
max_columns = max_width / 4

abbrev pub max_lines : ℕ
max_lines = max_height / 4

abbrev pub max_blocks : ℕ
max_blocks = max_columns * max_lines

abbrev pub max_pixels : ℕ
max_pixels = max_width * max_height

-- whether two sizes are one
abbrev pub same_size : Size → Size → Bool
same_size y z = eqb y.width z.width && eqb y.height z.height

-- the size of so many blocks to a line and so many lines of them
abbrev pub size_of : ℕ → ℕ → Size
size_of c r = record { width = 4 * c; height = 4 * r }

-- 1, then 2 where what is lent is not right, the buffers of the exact lengths and a feed's size the record's; 0 where neither is given
unfoldable pub fault : Size → Bool → ℕ
fault z exact = if (allowed z) (if exact ok bad_length) bad_size
