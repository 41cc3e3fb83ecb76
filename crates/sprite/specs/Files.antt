-- 01, "Sprites", and the layout of 001: a file's integers, its head and offset table, and a frame's head. Assumes nothing.
-- Here s are the file's bytes.
use Rattle.std.specs.Prelude.{ℕ, ◌+◌, ◌*◌, List, Bool, ◌&&◌, leb, ltb, eqb, length, get_or}
use Rattle.spec.specs.Basics.{if}
use Rattle.spec.specs.Answers.{ok, bad_sprite, no_such_frame, bad_frame}

-- "Two zero bytes first mean highest byte first, else lowest first"
abbrev pub high_first : List ℕ → Bool
high_first s = eqb (get_or s 0 0) 0 && eqb (get_or s 1 0) 0

-- a number of two halves, in the file's order; the higher one is worth so much
unfoldable pub joined : Bool → ℕ → ℕ → ℕ → ℕ
joined high worth a b = if high (worth * a + b) (worth * b + a)

-- the integers of 2 and of 4 bytes at a place
abbrev pub word : List ℕ → ℕ → ℕ
word s at = joined (high_first s) 256 (get_or s at 0) (get_or s (at + 1) 0)

abbrev pub long : List ℕ → ℕ → ℕ
long s at = joined (high_first s) 65536 (word s at) (word s (at + 2))

-- the head: version, number of frames, and the palette's number, which plays no part. Then the offset of each frame
abbrev pub version : List ℕ → ℕ
version s = long s 0

abbrev pub frame_count : List ℕ → ℕ
frame_count s = long s 4

abbrev pub head_bytes : ℕ
head_bytes = 12

abbrev pub offset_of : List ℕ → ℕ → ℕ
offset_of s k = long s (head_bytes + 4 * k)

-- "Versions 502 to 505"
abbrev pub first_version : ℕ
first_version = 502

abbrev pub last_version : ℕ
last_version = 505

-- whether head and offset table are whole, of one of these versions; if not, 15
unfoldable pub is_sprite : List ℕ → Bool
is_sprite s =
    leb head_bytes (length s) && (leb first_version (version s) && leb (version s) last_version)
    && leb (head_bytes + 4 * frame_count s) (length s)

-- A frame's head: two words that "must be zero", height, width, and a fifth that "is passed over". Its rows follow
abbrev pub height_at : List ℕ → ℕ → ℕ
height_at s at = word s (at + 4)

abbrev pub width_at : List ℕ → ℕ → ℕ
width_at s at = word s (at + 6)

abbrev pub frame_bytes : ℕ
frame_bytes = 10

-- whether a frame's head is whole and its first two words are zero; if not, 17
unfoldable pub is_frame : List ℕ → ℕ → Bool
is_frame s at = leb (at + frame_bytes) (length s) && (eqb (word s at) 0 && eqb (word s (at + 2)) 0)

-- 15, 16 for a frame that there is not, 17, in this order; or 0
unfoldable pub frame_fault : List ℕ → ℕ → ℕ
frame_fault s k =
    if (is_sprite s) (if (ltb k (frame_count s)) (if (is_frame s (offset_of s k)) ok bad_frame) no_such_frame) bad_sprite
