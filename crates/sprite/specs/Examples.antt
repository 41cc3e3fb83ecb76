-- Proved examples of symbols: one table and one statement. `seven` are a valid frame and one refusal of each of 15 to 20; `further` pin what
-- those leave free. Bytes are hex; pictures are 4x4 unless said otherwise. Assumes nothing.
use Rattle.std.specs.Prelude.{ℕ, ◌≡◌, refl, List, [], ◌∷◌, ◌++◌, Bool, true, ◌&&◌, ℤ, pos, negsuc}
use Rattle.spec.specs.Basics.{if, fuelled, same}
use Rattle.spec.specs.Answers.{answer, checked}
use Rattle.spec.specs.Sizes as Sizes
use Rattle.spec.specs.Rows.{size, of, same_answer}
use Rattle.sprite.specs.Files as Files
use Rattle.sprite.specs.Frames as Frames
use Rattle.sprite.specs.Symbols.{Painted, overlay, paint_symbol}

-- size, a starting picture, a file, a frame's number, a position: the answer's number, and the picture that is left
pub data Row : Type 0 where
  paints : ℕ → ℕ → List ℕ → List ℕ → ℕ → ℤ → ℤ → ℕ → List ℕ → Row

abbrev pub is_painted : Painted → ℕ → List ℕ → Bool
is_painted l n pic = same_answer l.answer (answer n 0) && same l.picture pic

unfoldable pub holds : Row → Bool
unfolding if fuelled checked Sizes.side Sizes.fault Files.joined Files.is_sprite Files.is_frame Files.frame_fault
    Frames.gather Frames.segment_bytes Frames.segment_at Frames.shades Frames.row_from Frames.row_at Frames.marker Frames.rows_from Frames.frame
    overlay paint_symbol
holds (paints w h start file k left top n pic) = is_painted (paint_symbol (size w h) start file k left top) n pic

abbrev pub hold : List Row → Bool
hold [] = true
hold (x ∷ xs) = holds x && hold xs

-- a file of one frame, lowest byte first: its version's bytes, then number of frames, palette, offset
abbrev pub headed : List ℕ → List ℕ → List ℕ
headed version frame = version ++ 0x01 ∷ 0x00 ∷ 0x00 ∷ 0x00 ∷ 0x07 ∷ 0x00 ∷ 0x00 ∷ 0x00 ∷ 0x10 ∷ 0x00 ∷ 0x00 ∷ 0x00 ∷ frame

abbrev pub file : List ℕ → List ℕ
file frame = headed (0xF6 ∷ 0x01 ∷ 0x00 ∷ 0x00 ∷ []) frame

-- the same, highest byte first
abbrev pub high_file : List ℕ → List ℕ
high_file frame =
    0x00 ∷ 0x00 ∷ 0x01 ∷ 0xF6 ∷ 0x00 ∷ 0x00 ∷ 0x00 ∷ 0x01 ∷ 0x00 ∷ 0x00 ∷ 0x00 ∷ 0x07 ∷ 0x00 ∷ 0x00 ∷ 0x00 ∷ 0x10 ∷ frame

-- a frame of this height and width around its rows and what follows them
abbrev pub frame : ℕ → ℕ → List ℕ → List ℕ
frame h w rows = 0x00 ∷ 0x00 ∷ 0x00 ∷ 0x00 ∷ h ∷ 0x00 ∷ w ∷ 0x00 ∷ 0x00 ∷ 0x10 ∷ rows

-- the rows of a frame of 1x1, and the end marker
abbrev pub dot : List ℕ
dot = 0x04 ∷ 0x06 ∷ 0x02 ∷ 0x01 ∷ 0x11 ∷ 0x11 ∷ 0x05 ∷ 0x00 ∷ []

-- a file of two such frames, the second first
abbrev pub two : List ℕ
two =
    0xF6 ∷ 0x01 ∷ 0x00 ∷ 0x00 ∷ 0x02 ∷ 0x00 ∷ 0x00 ∷ 0x00 ∷ 0x07 ∷ 0x00 ∷ 0x00 ∷ 0x00 ∷ 0x26 ∷ 0x00 ∷ 0x00 ∷ 0x00 ∷ 0x14 ∷ 0x00 ∷ 0x00 ∷ 0x00
    ∷ frame 1 1 (0x04 ∷ 0x06 ∷ 0x02 ∷ 0x01 ∷ 0x22 ∷ 0x22 ∷ 0x05 ∷ 0x00 ∷ []) ++ frame 1 1 dot

-- a frame of 3x3: nothing; a copy of three colours with its pad byte; a run of two behind a pixel of background
abbrev pub valid : List ℕ
valid = frame 3 3 (0x09 ∷ 0x01 ∷ 0x04 ∷ 0x08 ∷ 0x03 ∷ 0x03 ∷ 0x11 ∷ 0x12 ∷ 0x13 ∷ 0x00 ∷ 0x04 ∷ 0x08 ∷ 0x01 ∷ 0x01 ∷ 0x02 ∷ 0x02 ∷ 0x15 ∷ 0x15 ∷ 0x05 ∷ 0x00 ∷ [])

-- frame 0 of a file on a picture of nines
abbrev pub shows : List ℕ → ℤ → ℤ → List ℕ → Row
shows s left top pic = paints 4 4 (of 16 9) s 0 left top 0 pic

abbrev pub refuses : List ℕ → ℕ → Row
refuses s n = paints 4 4 (of 16 9) s 0 (pos 0) (pos 0) n (of 16 9)

-- a frame that is accepted, and paints these pixels from the upper left on
abbrev pub accepts : List ℕ → List ℕ → Row
accepts f px = shows (file f) (pos 0) (pos 0) px

unfoldable pub seven : List Row
seven =
    shows (file valid) (pos 1) (pos 0) (of 4 9 ++ 9 ∷ 0x11 ∷ 0x12 ∷ 0x13 ∷ of 2 9 ++ 0x15 ∷ 0x15 ∷ of 4 9)
    -- 15: another version
    ∷ refuses (0xF5 ∷ 0x01 ∷ 0x00 ∷ 0x00 ∷ of 8 0) 15
    -- 16: a frame number that is not below the count
    ∷ paints 4 4 (of 16 9) (file valid) 1 (pos 0) (pos 0) 16 (of 16 9)
    -- 17: nine bytes from the frame's offset
    ∷ refuses (file (of 9 0)) 17
    -- 18: a data row that counts 3
    ∷ refuses (file (frame 1 3 (0x04 ∷ 0x03 ∷ 0x01 ∷ 0x05 ∷ 0x00 ∷ []))) 18
    -- 19: a segment of code 4
    ∷ refuses (file (frame 1 3 (0x04 ∷ 0x04 ∷ 0x04 ∷ 0x00 ∷ 0x05 ∷ 0x00 ∷ []))) 19
    -- 20: the rows are followed by something else
    ∷ refuses (file (frame 1 3 (0x09 ∷ 0x01 ∷ 0x06 ∷ 0x00 ∷ []))) 20
    ∷ []

unfoldable pub further : List Row
further =
    -- highest byte first, where the first two bytes are zero
    shows (high_file (0x00 ∷ 0x00 ∷ 0x00 ∷ 0x00 ∷ 0x00 ∷ 0x01 ∷ 0x00 ∷ 0x03 ∷ 0x00 ∷ 0x00 ∷ dot)) (pos 0) (pos 0) (0x11 ∷ of 15 9)
    ∷ refuses (high_file (frame 1 3 dot)) 18
    -- the versions at both ends, and those beside them; one whose upper half is not zero, lowest byte first
    ∷ shows (headed (0xF9 ∷ 0x01 ∷ 0x00 ∷ 0x00 ∷ []) (frame 1 1 dot)) (pos 0) (pos 0) (0x11 ∷ of 15 9)
    ∷ refuses (headed (0xFA ∷ 0x01 ∷ 0x00 ∷ 0x00 ∷ []) (frame 1 1 dot)) 15
    ∷ refuses (headed (0xF5 ∷ 0x01 ∷ 0x00 ∷ 0x00 ∷ []) (frame 1 1 dot)) 15
    ∷ refuses (headed (0xF6 ∷ 0x01 ∷ 0x01 ∷ 0x00 ∷ []) (frame 1 1 dot)) 15
    ∷ refuses (headed (0xF6 ∷ 0x00 ∷ 0x01 ∷ 0x00 ∷ []) (frame 1 1 dot)) 15
    ∷ refuses (headed (0xF6 ∷ 0x01 ∷ 0x00 ∷ 0x01 ∷ []) (frame 1 1 dot)) 15
    -- a file without bytes, with one, with a head that is cut short, and with an offset table that is; a file of no frames is whole
    ∷ refuses [] 15
    ∷ refuses (0x00 ∷ []) 15
    ∷ refuses (0xF6 ∷ 0x01 ∷ of 9 0) 15
    ∷ refuses (0xF6 ∷ 0x01 ∷ of 10 0) 16
    ∷ refuses (0xF6 ∷ 0x01 ∷ 0x00 ∷ 0x00 ∷ 0x01 ∷ of 10 0) 15
    ∷ paints 4 4 (of 16 9) (0xF6 ∷ 0x01 ∷ 0x00 ∷ 0x00 ∷ 0x01 ∷ of 10 0) 7 (pos 0) (pos 0) 15 (of 16 9)
    ∷ refuses (0xF6 ∷ 0x01 ∷ 0x00 ∷ 0x00 ∷ 0x00 ∷ 0x01 ∷ of 26 0) 15
    ∷ refuses (0xF6 ∷ 0x01 ∷ 0x00 ∷ 0x00 ∷ 0x01 ∷ 0x00 ∷ 0x01 ∷ of 25 0) 15
    -- two frames: each at its own offset
    ∷ paints 4 4 (of 16 9) two 0 (pos 0) (pos 0) 0 (0x11 ∷ of 15 9)
    ∷ paints 4 4 (of 16 9) two 1 (pos 0) (pos 0) 0 (0x22 ∷ of 15 9)
    ∷ paints 4 4 (of 16 9) two 2 (pos 0) (pos 0) 16 (of 16 9)
    -- an offset past the end, also by its upper half alone, at the end; a first word that is not zero, and a second; a fifth may be anything
    ∷ refuses (0xF6 ∷ 0x01 ∷ 0x00 ∷ 0x00 ∷ 0x01 ∷ of 7 0 ++ 0x00 ∷ 0x01 ∷ 0x00 ∷ 0x00 ∷ frame 1 1 dot) 17
    ∷ refuses (0xF6 ∷ 0x01 ∷ 0x00 ∷ 0x00 ∷ 0x01 ∷ of 7 0 ++ 0x10 ∷ 0x00 ∷ 0x01 ∷ 0x00 ∷ frame 1 1 dot) 17
    ∷ refuses (file []) 17
    ∷ refuses (file (0x01 ∷ 0x00 ∷ 0x00 ∷ 0x00 ∷ 0x01 ∷ 0x00 ∷ 0x01 ∷ 0x00 ∷ 0x00 ∷ 0x00 ∷ dot)) 17
    ∷ refuses (file (0x00 ∷ 0x01 ∷ 0x00 ∷ 0x00 ∷ 0x01 ∷ 0x00 ∷ 0x01 ∷ 0x00 ∷ 0x00 ∷ 0x00 ∷ dot)) 17
    ∷ refuses (file (0x00 ∷ 0x00 ∷ 0x00 ∷ 0x01 ∷ 0x01 ∷ 0x00 ∷ 0x01 ∷ 0x00 ∷ 0x00 ∷ 0x00 ∷ dot)) 17
    ∷ accepts (0x00 ∷ 0x00 ∷ 0x00 ∷ 0x00 ∷ 0x01 ∷ 0x00 ∷ 0x01 ∷ 0x00 ∷ 0xFF ∷ 0xFF ∷ dot) (0x11 ∷ of 15 9)
    -- an offset into the head: the palette's number and the offset itself are the frame's first words, of height 0
    ∷ shows (0x00 ∷ 0x00 ∷ 0x01 ∷ 0xF6 ∷ 0x00 ∷ 0x00 ∷ 0x00 ∷ 0x01 ∷ of 7 0 ++ 0x08 ∷ 0x00 ∷ 0x00 ∷ 0x05 ∷ 0x00 ∷ []) (pos 0) (pos 0) (of 16 9)
    -- no rows, or none of width: 05 00 at once; a data row whose segments count nothing
    ∷ accepts (frame 0 3 (0x05 ∷ 0x00 ∷ [])) (of 16 9)
    ∷ accepts (frame 1 0 (0x04 ∷ 0x08 ∷ 0x01 ∷ 0x00 ∷ 0x02 ∷ 0x00 ∷ 0x07 ∷ 0x07 ∷ 0x05 ∷ 0x00 ∷ [])) (of 16 9)
    ∷ refuses (file (frame 1 0 dot)) 19
    -- row heads: one byte, none, another code, one that a segment has; 09 up to the height and past it; a data row past the bytes
    ∷ refuses (file (frame 1 1 (0x09 ∷ []))) 18
    ∷ refuses (file (frame 1 1 [])) 18
    ∷ refuses (file (frame 1 1 (0x05 ∷ 0x00 ∷ []))) 18
    ∷ refuses (file (frame 1 1 (0x03 ∷ 0x04 ∷ 0x01 ∷ 0x01 ∷ 0x05 ∷ 0x00 ∷ []))) 18
    ∷ accepts (frame 3 1 (0x09 ∷ 0x03 ∷ 0x05 ∷ 0x00 ∷ [])) (of 16 9)
    ∷ refuses (file (frame 3 1 (0x09 ∷ 0x04 ∷ 0x05 ∷ 0x00 ∷ []))) 18
    ∷ refuses (file (frame 3 1 (0x09 ∷ 0x02 ∷ 0x09 ∷ 0x02 ∷ 0x05 ∷ 0x00 ∷ []))) 18
    ∷ refuses (file (frame 1 3 (0x04 ∷ 0x05 ∷ 0x01 ∷ 0x01 ∷ []))) 18
    ∷ refuses (file (frame 1 3 (0x04 ∷ 0x04 ∷ 0x01 ∷ 0x01 ∷ []))) 20
    -- 18 is found before 19 in the row's own bytes, and 19 before an 18 that follows
    ∷ refuses (file (frame 1 3 (0x04 ∷ 0x07 ∷ 0x04 ∷ 0x00 ∷ 0x05 ∷ 0x00 ∷ []))) 18
    ∷ refuses (file (frame 2 3 (0x04 ∷ 0x04 ∷ 0x04 ∷ 0x00 ∷ 0x07 ∷ 0x00 ∷ []))) 19
    -- 09 00 among the rows is nothing, and after the last it is no end marker
    ∷ accepts (frame 2 1 (0x09 ∷ 0x00 ∷ 0x09 ∷ 0x01 ∷ 0x09 ∷ 0x00 ∷ dot)) (of 4 9 ++ 0x11 ∷ of 11 9)
    ∷ refuses (file (frame 1 1 (0x09 ∷ 0x01 ∷ 0x09 ∷ 0x00 ∷ 0x05 ∷ 0x00 ∷ []))) 20
    -- segments: a byte left over, a code alone at the row's end; bytes of a run, of a copy and of its pad that would lie past the row's count
    ∷ refuses (file (frame 1 3 (0x04 ∷ 0x05 ∷ 0x01 ∷ 0x01 ∷ 0x01 ∷ 0x05 ∷ 0x00 ∷ []))) 19
    ∷ refuses (file (frame 1 3 (0x04 ∷ 0x05 ∷ 0x02 ∷ 0x01 ∷ 0x11 ∷ 0x05 ∷ 0x00 ∷ []))) 19
    ∷ refuses (file (frame 1 3 (0x04 ∷ 0x05 ∷ 0x03 ∷ 0x02 ∷ 0x11 ∷ 0x05 ∷ 0x00 ∷ []))) 19
    ∷ refuses (file (frame 1 3 (0x04 ∷ 0x05 ∷ 0x03 ∷ 0x01 ∷ 0x11 ∷ 0x05 ∷ 0x00 ∷ []))) 19
    ∷ refuses (file (frame 1 3 (0x04 ∷ 0x04 ∷ 0x00 ∷ 0x00 ∷ 0x05 ∷ 0x00 ∷ []))) 19
    -- a copy of none is two bytes, one of two has no pad byte
    ∷ accepts (frame 1 3 (0x04 ∷ 0x08 ∷ 0x03 ∷ 0x00 ∷ 0x03 ∷ 0x02 ∷ 0x11 ∷ 0x12 ∷ 0x05 ∷ 0x00 ∷ [])) (0x11 ∷ 0x12 ∷ of 14 9)
    -- the width may be filled and not passed, by colours as by background
    ∷ accepts (frame 1 3 (0x04 ∷ 0x08 ∷ 0x01 ∷ 0x02 ∷ 0x02 ∷ 0x01 ∷ 0x11 ∷ 0x11 ∷ 0x05 ∷ 0x00 ∷ [])) (of 2 9 ++ 0x11 ∷ of 13 9)
    ∷ refuses (file (frame 1 3 (0x04 ∷ 0x08 ∷ 0x01 ∷ 0x02 ∷ 0x02 ∷ 0x02 ∷ 0x11 ∷ 0x11 ∷ 0x05 ∷ 0x00 ∷ []))) 19
    ∷ refuses (file (frame 1 3 (0x04 ∷ 0x04 ∷ 0x01 ∷ 0x04 ∷ 0x05 ∷ 0x00 ∷ []))) 19
    -- the second byte of a run and the pad byte are not looked at
    ∷ accepts (frame 1 3 (0x04 ∷ 0x0A ∷ 0x02 ∷ 0x02 ∷ 0x11 ∷ 0x22 ∷ 0x03 ∷ 0x01 ∷ 0x12 ∷ 0x33 ∷ 0x05 ∷ 0x00 ∷ [])) (0x11 ∷ 0x11 ∷ 0x12 ∷ of 13 9)
    -- the end marker: cut short, of another second byte, and followed by anything
    ∷ refuses (file (frame 1 1 (0x09 ∷ 0x01 ∷ []))) 20
    ∷ refuses (file (frame 1 1 (0x09 ∷ 0x01 ∷ 0x05 ∷ []))) 20
    ∷ refuses (file (frame 1 1 (0x09 ∷ 0x01 ∷ 0x05 ∷ 0x01 ∷ []))) 20
    ∷ accepts (frame 1 1 (dot ++ 0x01 ∷ 0x02 ∷ 0x03 ∷ [])) (0x11 ∷ of 15 9)
    -- a background pixel between colours, and colour 0, which is one
    ∷ accepts (frame 1 4 (0x04 ∷ 0x0C ∷ 0x03 ∷ 0x01 ∷ 0x00 ∷ 0x00 ∷ 0x01 ∷ 0x01 ∷ 0x03 ∷ 0x02 ∷ 0x12 ∷ 0x13 ∷ 0x05 ∷ 0x00 ∷ [])) (0 ∷ 9 ∷ 0x12 ∷ 0x13 ∷ of 12 9)
    -- past each edge: of the frame of 3x3 what is on the picture
    ∷ shows (file valid) (negsuc 0) (pos 0) (of 4 9 ++ 0x12 ∷ 0x13 ∷ of 2 9 ++ 0x15 ∷ 0x15 ∷ of 6 9)
    ∷ shows (file valid) (pos 2) (pos 0) (of 6 9 ++ 0x11 ∷ 0x12 ∷ of 3 9 ++ 0x15 ∷ of 4 9)
    ∷ shows (file valid) (pos 0) (negsuc 1) (9 ∷ 0x15 ∷ 0x15 ∷ of 13 9)
    ∷ shows (file valid) (pos 0) (pos 2) (of 12 9 ++ 0x11 ∷ 0x12 ∷ 0x13 ∷ 9 ∷ [])
    ∷ shows (file (frame 1 1 dot)) (pos 2) (pos 1) (of 6 9 ++ 0x11 ∷ of 9 9)
    -- off the picture, just beside it and at the ends of what a position can be
    ∷ shows (file valid) (negsuc 2) (pos 0) (of 16 9)
    ∷ shows (file valid) (pos 4) (pos 0) (of 16 9)
    ∷ shows (file valid) (pos 0) (negsuc 2) (of 16 9)
    ∷ shows (file valid) (pos 0) (pos 3) (of 16 9)
    ∷ shows (file valid) (negsuc 32767) (negsuc 32767) (of 16 9)
    ∷ shows (file valid) (pos 32767) (pos 32767) (of 16 9)
    -- columns are not rows: 8x4
    ∷ paints 8 4 (of 32 9) (file valid) 0 (pos 5) (pos 1) 0 (of 21 9 ++ 0x11 ∷ 0x12 ∷ 0x13 ∷ of 6 9 ++ 0x15 ∷ 0x15 ∷ [])
    -- 1 and 2 come first, 1 before 2
    ∷ paints 6 4 (of 24 9) [] 0 (pos 0) (pos 0) 1 (of 24 9)
    ∷ paints 6 4 (of 23 9) [] 0 (pos 0) (pos 0) 1 (of 23 9)
    ∷ paints 4 4 (of 15 9) [] 0 (pos 0) (pos 0) 2 (of 15 9)
    ∷ paints 4 4 (of 17 9) (file valid) 0 (pos 0) (pos 0) 2 (of 17 9)
    ∷ []

pub examples-hold : hold (seven ++ further) ≡ true
unfolding seven further holds
examples-hold = refl
