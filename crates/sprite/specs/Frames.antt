-- 01, "Sprites", and the codes of 001: what a frame shows, row by row and segment by segment, and the refusals 18, 19 and 20.
-- Assumes nothing. Here s are the file's bytes; a row and a segment each start with two bytes, a code and a count.
use Rattle.std.specs.Prelude.{ℕ, suc, ◌+◌, ◌-◌, ◌%◌, List, [], ◌∷◌, ◌++◌, map, Bool, ◌&&◌, leb, ltb, eqb, length, get_or, replicate}
use Rattle.spec.specs.Basics.{if, fuelled, part}
use Rattle.spec.specs.Answers.{ok, bad_row, bad_segment, no_end_marker}
use Rattle.sprite.specs.Files.{frame_bytes, height_at, width_at, offset_of, frame_fault}

-- What a frame has for a pixel: background, or a colour of the palette
pub data Shade : Type 0 where
  background : Shade
  colour : ℕ → Shade

-- Reading one thing after the other: the next place, and what has been read
pub record Reading (A : Type 0) : Type 0 where
  pub at : ℕ
  pub made : List A

abbrev pub reading : {A : Type 0} → ℕ → List A → Reading A
reading at made = record { at = at; made = made }

-- what stands at a place leads to: a refusal's number; or more, and the place after it
pub data Turn (A : Type 0) : Type 0 where
  stop : ℕ → Turn A
  more : List A → ℕ → Turn A

-- at the end: a refusal's number or 0, and what was read up to there
pub record Ended (A : Type 0) : Type 0 where
  pub number : ℕ
  pub made : List A

abbrev pub ended : {A : Type 0} → ℕ → List A → Ended A
ended e made = record { number = e; made = made }

abbrev pub follow : {A : Type 0} → (Reading A → Ended A) → List A → Turn A → Ended A
follow onward made (stop e) = ended e made
follow onward made (more l next) = onward (reading next (made ++ l))

-- while the test holds; `last` is the number at its end. Each turn takes a byte, so one more than the bytes is fuel enough
unfoldable pub gather : {A : Type 0} → (Reading A → Bool) → (Reading A → Turn A) → (ℕ → ℕ) → ℕ → Reading A → Ended A
gather test turn last fuel st =
    fuelled test (λ onward st. follow onward st.made (turn st)) (λ st. ended (last st.at) st.made) fuel st

abbrev pub code_at : List ℕ → ℕ → ℕ
code_at s at = get_or s at 0

abbrev pub count_at : List ℕ → ℕ → ℕ
count_at s at = get_or s (at + 1) 0

-- 001's codes of segments: pixels of background, a run of one colour, a colour for each pixel
abbrev pub clear_code : ℕ
clear_code = 1

abbrev pub run_code : ℕ
run_code = 2

abbrev pub copy_code : ℕ
copy_code = 3

-- and of rows: one with data, the end marker, rows of background
abbrev pub data_code : ℕ
data_code = 4

abbrev pub end_code : ℕ
end_code = 5

abbrev pub blank_code : ℕ
blank_code = 9

-- the bytes of a segment, code and count included; 0 where the code is none of the three. A run has its colour twice, and a copy whose count
-- is odd has a pad byte: "The second byte of a run and the pad byte must be there and aren't looked at"
unfoldable pub segment_bytes : ℕ → ℕ → ℕ
segment_bytes code n =
    if (eqb code clear_code) 2 (if (eqb code run_code) 4 (if (eqb code copy_code) (2 + n + n % 2) 0))

-- A segment as it is read at a place: 19; or how many pixels it has, and the place after it
pub data Segment : Type 0 where
  Bad : Segment
  Pixels : ℕ → ℕ → Segment

-- the segment at a place of a row that ends at `end` and has room for so many pixels more: how many pixels it has, and the place after it.
-- "its segments fill that count exactly and the width is not passed"; "segment counts may be 0"
unfoldable pub segment_at : List ℕ → ℕ → ℕ → ℕ → Segment
segment_at s end room at =
    let size = segment_bytes (code_at s at) (count_at s at) in
    if (ltb end (at + 2)) Segment.Bad
    (if (eqb size 0) Segment.Bad
    (if (ltb end (at + size)) Segment.Bad
    (if (ltb room (count_at s at)) Segment.Bad (Segment.Pixels (count_at s at) (at + size)))))

-- "a definition sets out this paper's number and values for each of its cases" of an answer that is an enum: 19; or 0 and the two values
abbrev pub segment_says : Segment → List ℕ
segment_says Segment.Bad = bad_segment ∷ []
segment_says (Segment.Pixels n next) = ok ∷ n ∷ next ∷ []

-- the number comes first in what is said
abbrev pub number_said : List ℕ → ℕ
number_said says = get_or says 0 0

-- what it shows
unfoldable pub shades : List ℕ → ℕ → List Shade
shades s at =
    if (eqb (code_at s at) run_code) (replicate (count_at s at) (colour (get_or s (at + 2) 0)))
    (if (eqb (code_at s at) copy_code) (map colour (part s (at + 2) (count_at s at))) (replicate (count_at s at) background))

abbrev pub segment_turn : List ℕ → ℕ → Segment → Turn Shade
segment_turn s at Segment.Bad = stop (number_said (segment_says Segment.Bad))
segment_turn s at (Segment.Pixels n next) = more (shades s at) next

-- A row with data in a frame of this width: its segments up to `end`, from a place on and after what has been read. What they leave of the
-- width is background
unfoldable pub row_from : List ℕ → ℕ → ℕ → Reading Shade → Ended Shade
row_from s width end st =
    gather (λ st. ltb st.at end) (λ st. segment_turn s st.at (segment_at s end (width - length st.made) st.at)) (λ at. ok)
    (suc (length s)) st

abbrev pub row : List ℕ → ℕ → ℕ → ℕ → Ended Shade
row s width at end = row_from s width end (reading at [])

-- A row's head as it is read at a place: 18; or so many rows of background, or a row with data up to a place
pub data RowHead : Type 0 where
  Bad : RowHead
  Blank : ℕ → RowHead
  Data : ℕ → RowHead

-- the head of a row at a place, where so many rows remain: so many rows of background, or a row with data up to a place.
-- "A data row counts at least 4 bytes"; "09 .. may be 0"
unfoldable pub row_at : List ℕ → ℕ → ℕ → RowHead
row_at s room at =
    let n = count_at s at in
    if (ltb (length s) (at + 2)) RowHead.Bad
    (if (eqb (code_at s at) blank_code) (if (ltb room n) RowHead.Bad (RowHead.Blank n))
    (if (eqb (code_at s at) data_code) (if (ltb n 4) RowHead.Bad (if (ltb (length s) (at + n)) RowHead.Bad (RowHead.Data (at + n)))) RowHead.Bad))

-- likewise: 18; or 0, the code of what it is, and the rows or the place
abbrev pub row_head_says : RowHead → List ℕ
row_head_says RowHead.Bad = bad_row ∷ []
row_head_says (RowHead.Blank n) = ok ∷ blank_code ∷ n ∷ []
row_head_says (RowHead.Data end) = ok ∷ data_code ∷ end ∷ []

abbrev pub data_turn : ℕ → Ended Shade → Turn (List Shade)
data_turn end r = if (eqb r.number ok) (more (r.made ∷ []) end) (stop r.number)

abbrev pub row_turn : List ℕ → ℕ → ℕ → RowHead → Turn (List Shade)
row_turn s width at RowHead.Bad = stop (number_said (row_head_says RowHead.Bad))
row_turn s width at (RowHead.Blank n) = more (replicate n []) (at + 2)
row_turn s width at (RowHead.Data end) = data_turn end (row s width (at + 2) end)

-- "then 05 00; bytes after the marker are ignored"; if not, 20
unfoldable pub marker : List ℕ → ℕ → ℕ
marker s at = if (leb (at + 2) (length s) && (eqb (code_at s at) end_code && eqb (count_at s at) 0)) ok no_end_marker

-- "Exactly height rows": 18 and 19 in reading order while rows remain, then 20
unfoldable pub rows_from : List ℕ → ℕ → ℕ → Reading (List Shade) → Ended (List Shade)
rows_from s height width st =
    gather (λ st. ltb (length st.made) height) (λ st. row_turn s width st.at (row_at s (height - length st.made) st.at)) (marker s)
    (suc (length s)) st

abbrev pub rows : List ℕ → ℕ → ℕ → ℕ → Ended (List Shade)
rows s height width at = rows_from s height width (reading at [])

-- what frame k of a file shows, row by row; where its number is not 0 it is refused
unfoldable pub frame : List ℕ → ℕ → Ended (List Shade)
frame s k =
    let at = offset_of s k in
    if (eqb (frame_fault s k) ok) (rows s (height_at s at) (width_at s at) (at + frame_bytes)) (ended (frame_fault s k) [])
