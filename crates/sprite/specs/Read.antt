-- What the code reads of a frame, set out as the definitions' is, and 001's codes as the code has them. Assumes nothing.
use Rattle.std.specs.Prelude.{ℕ, ◌+◌, ◌≡◌, List, [], ◌∷◌, map, length, replicate, Result, Ok, Err}
use Rattle.spec.specs.declared.Refusal.{Refusal}
use Rattle.spec.specs.Answers.{ok, refusal_number}
use Rattle.sprite.specs.Held.{row_of}
use Rattle.sprite.specs.declared.heads.Segment.{Segment}
use Rattle.sprite.specs.declared.heads.SegmentCode.{SegmentCode}
use Rattle.sprite.specs.declared.heads.SegmentCode.TheVariants as Of
use Rattle.sprite.specs.declared.heads.RowHead.{RowHead}
use Rattle.sprite.specs.declared.heads.RowHead.TheVariants as Head
use Rattle.sprite.specs.declared.heads.RowCode.{RowCode}
use Rattle.sprite.specs.declared.heads.RowCode.TheVariants as At
use Rattle.sprite.specs.Frames.{Shade, row, background, colour, clear_code, run_code, copy_code, data_code, blank_code}

-- the number of each code
abbrev pub segment_code : SegmentCode → ℕ
segment_code Of.Clear = clear_code
segment_code Of.Run = run_code
segment_code Of.Copy = copy_code

abbrev pub row_code : RowCode → ℕ
row_code At.Data = data_code
row_code At.Blank = blank_code

-- what a byte is read as: the code that has its number, or this refusal where none has
abbrev pub Decodes : {C : Type 0} → (C → ℕ) → ℕ → ℕ → Result C Refusal → Type 0
Decodes number refusal byte (Ok x) = number x ≡ byte
Decodes {C} number refusal byte (Err why) = (refusal_number why ≡ refusal) × ((x : C) → ¬ (number x ≡ byte))

-- what a segment shows
abbrev pub shown : Segment → List Shade
shown (Segment.Clear n) = replicate n background
shown (Segment.Run n c) = replicate n (colour c)
shown (Segment.Copy cs) = map colour cs.now

-- as `segment_says` and `row_head_says`: a refusal is an error, and a segment has as many pixels as it shows
abbrev pub segment_result : Result (Segment × ℕ) Refusal → List ℕ
segment_result (Err why) = refusal_number why ∷ []
segment_result (Ok x) = ok ∷ length (shown x.0) ∷ x.1 ∷ []

abbrev pub row_head_result : Result RowHead Refusal → List ℕ
row_head_result (Err why) = refusal_number why ∷ []
row_head_result (Ok (Head.Blank n)) = ok ∷ blank_code ∷ n ∷ []
row_head_result (Ok (Head.Data r)) = ok ∷ data_code ∷ r.end ∷ []

-- a row with data is the file's, in a frame of this width, behind its head of two bytes
abbrev pub RowRead : List ℕ → ℕ → ℕ → RowHead → Type 0
RowRead s width at (Head.Blank n) = Unit {0}
RowRead s width at (Head.Data r) = row_of r ≡ row s width (at + 2) r.end
