-- The numbers that painting a symbol answers with: 0, 1, 2 and 15 to 20, no other, and an input for each of them. Assumes nothing.
use Prim.Native.Nat.{ℕ, ◌+◌, ◌-◌}
use mathlib.Core.Path.{◌≡◌, refl}
use mathlib.Core.Logic.{◌≢◌}
use mathlib.Core.List.{List, [], ◌∷◌, map}
use mathlib.Core.Bool.{Bool}
use lib.Dec.{ltb, eqb}
use lib.IntN.{ℤ, pos}
use lib.ListN.{length}
use borrow.Author.Tests.{ne_eqb}
use Rattle.spec.specs.declared.Size.{Size}
use Rattle.spec.specs.Basics.{if, fuelled, Among, here, there}
use Rattle.spec.specs.Answers.{ok, bad_sprite, no_such_frame, bad_frame, bad_row, bad_segment, no_end_marker, checked}
use Rattle.spec.specs.Sizes as Sizes
use Rattle.spec.specs.Rows.{size, of}
use Rattle.spec.proofs.Lists.{by-test, by_number}
use Rattle.spec.proofs.Limits.{by-fault}
use Rattle.spec.proofs.Fuel.{by-fuel}
use Rattle.sprite.specs.Files as Files
use Rattle.sprite.specs.Frames as Frames
use Rattle.sprite.specs.Frames.{Segment, RowHead}
use Rattle.sprite.specs.Frames.{Shade, Reading, reading, Turn, stop, more, Ended, follow, segment_at, segment_turn, row, row_at, row_turn, frame}
use Rattle.sprite.specs.Symbols.{placed, overlay, Painted, painted, SymbolLent, paint_symbol}
use Rattle.sprite.specs.Examples as Examples

-- of a frame, and of a symbol, where 1 and 2 come first
abbrev frame_numbers : List ℕ
frame_numbers = ok ∷ bad_sprite ∷ no_such_frame ∷ bad_frame ∷ bad_row ∷ bad_segment ∷ no_end_marker ∷ []

abbrev pub symbol_numbers : List ℕ
symbol_numbers = 0 ∷ 1 ∷ 2 ∷ 15 ∷ 16 ∷ 17 ∷ 18 ∷ 19 ∷ 20 ∷ []

abbrev Given : ℕ → Type 0
Given n = Among n frame_numbers

-- what holds of every number that reading one thing after the other can end with
abbrev Stops : {A : Type 0} → (ℕ → Type 0) → Turn A → Type 0
Stops P (stop e) = P e
Stops P (more l next) = Unit {0}

module _ {A : Type 0} (P : ℕ → Type 0) where
  follow-number : (onward : Reading A → Ended A) (made : List A) (x : Turn A) → ((st : Reading A) → P (onward st).number) → Stops P x
      → P (follow onward made x).number
  follow-number onward made (stop e) h p = p
  follow-number onward made (more l next) h p = h _

  gather-number : (test : Reading A → Bool) (turn : Reading A → Turn A) (last : ℕ → ℕ) → ((st : Reading A) → Stops P (turn st))
      → ((at : ℕ) → P (last at)) → (fuel : ℕ) (st : Reading A) → P (Frames.gather test turn last fuel st).number
  unfolding Frames.gather
  gather-number test turn last h g fuel st =
      by-fuel _ _ _ (λ (st : Reading A). Unit {0}) (λ (r : Ended A). P r.number)
      (λ onward st t i next. follow-number onward st.made (turn st) (λ st'. next st' tt) (h st))
      (λ st i. g st.at) fuel st tt

module _ (s : List ℕ) where
  -- 15, 16, 17 or 0
  fault-number : (k : ℕ) → Given (Files.frame_fault s k)
  unfolding Files.frame_fault
  fault-number k =
      by-test Given (Files.is_sprite s)
      (λ t. by-test Given (ltb k (Files.frame_count s))
      (λ t. by-test Given (Files.is_frame s (Files.offset_of s k)) (λ t. here) (λ t. there (there (there here))))
      (λ t. there (there here)))
      (λ t. there here)

  -- 19 or 0
  segment-number : (at : ℕ) (x : Segment) → Stops Given (segment_turn s at x)
  segment-number at Segment.Bad = there (there (there (there (there here))))
  segment-number at (Segment.Pixels n next) = tt

  row_number : (width at end : ℕ) → Given (row s width at end).number
  unfolding Frames.row_from
  row_number width at end =
      gather-number Given _ _ _
      (λ st. segment-number st.at (segment_at s end (width - length st.made) st.at)) (λ at. here) _ (reading at [])

  -- 18, 19, 20 or 0
  head-number : (width at : ℕ) (x : RowHead) → Stops Given (row_turn s width at x)
  head-number width at RowHead.Bad = there (there (there (there here)))
  head-number width at (RowHead.Blank n) = tt
  head-number width at (RowHead.Data end) =
      by-test (Stops Given) (eqb (row s width (at + 2) end).number ok) (λ t. tt) (λ t. row_number width (at + 2) end)

  marker-number : (at : ℕ) → Given (Frames.marker s at)
  unfolding Frames.marker
  marker-number at = by-test Given _ (λ t. here) (λ t. there (there (there (there (there (there here))))))

  rows-number : (height width at : ℕ) → Given (Frames.rows s height width at).number
  unfolding Frames.rows_from
  rows-number height width at =
      gather-number Given _ _ _
      (λ st. head-number width st.at (row_at s (height - length st.made) st.at)) marker-number _ (reading at [])

frame-number : (s : List ℕ) (k : ℕ) → Among (frame s k).number frame_numbers
unfolding frame
frame-number s k =
    by-test (λ (r : Ended (List Shade)). Given r.number) (eqb (Files.frame_fault s k) ok) (λ t. rows-number s _ _ _) (λ t. fault-number s k)

among-symbol : {n : ℕ} → Among n frame_numbers → Among n symbol_numbers
among-symbol here = here
among-symbol (there h) = there (there (there h))

module _ (z : Size) (pic s : List ℕ) (k : ℕ) (left top : ℤ) where
  pub symbol-number : Among (paint_symbol z pic s k left top).answer.number symbol_numbers
  unfolding paint_symbol
  symbol-number =
      by_number (λ (l : Painted). Among l.answer.number symbol_numbers) _ (λ a. painted a pic)
      (λ h. by-fault (λ (n : ℕ). Among n symbol_numbers) z _ h (there here) (there (there here)))
      (λ e. among-symbol (frame-number s k))

  frame_refused : (frame s k).number ≢ ok → if (eqb (frame s k).number ok) (overlay z (placed left top (frame s k).made) pic) pic ≡ pic
  unfolding if
  frame_refused h = rw (ne_eqb (frame s k).number ok h)

  -- a refusal leaves the picture as it was
  pub refused-symbol : (paint_symbol z pic s k left top).answer.number ≢ ok → (paint_symbol z pic s k left top).picture ≡ pic
  unfolding paint_symbol
  refused-symbol =
      by_number (λ (l : Painted). l.answer.number ≢ ok → l.picture ≡ pic) _ (λ a. painted a pic) (λ h g. refl) (λ e. frame_refused)

-- an input for each number: what comes first is refused first, so little of the others is needed
abbrev lent : ℕ → ℕ → List ℕ → ℕ → SymbolLent
lent height pixels s k =
    record {
      size = size 4 height;
      picture = of pixels 9;
      file = s;
      frame = k;
      left = pos 0;
      top = pos 0;
    }

unfoldable pub symbols_lent : List SymbolLent
symbols_lent =
    lent 4 16 (Examples.file (Examples.frame 1 1 Examples.dot)) 0
    -- 1: a height that is no multiple of 4; 2: a picture that is a pixel short
    ∷ lent 6 24 [] 0
    ∷ lent 4 15 [] 0
    -- 15: a file without bytes; 16: a frame past the last; 17: none of the frame's bytes
    ∷ lent 4 16 [] 0
    ∷ lent 4 16 (Examples.file []) 1
    ∷ lent 4 16 (Examples.file []) 0
    -- 18: no row; 19: a segment of one pixel in a frame of width 0; 20: nothing after the rows
    ∷ lent 4 16 (Examples.file (Examples.frame 1 1 [])) 0
    ∷ lent 4 16 (Examples.file (Examples.frame 1 0 Examples.dot)) 0
    ∷ lent 4 16 (Examples.file (Examples.frame 1 1 (0x09 ∷ 0x01 ∷ []))) 0
    ∷ []

pub symbol-given :
    map (λ (x : SymbolLent). (paint_symbol x.size x.picture x.file x.frame x.left x.top).answer.number) symbols_lent ≡ symbol_numbers
unfolding if fuelled checked Sizes.side Sizes.fault Files.joined Files.is_sprite Files.is_frame Files.frame_fault
    Frames.gather Frames.segment_bytes segment_at Frames.shades Frames.row_from row_at Frames.marker Frames.rows_from frame
    overlay paint_symbol symbols_lent
symbol-given = refl
