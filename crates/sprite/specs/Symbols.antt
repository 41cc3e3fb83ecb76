-- 02, the first request: a frame painted on a shown picture at a position. Assumes nothing.
use Rattle.std.specs.Prelude.{ℕ, ◌/◌, ◌%◌, List, [], map, eqb, ℤ, pos, negsuc, ◌-ℤ◌, length, get_or}
use Rattle.spec.specs.declared.Answer.{Answer}
use Rattle.spec.specs.declared.Size.{Size}
use Rattle.spec.specs.Basics.{if, from}
use Rattle.spec.specs.Answers.{ok, answer, checked}
use Rattle.spec.specs.Sizes.{pixels, fault}
use Rattle.sprite.specs.Frames.{Shade, background, colour, Ended, frame}

-- a frame as a function of column and row: what lies off it, or past what its rows show, is background
abbrev pub shade_at : List (List Shade) → ℤ → ℤ → Shade
shade_at rows (pos x) (pos y) = get_or (get_or rows y []) x background
shade_at rows (pos x) (negsuc y) = background
shade_at rows (negsuc x) y = background

-- the position is that of the frame's upper left pixel: what the frame has at column x and row y of the picture
abbrev pub placed : ℤ → ℤ → List (List Shade) → ℕ → ℕ → Shade
placed left top rows x y = shade_at rows (pos x -ℤ left) (pos y -ℤ top)

-- background leaves the picture's pixel
abbrev pub upon : Shade → ℕ → ℕ
upon background p = p
upon (colour c) p = c

-- shades by column and row, laid on a picture: those off the picture are dropped
unfoldable pub overlay : Size → (ℕ → ℕ → Shade) → List ℕ → List ℕ
overlay z f pic = map (λ p. upon (f (p % z.width) (p / z.width)) (get_or pic p 0)) (from 0 (pixels z))

-- an answer, and the picture that is left
pub record Painted : Type 0 where
  pub answer : Answer
  pub picture : List ℕ

abbrev pub painted : Answer → List ℕ → Painted
painted a pic = record { answer = a; picture = pic }

-- a refusal leaves the picture as it was. "A number added later returns place 0", and "so does 0 from an operation added later"
abbrev pub paint_frame : Size → ℤ → ℤ → Ended (List Shade) → List ℕ → Painted
paint_frame z left top e pic =
    painted (answer e.number 0) (if (eqb e.number ok) (overlay z (placed left top e.made) pic) pic)

-- What painting a symbol is lent (for trust/specs/Numbers)
pub record SymbolLent : Type 0 where
  pub size : Size
  pub picture : List ℕ
  pub file : List ℕ
  pub frame : ℕ
  pub left : ℤ
  pub top : ℤ

unfoldable pub paint_symbol : Size → List ℕ → List ℕ → ℕ → ℤ → ℤ → Painted
paint_symbol z pic s k left top =
    checked (fault z (eqb (length pic) (pixels z))) (λ a. painted a pic) (paint_frame z left top (frame s k) pic)
