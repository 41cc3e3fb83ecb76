-- The board program's loop: the listing is the lines of the steps, one after the other. Assumes nothing.
use Rattle.std.specs.Prelude.{ℕ, ◌+◌, ◌≡◌, List, [], ◌++◌, true}
use Rattle.spec.specs.declared.Size.{Size}
use Rattle.spec.specs.declared.Step.{Step}
use Rattle.spec.specs.Basics.{if}
use Rattle.spec.specs.Sizes.{allowed}
use Rattle.spec.specs.Boards.{Board, Faithful}
use Rattle.spec.specs.Feeds.{walk_step}
use Rattle.spec.specs.Listing.{lines_from, step_line}

-- the lines after a step that has left a board; i is the number of its chunk
abbrev pub lines_after : Size → List ℕ → ℕ → Step → Board → List ℕ
lines_after z s i step after = if step.chunk (lines_from z s (i + 1) step.next after) []

-- what one step prints of the lines from a place on, over a board whose record is true; and that it is true again, for the next step
pub record Listed (z : Size) (s : List ℕ) (i : ℕ) (text : List ℕ) (step : Step) (after : Board) : Type 0 where
  pub lines : text ≡ step_line i step ++ lines_after z s i step after
  pub faithful : Faithful z after

abbrev pub LinesByStep : Type 0
LinesByStep =
    (z : Size) → allowed z ≡ true → (s : List ℕ) (i at : ℕ) (b : Board) → Faithful z b
    → Listed z s i (lines_from z s i at b) (walk_step z s at b).said (walk_step z s at b).board
