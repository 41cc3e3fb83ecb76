-- Every answer of what reads or writes chunks has the block that goes with its number. Assumes nothing.
use Rattle.std.specs.Prelude.{ℕ, List}
use Rattle.spec.specs.declared.Size.{Size}
use Rattle.spec.specs.Basics.{Every}
use Rattle.spec.specs.Answers.{Stopped}
use Rattle.spec.specs.Sizes.{blocks}
use Rattle.spec.specs.Boards.{Board, read}
use Rattle.spec.specs.Writing.{write}
use Rattle.spec.specs.Feeds.{Reply, walk, walk_run, walk_step}

-- a walk's own answer, and those of the chunks inside it
abbrev pub AllStopped : ℕ → Reply → Type 0
AllStopped n r = Stopped n r.answer × Every (Stopped n) r.inside

-- whatever is lent: sizes that are not allowed and wrong lengths included
pub record Stops : Type 0 where
  pub reading : (z : Size) (s : List ℕ) (b : Board) → Stopped (blocks z) (read z s b).said
  pub writing : (z : Size) (old new out : List ℕ) → Stopped (blocks z) (write z old new out).answer
  pub running : (z : Size) (s : List ℕ) (b : Board) → AllStopped (blocks z) (walk_run z s b).said
  pub walking : (z : Size) (s : List ℕ) (b : Board) → AllStopped (blocks z) (walk z s b).said
  pub stepping : (z : Size) (s : List ℕ) (at : ℕ) (b : Board) → Stopped (blocks z) (walk_step z s at b).said.answer
