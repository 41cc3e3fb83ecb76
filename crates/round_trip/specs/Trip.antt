-- Writing a chunk, and reading it back over the picture that it was written for. No reading is spoken of here: the new picture is simply
-- there, with its marks in the map. Assumes nothing.
use Rattle.std.specs.Prelude.{◌&&◌, List, eqb, ltb, length, ℕ}
use Rattle.spec.specs.declared.Answer.{Answer}
use Rattle.spec.specs.declared.Size.{Size}
use Rattle.spec.specs.Basics.{if}
use Rattle.spec.specs.Answers.{ok, output_short, answer_at, answer, checked}
use Rattle.spec.specs.Sizes.{pixels, blocks, fault}
use Rattle.spec.specs.Maps.{unsettled}
use Rattle.spec.specs.Boards.{Board, board, exact}
use Rattle.spec.specs.Writing.{chunk_for, onto}
use Rattle.trust.specs.RoundTrip.{marked}

-- a picture and a map with the record that counting the map gives
abbrev pub lent_board : List ℕ → List ℕ → Board
lent_board pic m = board pic m (unsettled m)

-- the answer, and what board and output then hold
pub record Trip : Type 0 where
  pub answer : Answer
  pub board : Board
  pub output : List ℕ

abbrev pub trip : Answer → Board → List ℕ → Trip
trip a b out = record { answer = a; board = b; output = out }

-- 1 and 2, for board and new picture, then 14: all is as it was. Otherwise reading answers 0 with the length written and the number of blocks,
-- and leaves the new picture; the written blocks are settled, and every other entry is as it was
unfoldable pub round_trip : Size → List ℕ → Board → List ℕ → Trip
round_trip z new b out =
    let chunk = chunk_for z b.picture new in
    checked (fault z (exact z b && eqb (length new) (pixels z))) (λ a. trip a b out)
    (if (ltb (length out) (length chunk)) (trip (answer output_short 0) b out)
    (trip (answer_at ok (length chunk) (blocks z)) (lent_board new (marked z b.picture new b.map)) (onto chunk out)))
