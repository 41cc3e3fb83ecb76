-- Demand 1: "On every refusal all lent buffers are unchanged": "record, map and picture", the fresh map, the output, a symbol's picture. Over any
-- sizes and lengths. Assumes nothing.
use Rattle.std.specs.Prelude.{ℕ, ◌≡◌, ◌≢◌, List, [], ℤ}
use Rattle.spec.specs.declared.Answer.{Answer}
use Rattle.spec.specs.declared.Size.{Size}
use Rattle.spec.specs.Answers.{ok, bad_varint, feed_cut}
use Rattle.spec.specs.Maps.{fresh_map}
use Rattle.spec.specs.Boards.{Board, Left, left, read}
use Rattle.spec.specs.Writing.{write}
use Rattle.spec.specs.Feeds.{broken, feed_of, Reply, reply, walk, walk_run, walk_step}
use Rattle.sprite.specs.Symbols.{paint_symbol}

-- refused, with none of the numbers that may leave something made: "a walk of a feed or of a run of chunks that ends in 12 or 13 leaves what the
-- chunks accepted before it made"
abbrev pub Unchanged : Board → Left Reply → Type 0
Unchanged b l =
    let n = l.said.answer.number in
    n ≢ ok → n ≢ bad_varint → n ≢ feed_cut → l.board ≡ b

pub record Refusals : Type 0 where
  pub reading : (z : Size) (s : List ℕ) (b : Board) → (read z s b).said.number ≢ ok → (read z s b).board ≡ b
  pub walking : (z : Size) (s : List ℕ) (b : Board) → Unchanged b (walk z s b)
  pub running : (z : Size) (s : List ℕ) (b : Board) → Unchanged b (walk_run z s b)
  -- 12 and 13 in the size numbers: nothing was read
  pub unsized : (z : Size) (s : List ℕ) (a : Answer) (b : Board) → feed_of s ≡ broken a → walk z s b ≡ left (reply [] a) b
  -- a step has read one chunk at most, so nothing was made before it
  pub stepping : (z : Size) (s : List ℕ) (at : ℕ) (b : Board) → (walk_step z s at b).said.answer.number ≢ ok → (walk_step z s at b).board ≡ b
  -- a fresh start leaves the map, a write the output, and a symbol the picture
  pub starting : (z : Size) (m : List ℕ) → (fresh_map z m).answer.number ≢ ok → (fresh_map z m).map ≡ m
  pub writing : (z : Size) (old new out : List ℕ) → (write z old new out).answer.number ≢ ok → (write z old new out).output ≡ out
  pub painting : (z : Size) (pic s : List ℕ) (k : ℕ) (left top : ℤ)
      → (paint_symbol z pic s k left top).answer.number ≢ ok → (paint_symbol z pic s k left top).picture ≡ pic
