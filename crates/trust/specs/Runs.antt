-- A run of chunks does what its chunks do handed over singly, the walk of a feed is its size numbers followed by a run, or 1 or 2 where these are not
-- the record's size, a walk is its steps, and an answer of 0 says that all was used. Assumes nothing.
use Rattle.std.specs.Prelude.{ℕ, ◌+◌, ◌≡◌, ◌≢◌, List, [], map, true, false, eqb, length, drop}
use Rattle.spec.specs.declared.Answer.{Answer}
use Rattle.spec.specs.declared.Size.{Size}
use Rattle.spec.specs.Basics.{if, Every}
use Rattle.spec.specs.Answers.{ok, bad_size, bad_length, answer_at, answer}
use Rattle.spec.specs.Sizes.{blocks, same_size, fault}
use Rattle.spec.specs.Boards.{Board, Left, left, exact, read, in_turn}
use Rattle.spec.specs.Feeds.{ended, chunk, next_at, between, chunks_from, both, size_numbers, number_accepted, Reply, reply, walk_chunks, walk}
use Rattle.spec.specs.Feeds.{feed_size, said_first, chunks_of, walk_run, one_chunk, walk_step}

-- the chunks of a run handed over one by one: what each reading answers, and the board at the end
abbrev pub singly : Size → List ℕ → Board → Left (List Answer)
singly z s b = in_turn (read z) (map (λ c. c.bytes) (chunks_of s).list) b

-- for every run, size and board: refused chunks in the middle, an end in 12 or 13, and a board that gets 1 or 2 included
pub record Singly (z : Size) (s : List ℕ) (b : Board) : Type 0 where
  -- the same picture, map and record
  pub boards : (walk_run z s b).board ≡ (singly z s b).board
  -- the number accepted is how many of the readings answer 0
  pub accepted : (walk_run z s b).said.accepted ≡ number_accepted (singly z s b).said
  -- the same answers, and then the run's own, which its bytes and the size decide
  pub answers : fault z (exact z b) ≡ ok → (walk_run z s b).said ≡ reply (singly z s b).said (ended (blocks z) (chunks_of s).ending)
  -- where the run gets 1 or 2, so does each of the readings
  pub refusals : fault z (exact z b) ≢ ok → Every (λ a. a ≡ (walk_run z s b).said.answer) (singly z s b).said

abbrev pub HandedSingly : Type 0
HandedSingly = (z : Size) (s : List ℕ) (b : Board) → Singly z s b

-- what a run answers, told by a feed in which it stands behind p bytes: "Places count from 0 at the chunk's first byte; for the walk's own
-- 0, 12 and 13, at the first byte of the feed, or of a run lent without size numbers". 1 and 2 have place 0 in both
abbrev pub behind : ℕ → Answer → Answer
behind p a =
    let further = answer_at a.number (p + a.place) a.block in
    if (eqb a.number bad_size) a (if (eqb a.number bad_length) a further)

-- a walk that has come by its size in p bytes, and goes on as a run
abbrev pub after_numbers : ℕ → Left Reply → Left Reply
after_numbers p l = left (reply l.said.inside (behind p l.said.answer)) l.board

abbrev pub SizeThenRun : Type 0
SizeThenRun = (s : List ℕ) (z : Size) (p : ℕ) → size_numbers s ≡ both z p → (b : Board) → walk z s b ≡ after_numbers p (walk_run z (drop p s) b)

-- where the size numbers are not the record's size: 1 if that size is not allowed, else 2, nothing read, all as it was
abbrev pub OtherSize : Type 0
OtherSize =
    (s : List ℕ) (y z : Size) (p : ℕ) → size_numbers s ≡ both y p → same_size y z ≡ false
    → (b : Board) → walk z s b ≡ left (reply [] (answer (fault y false) 0)) b

-- where a walk answers 0, all of its bytes are used: the place is the length of the run, or of the feed
pub record AllUsed (z : Size) (s : List ℕ) (b : Board) : Type 0 where
  pub run : (walk_run z s b).said.answer.number ≡ ok → (walk_run z s b).said.answer.place ≡ length s
  pub feed : (walk z s b).said.answer.number ≡ ok → (walk z s b).said.answer.place ≡ length s

abbrev pub UsedUp : Type 0
UsedUp = (z : Size) (s : List ℕ) (b : Board) → AllUsed z s b

-- the walk from a place on: of a run, or of a feed behind its size numbers
abbrev pub walk_from : Size → List ℕ → ℕ → Board → Left Reply
walk_from z s at b = walk_chunks z (chunks_from (length s) s at) b

pub record Steps (z : Size) (s : List ℕ) (at : ℕ) (b : Board) : Type 0 where
  -- where size and lengths are right, a step is a reading of the chunk that stands there
  pub reads :
      fault z (exact z b) ≡ ok → (p q : ℕ) → next_at s at ≡ chunk p q
      → let l = read z (between s p q) b in
      walk_step z s at b ≡ left (one_chunk z q l) l.board
  -- and the walk from there on is the step, and the walk from the place that it gives, over what it left; or what the step answers, nothing read
  pub onward :
      (walk_step z s at b).said.chunk ≡ true
      → let l = walk_step z s at b in
      walk_from z s at b ≡ said_first l.said.answer (walk_from z s l.said.next l.board)
  pub ends : (walk_step z s at b).said.chunk ≡ false → walk_from z s at b ≡ left (reply [] (walk_step z s at b).said.answer) b

-- and so are the whole walks: a run from its first byte on, a feed from the place that its size numbers give (`feed_size`)
pub record StepByStep : Type 0 where
  pub steps : (z : Size) (s : List ℕ) (at : ℕ) (b : Board) → Steps z s at b
  pub run : (z : Size) (s : List ℕ) (b : Board) → walk_run z s b ≡ walk_from z s 0 b
  pub feed :
      (s : List ℕ) (b : Board) → (feed_size s).answer.number ≡ ok
      → let f = feed_size s in
      walk f.size s b ≡ walk_from f.size s f.first b
