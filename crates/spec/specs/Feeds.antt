-- 01, "The house feed": numbers, a feed's size and its chunks, the walk, that of a run of chunks, and one step of both. Assumes nothing.
use Rattle.std.specs.Prelude.{ℕ, zero, suc, ◌+◌, ◌-◌, ◌*◌, List, [], ◌∷◌, map, true, false, ◌&&◌, leb, ltb, eqb, length, get_or, Result, Ok, Err}
use Rattle.spec.specs.declared.Answer.{Answer}
use Rattle.spec.specs.declared.Size.{Size}
use Rattle.spec.specs.declared.Tally.{Tally}
use Rattle.spec.specs.declared.Record.{Record}
use Rattle.spec.specs.declared.Refusal.{Refusal}
use Rattle.spec.specs.declared.Varint as Code
use Rattle.spec.specs.declared.FeedSize.{FeedSize}
use Rattle.spec.specs.declared.Step.{Step}
use Rattle.spec.specs.Basics.{if, fuelled, part}
use Rattle.spec.specs.Answers.{ok, bad_size, bad_varint, feed_cut, refusal_number, answer_at, answer, checked}
use Rattle.spec.specs.Sizes.{allowed, blocks, same_size, size_of, fault}
use Rattle.spec.specs.Maps.{record_of}
use Rattle.spec.specs.Boards.{Board, Left, left, exact, read, in_turn}

-- a number is not "above 16,777,215"
abbrev pub max_number : ℕ
max_number = 16777215

-- A number as it is read at a place: 12 or 13; or its value, and the place after it
pub data Varint : Type 0 where
  Bad : ℕ → Varint
  Value : ℕ → ℕ → Varint

-- the last group b, worth `scale`, makes v with those before it: "last of several groups zero, 12; above 16,777,215, 12"
abbrev pub last_group : ℕ → ℕ → ℕ → ℕ → Varint
last_group scale b v after = if (ltb 1 scale && eqb b 0) (Bad bad_varint) (if (ltb max_number v) (Bad bad_varint) (Value v after))

-- the group at `at`, worth `scale`, with those before it making `sum`; so many may still be read. "In order: bytes end first, 13;
-- fourth group with its top bit, 12". "one to four groups of seven bits, lowest group first; the top bit set means another follows"
unfoldable pub groups : ℕ → ℕ → ℕ → List ℕ → ℕ → Varint
groups zero scale sum s at = Bad bad_varint
groups (suc more) scale sum s at =
    let b = get_or s at 0 in
    let next = groups more (scale * 128) (sum + (b - 128) * scale) s (at + 1) in
    if (leb (length s) at) (Bad feed_cut) (if (leb 128 b) next (last_group scale b (sum + b * scale) (at + 1)))

unfoldable pub varint_at : List ℕ → ℕ → Varint
varint_at s at = groups 4 1 0 s at

-- "a definition sets out this paper's number and values for each of its cases" of an answer that is an enum: 12 or 13; or 0, the value, and the
-- place after the number
abbrev pub varint_says : Varint → List ℕ
varint_says (Bad e) = e ∷ []
varint_says (Value v after) = ok ∷ v ∷ after ∷ []

-- the same of the code's, where a refusal is an error
abbrev pub varint_result : Result Code.Varint Refusal → List ℕ
varint_result (Err why) = refusal_number why ∷ []
varint_result (Ok x) = ok ∷ x.value ∷ x.after ∷ []

-- How the chunks end: all bytes are used, at this place; or with this number, 12 or 13, at this place
pub data Ending : Type 0 where
  whole : ℕ → Ending
  cut : ℕ → ℕ → Ending

-- as the walk's own answer for n blocks: with 0 it has their number, with 12 and 13 block 0
abbrev pub ended : ℕ → Ending → Answer
ended n (whole at) = answer_at ok at n
ended n (cut e at) = answer e at

-- What stands at a place: a chunk, by the places of its first byte and after its last; or the end
pub data Next : Type 0 where
  chunk : ℕ → ℕ → Next
  end : Ending → Next

-- a length number read at `at`: 12 or 13 there, 13 at "the chunk's first byte" where the feed ends inside it, or a chunk
abbrev pub chunk_at : List ℕ → ℕ → Varint → Next
chunk_at s at (Bad e) = end (cut e at)
chunk_at s at (Value n p) = if (ltb (length s) (p + n)) (end (cut feed_cut p)) (chunk p (p + n))

-- "then for each chunk its length and the chunk". A place past the end is the end
unfoldable pub next_at : List ℕ → ℕ → Next
next_at s at = if (ltb at (length s)) (chunk_at s at (varint_at s at)) (end (whole (length s)))

-- the bytes from a place up to another
abbrev pub between : List ℕ → ℕ → ℕ → List ℕ
between s first past = part s first (past - first)

-- A chunk of a feed: the places of its length number, of its first byte and after its last, and its bytes
pub record Placed : Type 0 where
  pub number_at : ℕ
  pub first : ℕ
  pub past : ℕ
  pub bytes : List ℕ

abbrev pub placed : List ℕ → ℕ → ℕ → ℕ → Placed
placed s at first past = record { number_at = at; first = first; past = past; bytes = between s first past }

-- The chunks from a place on, and how they end
pub record Chunks : Type 0 where
  pub list : List Placed
  pub ending : Ending

abbrev pub no_more : Ending → Chunks
no_more e = record { list = []; ending = e }

-- what stands at `at`, and the chunks after it
abbrev pub and_onward : (ℕ → Chunks) → List ℕ → ℕ → Next → Chunks
and_onward onward s at (end e) = no_more e
and_onward onward s at (chunk first past) =
    let rest = onward past in
    record { list = placed s at first past ∷ rest.list; ending = rest.ending }

-- each chunk takes a byte, so the feed's length is fuel enough
unfoldable pub chunks_from : ℕ → List ℕ → ℕ → Chunks
chunks_from fuel s at =
    fuelled (λ at. ltb at (length s)) (λ onward at. and_onward onward s at (next_at s at)) (λ at. no_more (whole (length s))) fuel at

-- "A feed is width/4, height/4, then": a size number that fails, with its own place; or the size that both make, and the place after them
pub data SizeNumbers : Type 0 where
  failing : Answer → SizeNumbers
  both : Size → ℕ → SizeNumbers

abbrev pub with_lines : ℕ → ℕ → Varint → SizeNumbers
with_lines c at (Bad e) = failing (answer e at)
with_lines c at (Value r p) = both (size_of c r) p

abbrev pub with_columns : List ℕ → Varint → SizeNumbers
with_columns s (Bad e) = failing (answer e 0)
with_columns s (Value c p) = with_lines c p (varint_at s p)

unfoldable pub size_numbers : List ℕ → SizeNumbers
size_numbers s = with_columns s (varint_at s 0)

-- what a feed says of its size: 12 or 13, then 1, with no size; or the size, and the place of the first chunk's length number. It is no walk, so
-- "0 from an operation added later" has place 0
abbrev pub no_size : Answer → FeedSize
no_size a = record { answer = a; size = size_of 0 0; first = 0 }

abbrev pub feed_size_by : SizeNumbers → FeedSize
feed_size_by (failing a) = no_size a
feed_size_by (both z first) = if (allowed z) (record { answer = answer ok 0; size = z; first = first }) (no_size (answer bad_size 0))

unfoldable pub feed_size : List ℕ → FeedSize
feed_size s = feed_size_by (size_numbers s)

-- A feed taken apart: size numbers that fail, or the size and the chunks
pub data Feed : Type 0 where
  broken : Answer → Feed
  sized : Size → Chunks → Feed

abbrev pub with_chunks : List ℕ → SizeNumbers → Feed
with_chunks s (failing a) = broken a
with_chunks s (both z p) = sized z (chunks_from (length s) s p)

unfoldable pub feed_of : List ℕ → Feed
feed_of s = with_chunks s (size_numbers s)

-- how many of these answers are 0
abbrev pub number_accepted : List Answer → ℕ
number_accepted [] = 0
number_accepted (a ∷ more) = if (eqb a.number ok) 1 0 + number_accepted more

-- What a call says: its answer, and for a walk those of the chunks inside it, in order, and how many of these were accepted
pub record Reply : Type 0 where
  pub inside : List Answer
  pub accepted : ℕ
  pub answer : Answer

abbrev pub reply : List Answer → Answer → Reply
reply inside a = record { inside = inside; accepted = number_accepted inside; answer = a }

-- "The walk reads each chunk in turn over what the one before it left, just as that chunk is read by itself. A refused chunk doesn't end
-- the walk; 1, 12 and 13 do". One that ends in 12 or 13 "leaves what the chunks accepted before it made"
abbrev pub read_all : Size → Chunks → Board → Left Reply
read_all z cs b =
    let ran = in_turn (read z) (map (λ c. c.bytes) cs.list) b in
    left (reply ran.said (ended (blocks z) cs.ending)) ran.board

-- a walk with one chunk more in front, which answered a
abbrev pub said_first : Answer → Left Reply → Left Reply
said_first a l = left (reply (a ∷ l.said.inside) l.said.answer) l.board

-- behind 1 and 2: "Size is checked after both numbers are read, then the lent buffers (2, which also ends the walk)"
abbrev pub walk_behind : ℕ → Size → Chunks → Board → Left Reply
walk_behind e z cs b = checked e (λ a. left (reply [] a) b) (read_all z cs b)

abbrev pub walk_chunks : Size → Chunks → Board → Left Reply
walk_chunks z cs b = walk_behind (fault z (exact z b)) z cs b

-- on a board whose record has size z: "2 where a feed's size isn't the record's", after 1 for the feed's own
abbrev pub walk_feed : Size → Feed → Board → Left Reply
walk_feed z (broken a) b = left (reply [] a) b
walk_feed z (sized y cs) b = walk_behind (fault y (same_size y z && exact y b)) z cs b

unfoldable pub walk : Size → List ℕ → Board → Left Reply
walk z s b = walk_feed z (feed_of s) b

-- "a run lent without size numbers": lengths and chunks as they stand behind the size numbers of a feed, with places from its own first byte
abbrev pub chunks_of : List ℕ → Chunks
chunks_of s = chunks_from (length s) s 0

unfoldable pub walk_run : Size → List ℕ → Board → Left Reply
walk_run z s b = walk_chunks z (chunks_of s) b

-- what it hands back: the walk's own answer, the number accepted, which is 0 on 1 and 2, where no chunk is read, and the record as it is then
abbrev pub tally : Size → Left Reply → Tally
tally z l = record { answer = l.said.answer; accepted = l.said.accepted; kept = record_of z l.board.kept }

-- One step of a walk, of a feed or of a run, from a place on. Where no chunk is read, the answer is the walk's own, and record and place are as they
-- were lent
abbrev pub no_chunk : Record → ℕ → Answer → Step
no_chunk r at a = record { answer = a; kept = r; chunk = false; next = at }

-- a chunk's answer, the record as it is then, and the place after the chunk
abbrev pub one_chunk : Size → ℕ → Left Answer → Step
one_chunk z past l = record { answer = l.said; kept = record_of z l.board.kept; chunk = true; next = past }

-- what stands there is read, "just as that chunk is read by itself"; or nothing is left to read
abbrev pub step_by : Size → List ℕ → ℕ → Next → Board → Left Step
step_by z s at (end e) b = left (no_chunk (record_of z b.kept) at (ended (blocks z) e)) b
step_by z s at (chunk first past) b =
    let l = read z (between s first past) b in
    left (one_chunk z past l) l.board

-- after 1 and 2, by the lent record and lengths: a step reads no size numbers
unfoldable pub walk_step : Size → List ℕ → ℕ → Board → Left Step
walk_step z s at b = checked (fault z (exact z b)) (λ a. left (no_chunk (record_of z b.kept) at a) b) (step_by z s at (next_at s at) b)
