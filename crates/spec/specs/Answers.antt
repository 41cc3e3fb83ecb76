-- 01, "Numbered outcomes", and the numbers of later requests: the name of each, and what it is given for. Assumes nothing.
use Rattle.std.specs.Prelude.{ℕ, zero, suc, ◌<◌, ◌≤◌, Result, Ok, Err}
use Rattle.spec.specs.declared.Answer.{Answer}
use Rattle.spec.specs.declared.Refusal.{Refusal}
use Rattle.spec.specs.declared.Refusal.TheVariants as Why

-- accepted
abbrev pub ok : ℕ
ok = 0

-- width or height not allowed
abbrev pub bad_size : ℕ
bad_size = 1

-- a lent picture or map is not of the exact length, or a feed's size is not the record's
abbrev pub bad_length : ℕ
bad_length = 2

-- chunk under 4 bytes
abbrev pub chunk_short : ℕ
chunk_short = 3

-- stated length differs from the bytes given
abbrev pub length_differs : ℕ
length_differs = 4

-- bytes end before an opcode, blocks remain
abbrev pub blocks_remain : ℕ
blocks_remain = 5

-- bytes end inside an opcode
abbrev pub opcode_cut : ℕ
opcode_cut = 6

-- opcode F
abbrev pub opcode_unknown : ℕ
opcode_unknown = 7

-- copy with no such block before: 2, 3 at block 0; 4, 5 at block 0 or 1
abbrev pub none_before : ℕ
none_before = 8

-- opcode runs past the last block
abbrev pub past_last_block : ℕ
past_last_block = 9

-- entry not filled in this chunk
abbrev pub entry_empty : ℕ
entry_empty = 10

-- bytes follow the last block, and are no padding
abbrev pub bytes_follow : ℕ
bytes_follow = 11

-- feed number badly formed
abbrev pub bad_varint : ℕ
bad_varint = 12

-- feed ends inside a number or a chunk
abbrev pub feed_cut : ℕ
feed_cut = 13

-- output too short
abbrev pub output_short : ℕ
output_short = 14

-- a sprite file's head or offset table is cut short, or its version is another
abbrev pub bad_sprite : ℕ
bad_sprite = 15

-- there is no frame of this number
abbrev pub no_such_frame : ℕ
no_such_frame = 16

-- a frame's head is cut short, or one of its first two words is not zero
abbrev pub bad_frame : ℕ
bad_frame = 17

-- a row's head is cut short, has another code, counts under 4, or goes past the height or the bytes
abbrev pub bad_row : ℕ
bad_row = 18

-- a segment has another code, or goes past its row's count or the width
abbrev pub bad_segment : ℕ
bad_segment = 19

-- the end marker does not follow the rows
abbrev pub no_end_marker : ℕ
no_end_marker = 20

-- the new count would fall below 0 or above the number of blocks
abbrev pub bad_count : ℕ
bad_count = 21

-- "a definition sets out this paper's number" for each case of a refusal, which the code has as an enum; and of what succeeds or is refused
abbrev pub refusal_number : Refusal → ℕ
refusal_number Why.BadSize = bad_size
refusal_number Why.BadLength = bad_length
refusal_number Why.ChunkShort = chunk_short
refusal_number Why.LengthDiffers = length_differs
refusal_number Why.BlocksRemain = blocks_remain
refusal_number Why.OpcodeCut = opcode_cut
refusal_number Why.OpcodeUnknown = opcode_unknown
refusal_number Why.NoneBefore = none_before
refusal_number Why.PastLastBlock = past_last_block
refusal_number Why.EntryEmpty = entry_empty
refusal_number Why.BytesFollow = bytes_follow
refusal_number Why.BadVarint = bad_varint
refusal_number Why.FeedCut = feed_cut
refusal_number Why.OutputShort = output_short
refusal_number Why.BadSprite = bad_sprite
refusal_number Why.NoSuchFrame = no_such_frame
refusal_number Why.BadFrame = bad_frame
refusal_number Why.BadRow = bad_row
refusal_number Why.BadSegment = bad_segment
refusal_number Why.NoEndMarker = no_end_marker
refusal_number Why.BadCount = bad_count

abbrev pub number_of : {A : Type 0} → Result A Refusal → ℕ
number_of (Ok x) = ok
number_of (Err why) = refusal_number why

-- a number, a place, and the block at which it stopped
abbrev pub answer_at : ℕ → ℕ → ℕ → Answer
answer_at number place block = record { number = number; place = place; block = block }

-- at block 0: where no block has been come to, and in the 0 of what reads and writes no chunk
abbrev pub answer : ℕ → ℕ → Answer
answer number place = answer_at number place 0

-- The block that goes with each number in what reads or writes chunks, for n blocks (trust/specs/Stops): with 0 and 11 the number of blocks,
-- with 5 to 10 one of them, the first still waiting at that place (trust/specs/Waiting), with all others 0. Which numbers a call can answer with,
-- trust/specs/Numbers says
pub data Stopped (n : ℕ) : Answer → Type 0 where
  done : {place : ℕ} → Stopped n (answer_at ok place n)
  follows : {place : ℕ} → Stopped n (answer_at bytes_follow place n)
  waits : {number place block : ℕ} → blocks_remain ≤ number → number ≤ entry_empty → block < n → Stopped n (answer_at number place block)
  before : {number place : ℕ} → ok < number → number < blocks_remain → Stopped n (answer number place)
  beyond : {number place : ℕ} → bytes_follow < number → Stopped n (answer number place)

-- 1 and 2 come before anything else, at place 0: where one of them is given, that is the answer, and nothing else is looked at
unfoldable pub checked : {A : Type 0} → ℕ → (Answer → A) → A → A
checked zero refuse go = go
checked (suc e) refuse go = refuse (answer (suc e) 0)
