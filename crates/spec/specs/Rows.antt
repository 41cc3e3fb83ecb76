-- One row of the table of examples, and one test that says whether it holds. Assumes nothing.
use Rattle.std.specs.Prelude.{ℕ, zero, suc, ◌+◌, ◌-◌, List, [], ◌∷◌, ◌++◌, Bool, true, false, ◌&&◌, eqb, length, get_or, replicate}
use Prim.Native.String.{String}
use Rattle.std.specs.Bool.{beq}
use Rattle.spec.specs.declared.Answer.{Answer}
use Rattle.spec.specs.declared.Size.{Size}
use Rattle.spec.specs.Feeds.{Varint}
use Rattle.spec.specs.Feeds.Varint.{Bad, Value}
use Rattle.spec.specs.Basics.{if, fuelled, same_by, same}
use Rattle.spec.specs.Answers.{answer_at, answer, checked}
use Rattle.spec.specs.Sizes.{blocks, max_blocks, same_size}
use Rattle.spec.specs.Sizes as Sizes
use Rattle.spec.specs.Pictures.{Origin, given, held}
use Rattle.spec.specs.Pictures as Pictures
use Rattle.spec.specs.Maps.{fresh, unsettled, remap, recount, miscounts, fresh_map, count_map}
use Rattle.spec.specs.Flags.{upper24, lower24}
use Rattle.spec.specs.Flags as Flags
use Rattle.spec.specs.Chunks.{Table, emptied, Outcome, refused, accepted, decode}
use Rattle.spec.specs.Chunks as Chunks
use Rattle.spec.specs.Boards.{Left, board, read, in_turn}
use Rattle.spec.specs.Writing.{Wrote, opcodes, max_length, chunk_for, write}
use Rattle.spec.specs.Writing as Writing
use Rattle.spec.specs.Feeds.{varint_at, Placed, chunks_from, feed_size, Reply, walk_run, walk_step}
use Rattle.spec.specs.Feeds as Feeds
use Rattle.spec.specs.Calls.{Call, call, run}
use Rattle.spec.specs.Listing.{ascii, listing}
use Rattle.spec.specs.Listing as Listing

-- sizes are width and height in pixels
pub data Row : Type 0 where
  -- six flag bytes: the two 24-bit numbers
  octet : List ℕ → ℕ → ℕ → Row
  -- size, a starting picture with a fresh map and its record, calls: what each says, the picture, the map, and the count, kept and counted, at the end
  sequence : ℕ → ℕ → List ℕ → List Call → List Reply → List ℕ → List ℕ → ℕ → Row
  -- the same over any map and any count, which may be untrue to it; the count at the end is the record's
  lent : ℕ → ℕ → List ℕ → List ℕ → ℕ → List Call → List Reply → List ℕ → List ℕ → ℕ → Row
  -- blocks, a chunk that is accepted: the pixels that it gives the last of them
  last_given : ℕ → List ℕ → List ℕ → Row
  -- entries of so many colours, so many of them stored in an emptied table: how many are filled then, and which is next
  fills : ℕ → ℕ → ℕ → ℕ → Row
  -- size, the lengths of the lent picture and map: what reading an empty chunk answers
  read_lengths : ℕ → ℕ → ℕ → ℕ → ℕ → Row
  -- the same of a run of one empty chunk
  run_lengths : ℕ → ℕ → ℕ → ℕ → Reply → Row
  -- size, the lengths of the old and the new picture: what writing to an empty output answers
  write_lengths : ℕ → ℕ → ℕ → ℕ → ℕ → Row
  -- size, a map: what fresh map and count answer, the map that is left, the fresh record's count, and the count of the map that was lent
  maps : ℕ → ℕ → List ℕ → ℕ → List ℕ → ℕ → ℕ → Row
  -- size, old picture, new picture: the chunk; written where it just fits, with a byte behind it, and with one byte too few
  writes : ℕ → ℕ → List ℕ → List ℕ → List ℕ → Row
  -- origins: the opcodes of the writer's chunk
  encodes : List Origin → List ℕ → Row
  -- the most blocks of a picture, and the most bytes of the writer's chunk for so many
  at_most : ℕ → ℕ → Row
  -- bytes that start with a number: its value and the place after it; or 12 or 13
  varint : List ℕ → ℕ → ℕ → Row
  no_varint : List ℕ → ℕ → Row
  -- a feed and the place of its first chunk's number: the places of each chunk's number and first byte, and the place after it
  places : List ℕ → ℕ → List ℕ → Row
  -- a feed: what it says of its size: the answer, width and height, and the place of the first chunk's number
  sized : List ℕ → Answer → ℕ → ℕ → ℕ → Row
  -- size, a picture with a fresh map and its record, a feed and a place: the answer of a step, whether a chunk stood there, the next place, the
  -- record's count, and the picture
  steps : ℕ → ℕ → List ℕ → List ℕ → ℕ → Answer → Bool → ℕ → ℕ → List ℕ → Row
  -- a feed: what the board program prints
  prints : List ℕ → String → Row

abbrev pub size : ℕ → ℕ → Size
size w h = record { width = w; height = h }

-- n times one colour
abbrev pub of : ℕ → ℕ → List ℕ
of n c = replicate n c

abbrev pub same_answer : Answer → Answer → Bool
same_answer x y = eqb x.number y.number && eqb x.place y.place && eqb x.block y.block

abbrev pub same_reply : Reply → Reply → Bool
same_reply x y = same_by same_answer x.inside y.inside && eqb x.accepted y.accepted && same_answer x.answer y.answer

abbrev pub is_left : Left (List Reply) → List Reply → List ℕ → List ℕ → ℕ → Bool
is_left l replies pic m n = same_by same_reply l.said replies && same l.board.picture pic && same l.board.map m && eqb l.board.kept n

abbrev pub is_given : Origin → List ℕ → Bool
is_given (given px) qx = same px qx
is_given (held k) qx = false

abbrev pub last_is : Outcome → ℕ → List ℕ → Bool
last_is (refused a) n px = false
last_is (accepted os) n px = eqb (length os) n && is_given (get_or os (n - 1) (held 0)) px

-- these colours stored so many times
abbrev pub put_times : ℕ → List ℕ → Table → Table
put_times zero cs t = t
put_times (suc n) cs t = put_times n cs (Chunks.put t cs)

abbrev pub is_wrote : Wrote → Answer → List ℕ → Bool
is_wrote w a out = same_answer w.answer a && same w.output out

abbrev pub is_varint : Varint → ℕ → ℕ → Bool
is_varint (Bad e) v p = false
is_varint (Value x q) v p = eqb x v && eqb q p

abbrev pub is_bad : Varint → ℕ → Bool
is_bad (Bad e) x = eqb e x
is_bad (Value x q) e = false

abbrev pub places_of : List Placed → List ℕ
places_of [] = []
places_of (c ∷ cs) = c.number_at ∷ c.first ∷ c.past ∷ places_of cs

unfoldable pub holds : Row → Bool
unfolding if fuelled checked Sizes.side Sizes.fault Pictures.place Pictures.block_of Pictures.pixel_of Pictures.shown Pictures.paint
    remap recount miscounts fresh_map count_map Flags.digits Flags.upper24 Flags.lower24 Flags.flags Flags.octet_bytes Flags.flag_bytes
    Chunks.put Chunks.missing Chunks.body Chunks.count_at Chunks.body_at Chunks.opcode Chunks.blocks_by Chunks.extend Chunks.stored Chunks.step Chunks.padding Chunks.finish Chunks.loop Chunks.decode
    read in_turn Writing.insert Writing.colours Writing.entries Writing.entry_of Writing.tabled Writing.single Writing.counting Writing.plain
    Writing.opcode_for Writing.alike Writing.opcodes Writing.encode Writing.difference Writing.differences Writing.emit Writing.write
    Feeds.groups Feeds.varint_at Feeds.next_at Feeds.chunks_from Feeds.size_numbers Feeds.feed_size Feeds.feed_of Feeds.walk Feeds.walk_run Feeds.walk_step call
    Listing.decide Listing.higher_digits Listing.decimal Listing.chunk_lines Listing.listing
holds (octet bs x y) = eqb (upper24 bs) x && eqb (lower24 bs) y
holds (sequence w h start calls replies pic m n) =
    let n₀ = blocks (size w h) in
    is_left (run (size w h) calls (board start (fresh n₀) n₀)) replies pic m n && eqb (unsettled m) n
holds (lent w h start m₀ n₀ calls replies pic m n) = is_left (run (size w h) calls (board start m₀ n₀)) replies pic m n
holds (last_given n s px) = last_is (decode n s) n px
holds (fills colours n filled next) = let t = put_times n (of colours 0) emptied in eqb (length t.cells) filled && eqb t.next next
holds (read_lengths w h pixels entries e) = same_answer (read (size w h) [] (board (of pixels 0) (of entries 0) entries)).said (answer e 0)
holds (run_lengths w h pixels entries r) = same_reply (walk_run (size w h) (0 ∷ []) (board (of pixels 0) (of entries 0) entries)).said r
holds (write_lengths w h old new e) = is_wrote (write (size w h) (of old 0) (of new 0) []) (answer e 0) []
holds (maps w h m e after k n) =
    let z = size w h in
    let a = answer e 0 in
    let fresh = fresh_map z m in
    same_answer fresh.answer a && same fresh.map after && same_size fresh.kept.size z && eqb fresh.kept.unsettled k
    && same_answer (count_map z m).answer a && eqb (count_map z m).unsettled n
holds (writes w h old new s) =
    let z = size w h in
    let n = length s in
    same (chunk_for z old new) s
    && is_wrote (write z old new (of n 9)) (answer_at 0 n (blocks z)) s
    && is_wrote (write z old new (of (n + 1) 9)) (answer_at 0 n (blocks z)) (s ++ 9 ∷ [])
    && is_wrote (write z old new (of (n - 1) 9)) (answer 14 0) (of (n - 1) 9)
holds (encodes os s) = same (opcodes 0 os) s
holds (at_most n most) = eqb max_blocks n && eqb (max_length n) most
holds (varint s v p) = is_varint (varint_at s 0) v p
holds (no_varint s e) = is_bad (varint_at s 0) e
holds (places s at ps) = same (places_of (chunks_from (length s) s at).list) ps
holds (sized s a w h first) =
    let f = feed_size s in
    same_answer f.answer a && same_size f.size (size w h) && eqb f.first first
holds (steps w h pic s at a stood next kept after) =
    let n = blocks (size w h) in
    let l = walk_step (size w h) s at (board pic (fresh n) n) in
    same_answer l.said.answer a && beq l.said.chunk stood && eqb l.said.next next
    && same_size l.said.kept.size (size w h) && eqb l.said.kept.unsettled kept && same l.board.picture after
holds (prints s text) = same (listing s) (ascii text)

abbrev pub hold : List Row → Bool
hold [] = true
hold (x ∷ xs) = holds x && hold xs
