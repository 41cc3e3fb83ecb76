-- 01, "Proved examples": one table and one statement. `fifteen` are 01's, with its listing; `further` pin what those leave free
-- (docs/DECISIONS.md, "How many examples?"). Bytes are hex. Assumes nothing.
use Rattle.std.specs.Prelude.{ℕ, zero, suc, ◌+◌, ◌-◌, ◌*◌, ◌/◌, ◌%◌, ◌≡◌, refl, List, [], ◌∷◌, ◌++◌, map, true, false, length, drop, replicate}
use Rattle.spec.specs.declared.Answer.{Answer}
use Rattle.spec.specs.Basics.{from}
use Rattle.spec.specs.Answers.{answer_at}
use Rattle.spec.specs.Sizes.{blocks}
use Rattle.spec.specs.Pictures.{given, held}
use Rattle.spec.specs.Maps.{settled, fresh, unsettled}
use Rattle.spec.specs.Feeds.{Reply, reply}
use Rattle.spec.specs.Calls.{reading, walking, walking_run}
use Rattle.spec.specs.Rows.{Row, octet, sequence, lent, last_given, fills, read_lengths, run_lengths, write_lengths, maps, writes, encodes, at_most}
use Rattle.spec.specs.Rows.{varint, no_varint, places, sized, steps, prints, size, of, holds, hold}

-- a chunk read over a starting picture and a fresh map
abbrev pub reads : ℕ → ℕ → List ℕ → List ℕ → ℕ → ℕ → ℕ → List ℕ → List ℕ → Row
reads w h start s n p k pic m = sequence w h start (reading s ∷ []) (reply [] (answer_at n p k) ∷ []) pic m (unsettled m)

-- a chunk that is refused over a picture of nines and a fresh map: both stay
abbrev pub refuses : ℕ → ℕ → List ℕ → ℕ → ℕ → ℕ → Row
refuses w h s n p k = reads w h (of (w * h) 9) s n p k (of (w * h) 9) (fresh (blocks (size w h)))

-- what read, write, fresh map and count answer where every lent buffer is empty: an allowed size gets 2
abbrev pub sizes : ℕ → ℕ → ℕ → List Row
sizes w h e = read_lengths w h 0 0 e ∷ write_lengths w h 0 0 e ∷ maps w h [] e [] 0 0 ∷ []

-- four pixels of each colour
abbrev pub across : List ℕ → List ℕ
across [] = []
across (c ∷ cs) = of 4 c ++ across cs

-- the picture of one line of blocks, each of one colour
abbrev pub line : List ℕ → List ℕ
line cs = let row = across cs in row ++ row ++ row ++ row

-- a chunk of at most 255 bytes around its opcodes
abbrev pub chunk : List ℕ → List ℕ
chunk body = 0xE1 ∷ 0x00 ∷ 0x00 ∷ (4 + length body) ∷ body

-- opcodes of a chunk, on one line of blocks that all show 5, with a map and a record's count: accepted, and the map and the count afterwards
abbrev pub counts : List ℕ → ℕ → List ℕ → List ℕ → ℕ → Row
counts m n s after k =
    let pic = of (16 * length m) 5 in
    lent (4 * length m) 4 pic m n (reading (chunk s) ∷ []) (reply [] (answer_at 0 (4 + length s) (length m)) ∷ []) pic after k

-- refused, over such a line of nines: picture, map and count stay
abbrev pub unmoved : List ℕ → ℕ → List ℕ → ℕ → ℕ → ℕ → Row
unmoved m n s e p k =
    let pic = of (16 * length m) 9 in
    lent (4 * length m) 4 pic m n (reading (chunk s) ∷ []) (reply [] (answer_at e p k) ∷ []) pic m n

-- opcodes that store n pairs and paint a block each: those of j, j + 1, .., where the pair of j is j's two digits, lower first
abbrev pub pairs : ℕ → ℕ → List ℕ
pairs j zero = []
pairs j (suc n) = 0x80 ∷ j % 256 ∷ j / 256 ∷ 0x00 ∷ 0x00 ∷ pairs (suc j) n

-- a block of n colours: 0, 1, .., and the greatest again
abbrev pub coloured : ℕ → List ℕ
coloured n = from 0 n ++ of (16 - n) (n - 1)

abbrev pub octet_block : List ℕ
octet_block = 0 ∷ 0 ∷ 2 ∷ 2 ∷ 2 ∷ 1 ∷ 2 ∷ 6 ∷ 4 ∷ 2 ∷ 3 ∷ 2 ∷ 1 ∷ 5 ∷ 7 ∷ 3 ∷ []

-- what a run says: the answers of its chunks, how many of these are 0, and its own
abbrev pub says : List Answer → ℕ → Answer → Reply
says inside n a = record { inside = inside; accepted = n; answer = a }

-- the feed of 01's listing
abbrev pub listing_feed : List ℕ
listing_feed =
    0x02 ∷ 0x01 ∷ 0x06 ∷ 0xE1 ∷ 0x00 ∷ 0x00 ∷ 0x06 ∷ 0x00 ∷ 0x20 ∷ 0x04 ∷ 0xE1 ∷ 0x00 ∷ 0x00 ∷ 0x04 ∷ 0x06 ∷ 0xE1 ∷ 0x00 ∷ 0x00 ∷ 0x06 ∷ 0x61 ∷ 0x05 ∷ []

unfoldable pub fifteen : List Row
fifteen =
    -- 1: half-bytes 01 23 45 67 89 AB give 012456 and 89A37B
    octet (0x01 ∷ 0x23 ∷ 0x45 ∷ 0x67 ∷ 0x89 ∷ 0xAB ∷ []) 0x012456 0x89A37B
    -- 2: 8x4, all 32 pixels are 5
    ∷ reads 8 4 (of 32 0) (0xE1 ∷ 0x00 ∷ 0x00 ∷ 0x06 ∷ 0x61 ∷ 0x05 ∷ []) 0 6 2 (of 32 5) (of 2 settled)
    -- 3 to 5: 8 at 4, 9 at 4, 10 at 4
    ∷ refuses 4 4 (0xE1 ∷ 0x00 ∷ 0x00 ∷ 0x05 ∷ 0x20 ∷ []) 8 4 0
    ∷ refuses 4 4 (0xE1 ∷ 0x00 ∷ 0x00 ∷ 0x05 ∷ 0x01 ∷ []) 9 4 0
    ∷ refuses 4 4 (0xE1 ∷ 0x00 ∷ 0x00 ∷ 0x06 ∷ 0x90 ∷ 0x00 ∷ []) 10 4 0
    -- 6: lower left 7, the rest 3
    ∷ reads 4 4 (of 16 0) (0xE1 ∷ 0x00 ∷ 0x00 ∷ 0x09 ∷ 0x80 ∷ 0x03 ∷ 0x07 ∷ 0x00 ∷ 0x08 ∷ []) 0 9 1 (of 12 3 ++ 7 ∷ of 3 3) (of 1 settled)
    -- 7 to 10: 11 at 5, 5 at 4, 6 at 4, 7 at 4
    ∷ refuses 4 4 (0xE1 ∷ 0x00 ∷ 0x00 ∷ 0x06 ∷ 0x00 ∷ 0xAA ∷ []) 11 5 1
    ∷ refuses 4 4 (0xE1 ∷ 0x00 ∷ 0x00 ∷ 0x04 ∷ []) 5 4 0
    ∷ refuses 4 4 (0xE1 ∷ 0x00 ∷ 0x00 ∷ 0x05 ∷ 0x10 ∷ []) 6 4 0
    ∷ refuses 4 4 (0xE1 ∷ 0x00 ∷ 0x00 ∷ 0x05 ∷ 0xF0 ∷ []) 7 4 0
    -- 11: 8x4, on a fresh map: map 0, 0
    ∷ reads 8 4 (of 32 0) (0xE1 ∷ 0x00 ∷ 0x00 ∷ 0x06 ∷ 0x00 ∷ 0x20 ∷ []) 0 6 2 (of 32 0) (0 ∷ 0 ∷ [])
    -- 12: an empty chunk gets 3, a stated length of 7 gets 4; 320x200 is allowed; 324x4, 4x204, 6x4 and 0x4 get 1
    ∷ refuses 4 4 [] 3 0 0
    ∷ refuses 4 4 (0xE1 ∷ 0x00 ∷ 0x00 ∷ 0x07 ∷ 0x60 ∷ 0x05 ∷ []) 4 0 0
    ∷ sizes 320 200 2 ++ sizes 324 4 1 ++ sizes 4 204 1 ++ sizes 6 4 1 ++ sizes 0 4 1
    -- 13: zeros to fives; equal pictures
    ++ writes 4 4 (of 16 0) (of 16 5) (0xE1 ∷ 0x00 ∷ 0x00 ∷ 0x06 ∷ 0x60 ∷ 0x05 ∷ [])
    ∷ writes 4 4 (of 16 5) (of 16 5) (0xE1 ∷ 0x00 ∷ 0x00 ∷ 0x05 ∷ 0x00 ∷ [])
    -- 14: 300 is AC 02; 80 00 gets 12
    ∷ varint (0xAC ∷ 0x02 ∷ []) 300 2
    ∷ no_varint (0x80 ∷ 0x00 ∷ []) 12
    -- 15: 16x4, blocks of 1, 2, 1, 2
    ∷ reads 16 4 (of 64 0) (0xE1 ∷ 0x00 ∷ 0x00 ∷ 0x09 ∷ 0x60 ∷ 0x01 ∷ 0x60 ∷ 0x02 ∷ 0x40 ∷ []) 0 9 4 (line (1 ∷ 2 ∷ 1 ∷ 2 ∷ [])) (of 4 settled)
    -- the listing's feed, from an all-zero picture
    ∷ sequence 8 4 (of 32 0) (walking listing_feed ∷ [])
    (reply (answer_at 0 6 2 ∷ answer_at 5 4 0 ∷ answer_at 0 6 2 ∷ []) (answer_at 0 21 2) ∷ []) (of 32 5) (of 2 settled) 0
    ∷ prints listing_feed "board 8 4\n1 0 6 2 2\n2 5 4 2 0\n3 0 6 0 2\nend 0 21\n"
    ∷ []

unfoldable pub further : List Row
further =
    -- a quad block: the low bits of the first flag byte are 3, so the upper right pixel has the fourth colour (003)
    reads 4 4 (of 16 0) (chunk (0xA0 ∷ 0x10 ∷ 0x11 ∷ 0x12 ∷ 0x13 ∷ 0x03 ∷ 0x00 ∷ 0x00 ∷ 0x00 ∷ [])) 0 13 1 (of 3 0x10 ++ 0x13 ∷ of 12 0x10) (of 1 settled)
    -- an octet block: 012456 and 89A37B in octal are 00222126 and 42321573
    ∷ reads 4 4 (of 16 9) (chunk (0xC0 ∷ 0x00 ∷ 0x01 ∷ 0x02 ∷ 0x03 ∷ 0x04 ∷ 0x05 ∷ 0x06 ∷ 0x07 ∷ 0x01 ∷ 0x23 ∷ 0x45 ∷ 0x67 ∷ 0x89 ∷ 0xAB ∷ [])) 0 19 1 octet_block (of 1 settled)
    -- a whole block, row by row; byte 0 may be anything
    ∷ reads 8 4 (of 32 9) (0x00 ∷ 0x00 ∷ 0x00 ∷ 0x16 ∷ 0x00 ∷ 0xE0 ∷ from 0 16) 0 22 2
    (of 4 9 ++ from 0 4 ++ of 4 9 ++ from 4 4 ++ of 4 9 ++ from 8 4 ++ of 4 9 ++ from 12 4) (0 ∷ settled ∷ [])
    -- several blocks to one opcode with flags, and to one whole; entries are kept by a later skip
    ∷ reads 8 4 (of 32 0) (chunk (0x81 ∷ 0x01 ∷ 0x02 ∷ 0x00 ∷ 0x00 ∷ 0xFF ∷ 0xFF ∷ [])) 0 11 2 (line (1 ∷ 2 ∷ [])) (of 2 settled)
    ∷ reads 8 4 (of 32 0) (chunk (0xE1 ∷ of 16 1 ++ of 16 2)) 0 37 2 (line (1 ∷ 2 ∷ [])) (of 2 settled)
    ∷ sequence 8 4 (line (1 ∷ 2 ∷ [])) (reading (chunk (0x60 ∷ 0x05 ∷ 0x00 ∷ [])) ∷ reading (chunk (0x01 ∷ [])) ∷ [])
    (reply [] (answer_at 0 7 2) ∷ reply [] (answer_at 0 5 2) ∷ []) (line (5 ∷ 2 ∷ [])) (settled ∷ 1 ∷ []) 1
    -- copies at a line's first block, and in pairs at its first and at its second: the block before stands across the line's end
    ∷ reads 8 8 (of 64 0) (chunk (0x60 ∷ 0x01 ∷ 0x60 ∷ 0x02 ∷ 0x21 ∷ [])) 0 9 4 (line (1 ∷ 2 ∷ []) ++ line (2 ∷ 2 ∷ [])) (of 4 settled)
    ∷ reads 8 8 (of 64 0) (chunk (0x60 ∷ 0x01 ∷ 0x60 ∷ 0x02 ∷ 0x40 ∷ [])) 0 9 4 (line (1 ∷ 2 ∷ []) ++ line (1 ∷ 2 ∷ [])) (of 4 settled)
    ∷ reads 12 8 (of 96 0) (chunk (0x60 ∷ 0x01 ∷ 0x60 ∷ 0x02 ∷ 0x60 ∷ 0x03 ∷ 0x60 ∷ 0x04 ∷ 0x40 ∷ [])) 0 13 6 (line (1 ∷ 2 ∷ 3 ∷ []) ++ line (4 ∷ 3 ∷ 4 ∷ [])) (of 6 settled)
    -- 1, 3, 5 and 7 have a count byte, and their lower half-byte plays no part; 5 counts pairs
    ∷ reads 16 4 (of 64 9) (chunk (0x1F ∷ 0x00 ∷ 0x7A ∷ 0x02 ∷ 0x05 ∷ [])) 0 9 4 (line (9 ∷ 5 ∷ 5 ∷ 5 ∷ [])) (0 ∷ of 3 settled)
    ∷ reads 16 4 (of 64 9) (chunk (0x60 ∷ 0x05 ∷ 0x37 ∷ 0x02 ∷ [])) 0 8 4 (line (of 4 5)) (of 4 settled)
    ∷ reads 24 4 (of 96 9) (chunk (0x60 ∷ 0x05 ∷ 0x60 ∷ 0x06 ∷ 0x5C ∷ 0x01 ∷ [])) 0 10 6 (line (5 ∷ 6 ∷ 5 ∷ 6 ∷ 5 ∷ 6 ∷ [])) (of 6 settled)
    ∷ refuses 16 4 (chunk (0x60 ∷ 0x05 ∷ 0x30 ∷ [])) 6 6 1
    ∷ refuses 20 4 (chunk (0x60 ∷ 0x05 ∷ 0x60 ∷ 0x06 ∷ 0x50 ∷ 0x01 ∷ [])) 9 8 2
    -- 9, B and D name entry 1 of 2; entry 2 is not filled, nor is one that only another table has, nor an octet where none was stored
    ∷ reads 12 4 (of 48 0) (chunk (0x80 ∷ 0x01 ∷ 0x02 ∷ 0x00 ∷ 0x00 ∷ 0x80 ∷ 0x03 ∷ 0x04 ∷ 0xFF ∷ 0xFF ∷ 0x90 ∷ 0x01 ∷ 0x00 ∷ 0x00 ∷ [])) 0 18 3 (line (1 ∷ 4 ∷ 3 ∷ [])) (of 3 settled)
    ∷ reads 12 4 (of 48 0)
    (chunk (0xA0 ∷ 0x01 ∷ 0x02 ∷ 0x03 ∷ 0x04 ∷ 0x00 ∷ 0x00 ∷ 0x00 ∷ 0x00 ∷ 0xA0 ∷ 0x05 ∷ 0x06 ∷ 0x07 ∷ 0x08 ∷ 0xFF ∷ 0xFF ∷ 0xFF ∷ 0xFF ∷ 0xB0 ∷ 0x01 ∷ 0x55 ∷ 0x55 ∷ 0x55 ∷ 0x55 ∷ []))
    0 28 3 (line (1 ∷ 8 ∷ 6 ∷ [])) (of 3 settled)
    ∷ reads 12 4 (of 48 0)
    (chunk (0xC0 ∷ from 1 8 ++ of 6 0x00 ++ 0xC0 ∷ from 9 8 ++ of 6 0xFF ++ 0xD0 ∷ 0x01 ∷ of 6 0x00))
    0 42 3 (line (1 ∷ 16 ∷ 9 ∷ [])) (of 3 settled)
    ∷ refuses 12 4 (chunk (0x80 ∷ 0x01 ∷ 0x02 ∷ 0x00 ∷ 0x00 ∷ 0x80 ∷ 0x03 ∷ 0x04 ∷ 0xFF ∷ 0xFF ∷ 0x90 ∷ 0x02 ∷ 0x00 ∷ 0x00 ∷ [])) 10 14 2
    ∷ refuses 12 4 (chunk (0x80 ∷ 0x01 ∷ 0x02 ∷ 0x00 ∷ 0x00 ∷ 0xB0 ∷ 0x00 ∷ 0xFF ∷ 0xFF ∷ [])) 10 9 1
    ∷ refuses 4 4 (chunk (0xD0 ∷ 0x00 ∷ [])) 10 4 0
    -- a count byte of FF is 256 blocks, a lower half-byte of F 16
    ∷ last_given 256 (chunk (0x70 ∷ 0xFF ∷ 0x05 ∷ [])) (of 16 5)
    ∷ last_given 16 (chunk (0x6F ∷ 0x05 ∷ [])) (of 16 5)
    -- the order within an opcode: 7 before 9, the count byte (6) before 8 and before 9, 8 before 9, also in pairs at blocks 0 and 1, 9 before the
    -- colours (6) and before 10, the entry number (6) before 10, flags (6)
    ∷ refuses 4 4 (chunk (0xF1 ∷ [])) 7 4 0
    ∷ refuses 4 4 (chunk (0x30 ∷ [])) 6 4 0
    ∷ refuses 12 4 (chunk (0x60 ∷ 0x05 ∷ 0x60 ∷ 0x06 ∷ 0x50 ∷ [])) 6 8 2
    ∷ refuses 4 4 (chunk (0x30 ∷ 0xFF ∷ [])) 8 4 0
    ∷ refuses 4 4 (chunk (0x50 ∷ 0x00 ∷ [])) 8 4 0
    ∷ refuses 8 4 (chunk (0x60 ∷ 0x05 ∷ 0x40 ∷ [])) 8 6 1
    ∷ refuses 4 4 (chunk (0x81 ∷ [])) 9 4 0
    ∷ refuses 4 4 (chunk (0xE1 ∷ [])) 9 4 0
    ∷ refuses 4 4 (chunk (0x91 ∷ 0x00 ∷ [])) 9 4 0
    ∷ refuses 4 4 (chunk (0x90 ∷ [])) 6 4 0
    ∷ refuses 4 4 (chunk (0x80 ∷ 0x01 ∷ 0x02 ∷ 0xFF ∷ [])) 6 4 0
    -- the first block still waiting: where the bytes end after one opcode, in the count byte, the colours, the flags of an opcode's second
    -- block; at an opcode F after a pair of blocks; and all of them, where bytes follow
    ∷ refuses 16 4 (chunk (0x01 ∷ [])) 5 5 2
    ∷ refuses 16 4 (chunk (0x02 ∷ 0x10 ∷ [])) 6 5 3
    ∷ refuses 16 4 (chunk (0x10 ∷ 0x02 ∷ 0x60 ∷ [])) 6 6 3
    ∷ refuses 16 4 (chunk (0x00 ∷ 0x81 ∷ 0x01 ∷ 0x02 ∷ 0x00 ∷ 0x00 ∷ 0x00 ∷ [])) 6 5 1
    ∷ refuses 24 4 (chunk (0x60 ∷ 0x05 ∷ 0x60 ∷ 0x06 ∷ 0x40 ∷ 0xF0 ∷ [])) 7 9 4
    ∷ refuses 12 4 (chunk (0x02 ∷ 0x01 ∷ [])) 11 5 3
    -- padding: the example with which 01 was corrected; one zero byte, and two
    ∷ reads 4 4 (of 16 9) (0xE1 ∷ 0x00 ∷ 0x00 ∷ 0x08 ∷ 0x00 ∷ 0x00 ∷ 0x00 ∷ 0x00 ∷ []) 0 8 1 (of 16 9) (0 ∷ [])
    ∷ reads 8 4 (of 32 0) (chunk (0x61 ∷ 0x05 ∷ 0x00 ∷ [])) 0 7 2 (of 32 5) (of 2 settled)
    ∷ reads 8 4 (of 32 0) (chunk (0x61 ∷ 0x05 ∷ 0x00 ∷ 0x00 ∷ [])) 0 8 2 (of 32 5) (of 2 settled)
    -- four zero bytes, and five; two or three of which the last, the first or the one between is not zero. All at the first
    ∷ refuses 4 4 (chunk (0x00 ∷ of 4 0x00)) 11 5 1
    ∷ refuses 4 4 (chunk (0x00 ∷ of 5 0x00)) 11 5 1
    ∷ refuses 4 4 (chunk (0x00 ∷ 0x00 ∷ 0x80 ∷ [])) 11 5 1
    ∷ refuses 4 4 (chunk (0x00 ∷ 0x00 ∷ 0x00 ∷ 0x10 ∷ [])) 11 5 1
    ∷ refuses 4 4 (chunk (0x00 ∷ 0x01 ∷ 0x00 ∷ 0x00 ∷ [])) 11 5 1
    ∷ refuses 4 4 (chunk (0x00 ∷ 0x00 ∷ 0xFF ∷ 0x00 ∷ [])) 11 5 1
    -- a chunk of three bytes; the stated length's highest byte; a stated length below the bytes given, and it comes before what the opcodes get
    ∷ refuses 4 4 (0xE1 ∷ 0x00 ∷ 0x03 ∷ []) 3 0 0
    ∷ refuses 4 4 (0xE1 ∷ 0x01 ∷ 0x00 ∷ 0x05 ∷ 0x00 ∷ []) 4 0 0
    ∷ refuses 4 4 (0xE1 ∷ 0x00 ∷ 0x00 ∷ 0x04 ∷ 0xF0 ∷ []) 4 0 0
    -- heights are looked at as widths are: 4x6 and 4x0 get 1; what the limits make: 4,000 blocks, for which the writer's chunk has 68,004 bytes at most
    ∷ sizes 4 6 1 ++ sizes 4 0 1
    ++ at_most 4000 68004
    -- lengths: where size and lengths are right, an empty chunk gets 3 and an empty output 14
    ∷ read_lengths 8 4 32 2 3
    ∷ read_lengths 8 4 31 2 2
    ∷ read_lengths 8 4 32 3 2
    ∷ write_lengths 8 4 32 32 14
    ∷ write_lengths 8 4 31 32 2
    ∷ write_lengths 8 4 32 33 2
    -- a fresh map with its record, and a count, over any numbers: 65,535 alone is settled; refused
    ∷ maps 8 4 (7 ∷ 65535 ∷ []) 0 (0 ∷ 1 ∷ []) 2 1
    ∷ maps 4 4 (65534 ∷ []) 0 (0 ∷ []) 1 1
    ∷ maps 8 4 (7 ∷ settled ∷ 7 ∷ []) 2 (7 ∷ settled ∷ 7 ∷ []) 0 0
    -- a pair table stored 257 times: entry 0 holds the last pair, and entry 1 the second
    ∷ last_given 258 (0xE1 ∷ 0x00 ∷ 0x05 ∷ 0x0D ∷ pairs 0 257 ++ 0x90 ∷ 0x00 ∷ 0xFF ∷ 0xFF ∷ []) (of 16 1)
    ∷ last_given 258 (0xE1 ∷ 0x00 ∷ 0x05 ∷ 0x0D ∷ pairs 0 257 ++ 0x90 ∷ 0x01 ∷ 0x00 ∷ 0x00 ∷ []) (of 16 1)
    -- and quads and octets: 256 entries are filled, and entry 1 is next
    ∷ fills 4 257 256 1
    ∷ fills 8 257 256 1
    -- a settled block is unsettled by a copy, and the count rises
    ∷ sequence 8 4 (line (1 ∷ 2 ∷ [])) (reading (chunk (0x00 ∷ 0x60 ∷ 0x05 ∷ [])) ∷ [])
    (reply [] (answer_at 0 7 2) ∷ []) (line (1 ∷ 5 ∷ [])) (0 ∷ settled ∷ []) 1
    ∷ sequence 8 4 (line (1 ∷ 2 ∷ [])) (reading (chunk (0x00 ∷ 0x60 ∷ 0x05 ∷ [])) ∷ reading (chunk (0x00 ∷ 0x20 ∷ [])) ∷ [])
    (reply [] (answer_at 0 7 2) ∷ reply [] (answer_at 0 6 2) ∷ []) (line (1 ∷ 1 ∷ [])) (0 ∷ 0 ∷ []) 2
    -- a skip in front of a copy: the block before, and not the last painted one
    ∷ reads 12 4 (line (1 ∷ 2 ∷ 3 ∷ [])) (chunk (0x60 ∷ 0x05 ∷ 0x00 ∷ 0x20 ∷ [])) 0 8 3 (line (5 ∷ 2 ∷ 2 ∷ [])) (settled ∷ 1 ∷ 1 ∷ [])
    -- the kept count: a settled block is unsettled by a copy, and counted; by a copy right after a skip, one block back and two; through a copy
    -- of it, all the way; a copy of a settled block settles
    ∷ counts (0 ∷ settled ∷ []) 1 (0x00 ∷ 0x20 ∷ []) (0 ∷ 0 ∷ []) 2
    ∷ counts (settled ∷ 1 ∷ settled ∷ []) 1 (0x60 ∷ 0x05 ∷ 0x00 ∷ 0x20 ∷ []) (settled ∷ 1 ∷ 1 ∷ []) 2
    ∷ counts (settled ∷ 1 ∷ settled ∷ settled ∷ []) 1 (0x01 ∷ 0x40 ∷ []) (settled ∷ 1 ∷ settled ∷ 1 ∷ []) 2
    ∷ counts (7 ∷ settled ∷ settled ∷ settled ∷ []) 1 (0x00 ∷ 0x22 ∷ []) (of 4 7) 4
    ∷ counts (7 ∷ settled ∷ 5 ∷ 6 ∷ []) 3 (0x01 ∷ 0x40 ∷ []) (7 ∷ settled ∷ 7 ∷ settled ∷ []) 2
    -- a count that is untrue to its map: moved all the same, as long as the new one is from 0 to the number of blocks; up to either end
    ∷ counts (of 2 settled) 1 (0x01 ∷ []) (of 2 settled) 1
    ∷ counts (0 ∷ 1 ∷ 7 ∷ []) 2 (0x61 ∷ 0x05 ∷ 0x00 ∷ []) (settled ∷ settled ∷ 7 ∷ []) 0
    ∷ counts (of 2 settled) 2 (0x01 ∷ []) (of 2 settled) 2
    ∷ counts (0 ∷ 1 ∷ []) 4 (0x61 ∷ 0x05 ∷ []) (of 2 settled) 2
    -- what is newly unsettled is added before what is newly settled is taken away
    ∷ counts (7 ∷ 8 ∷ settled ∷ settled ∷ []) 0 (0x00 ∷ 0x60 ∷ 0x05 ∷ 0x40 ∷ []) (7 ∷ settled ∷ 7 ∷ settled ∷ []) 0
    -- 21: below 0; above the number of blocks, by a block unsettled, or where the chunk changes nothing, up to the greatest number of 64 bits
    ∷ unmoved (0 ∷ 1 ∷ []) 1 (0x61 ∷ 0x05 ∷ []) 21 0 0
    ∷ unmoved (0 ∷ settled ∷ []) 0 (0x61 ∷ 0x05 ∷ []) 21 0 0
    ∷ unmoved (0 ∷ settled ∷ []) 2 (0x00 ∷ 0x20 ∷ []) 21 0 0
    ∷ unmoved (0 ∷ 1 ∷ []) 5 (0x61 ∷ 0x05 ∷ []) 21 0 0
    ∷ unmoved (of 2 settled) 3 (0x01 ∷ []) 21 0 0
    ∷ unmoved (0 ∷ settled ∷ []) 18446744073709551615 (0x00 ∷ 0x20 ∷ []) 21 0 0
    -- it is looked for last: a chunk's own refusals come before it
    ∷ unmoved (of 2 settled) 3 (0x02 ∷ []) 9 4 0
    ∷ unmoved (of 2 settled) 3 (0x01 ∷ 0xAA ∷ []) 11 5 2
    ∷ lent 8 4 (of 32 9) (of 2 settled) 3 (reading [] ∷ reading (0xE1 ∷ 0x00 ∷ 0x00 ∷ 0x06 ∷ 0x01 ∷ []) ∷ reading (chunk (0x00 ∷ [])) ∷ [])
    (reply [] (answer_at 3 0 0) ∷ reply [] (answer_at 4 0 0) ∷ reply [] (answer_at 5 5 1) ∷ []) (of 32 9) (of 2 settled) 3
    -- inside a run it is that chunk's answer: the run goes on over what was there, and does not count it as accepted
    ∷ lent 8 4 (of 32 9) (0 ∷ settled ∷ []) 0
    (walking_run (0x06 ∷ chunk (0x61 ∷ 0x05 ∷ []) ++ 0x06 ∷ chunk (0x00 ∷ 0x20 ∷ []) ++ 0x06 ∷ chunk (0x61 ∷ 0x05 ∷ [])) ∷ [])
    (says (answer_at 21 0 0 ∷ answer_at 0 6 2 ∷ answer_at 21 0 0 ∷ []) 1 (answer_at 0 21 2) ∷ []) (of 32 9) (0 ∷ 0 ∷ []) 1
    -- a feed's size is the record's, or gets 2, also where the lengths are those of its size, and where the record's own is not allowed; 1 comes first
    ∷ lent 8 4 (of 32 9) (0 ∷ 1 ∷ []) 2 (walking (0x01 ∷ 0x02 ∷ 0x06 ∷ chunk (0x61 ∷ 0x05 ∷ [])) ∷ []) (reply [] (answer_at 2 0 0) ∷ []) (of 32 9) (0 ∷ 1 ∷ []) 2
    ∷ lent 8 8 (of 32 9) (0 ∷ 1 ∷ []) 2 (walking (0x02 ∷ 0x01 ∷ 0x00 ∷ []) ∷ []) (reply [] (answer_at 2 0 0) ∷ []) (of 32 9) (0 ∷ 1 ∷ []) 2
    ∷ lent 4 8 (of 32 9) (0 ∷ 1 ∷ []) 2 (walking (0x01 ∷ 0x02 ∷ 0x06 ∷ chunk (0x61 ∷ 0x05 ∷ [])) ∷ [])
    (reply (answer_at 0 6 2 ∷ []) (answer_at 0 9 2) ∷ []) (of 32 5) (of 2 settled) 0
    ∷ lent 6 4 (of 32 9) (0 ∷ 1 ∷ []) 2 (walking (0x02 ∷ 0x01 ∷ []) ∷ walking (0x51 ∷ 0x01 ∷ []) ∷ reading [] ∷ walking_run [] ∷ [])
    (reply [] (answer_at 2 0 0) ∷ reply [] (answer_at 1 0 0) ∷ reply [] (answer_at 1 0 0) ∷ reply [] (answer_at 1 0 0) ∷ []) (of 32 9) (0 ∷ 1 ∷ []) 2
    -- numbers: four groups, each another; the greatest, and one above it; a fourth group with its top bit; a third and a fourth that are zero; one that the
    -- bytes cut short
    ∷ varint (0x81 ∷ 0x82 ∷ 0x83 ∷ 0x04 ∷ []) 8438017 4
    ∷ varint (0xFF ∷ 0xFF ∷ 0xFF ∷ 0x07 ∷ []) 16777215 4
    ∷ no_varint (0x80 ∷ 0x80 ∷ 0x80 ∷ 0x08 ∷ []) 12
    ∷ no_varint (0x80 ∷ 0x80 ∷ 0x80 ∷ 0x80 ∷ []) 12
    ∷ no_varint (0x80 ∷ 0x80 ∷ 0x00 ∷ []) 12
    ∷ no_varint (0x80 ∷ 0x80 ∷ 0x80 ∷ 0x00 ∷ []) 12
    ∷ no_varint (0x80 ∷ 0x80 ∷ 0x80 ∷ []) 13
    ∷ no_varint [] 13
    -- feeds: width first; a chunk length of 0; an end inside a chunk, after a good one; sizes that get 1, and 2; a size number cut short
    ∷ sequence 8 4 (of 32 9) (walking (0x02 ∷ 0x01 ∷ 0x08 ∷ 0xE1 ∷ 0x00 ∷ 0x00 ∷ 0x08 ∷ 0x60 ∷ 0x01 ∷ 0x60 ∷ 0x02 ∷ []) ∷ [])
    (reply (answer_at 0 8 2 ∷ []) (answer_at 0 11 2) ∷ []) (line (1 ∷ 2 ∷ [])) (of 2 settled) 0
    ∷ sequence 8 4 (of 32 9) (walking (0x02 ∷ 0x01 ∷ 0x00 ∷ []) ∷ []) (reply (answer_at 3 0 0 ∷ []) (answer_at 0 3 2) ∷ []) (of 32 9) (0 ∷ 1 ∷ []) 2
    ∷ sequence 8 4 (of 32 9) (walking (0x02 ∷ 0x01 ∷ 0x06 ∷ 0xE1 ∷ 0x00 ∷ 0x00 ∷ 0x06 ∷ 0x61 ∷ 0x05 ∷ 0x05 ∷ 0xE1 ∷ []) ∷ [])
    (reply (answer_at 0 6 2 ∷ []) (answer_at 13 10 0) ∷ []) (of 32 5) (of 2 settled) 0
    ∷ sequence 8 4 (of 32 9) (walking (0x51 ∷ 0x32 ∷ []) ∷ walking (0x03 ∷ 0x01 ∷ 0x05 ∷ 0xE1 ∷ 0x00 ∷ 0x00 ∷ 0x05 ∷ 0x02 ∷ []) ∷ walking (0x02 ∷ 0x80 ∷ []) ∷ [])
    (reply [] (answer_at 1 0 0) ∷ reply [] (answer_at 2 0 0) ∷ reply [] (answer_at 13 1 0) ∷ []) (of 32 9) (0 ∷ 1 ∷ []) 2
    -- 1 and 2 before a length number that fails, in a feed and in a run
    ∷ sequence 8 4 (of 32 9) (walking (0x51 ∷ 0x01 ∷ 0x80 ∷ []) ∷ walking (0x03 ∷ 0x01 ∷ 0x80 ∷ []) ∷ [])
    (reply [] (answer_at 1 0 0) ∷ reply [] (answer_at 2 0 0) ∷ []) (of 32 9) (0 ∷ 1 ∷ []) 2
    ∷ lent 6 4 (of 24 9) [] 0 (walking_run (0x80 ∷ []) ∷ []) (reply [] (answer_at 1 0 0) ∷ []) (of 24 9) [] 0
    ∷ lent 8 4 (of 31 9) (0 ∷ 1 ∷ []) 2 (walking_run (0x80 ∷ []) ∷ []) (reply [] (answer_at 2 0 0) ∷ []) (of 31 9) (0 ∷ 1 ∷ []) 2
    -- a padded chunk in a feed: the next one's number stands behind the padding
    ∷ sequence 8 4 (of 32 9) (walking (0x02 ∷ 0x01 ∷ 0x09 ∷ chunk (0x61 ∷ 0x05 ∷ of 3 0x00) ++ 0x06 ∷ chunk (0x00 ∷ 0x20 ∷ [])) ∷ [])
    (reply (answer_at 0 9 2 ∷ answer_at 0 6 2 ∷ []) (answer_at 0 19 2) ∷ []) (of 32 5) (of 2 settled) 0
    -- feed numbers that fail: each size number, before the size is looked at, and a chunk's length
    ∷ sequence 8 4 (of 32 9) (walking (0x80 ∷ 0x00 ∷ 0x01 ∷ []) ∷ walking (0x51 ∷ []) ∷ walking (0x02 ∷ 0x01 ∷ 0x80 ∷ 0x00 ∷ []) ∷ walking (0x02 ∷ 0x01 ∷ 0x80 ∷ []) ∷ [])
    (reply [] (answer_at 12 0 0) ∷ reply [] (answer_at 13 1 0) ∷ reply [] (answer_at 12 2 0) ∷ reply [] (answer_at 13 2 0) ∷ []) (of 32 9) (0 ∷ 1 ∷ []) 2
    -- runs: the chunks of 01's listing; none; a whole feed, whose size numbers are taken for a length and a chunk
    ∷ sequence 8 4 (of 32 0) (walking_run (drop 2 listing_feed) ∷ [])
    (says (answer_at 0 6 2 ∷ answer_at 5 4 0 ∷ answer_at 0 6 2 ∷ []) 2 (answer_at 0 19 2) ∷ []) (of 32 5) (of 2 settled) 0
    ∷ sequence 8 4 (of 32 9) (walking_run [] ∷ walking_run listing_feed ∷ [])
    (says [] 0 (answer_at 0 0 2) ∷ says (answer_at 3 0 0 ∷ []) 0 (answer_at 12 3 0) ∷ []) (of 32 9) (0 ∷ 1 ∷ []) 2
    -- a chunk is read over what the one before it left; the first and the last are refused
    ∷ sequence 8 4 (of 32 9) (walking_run (0x00 ∷ 0x08 ∷ chunk (0x60 ∷ 0x01 ∷ 0x60 ∷ 0x02 ∷ []) ++ 0x06 ∷ chunk (0x00 ∷ 0x20 ∷ []) ++ 0x05 ∷ chunk (0xF0 ∷ [])) ∷ [])
    (says (answer_at 3 0 0 ∷ answer_at 0 8 2 ∷ answer_at 0 6 2 ∷ answer_at 7 4 0 ∷ []) 2 (answer_at 0 23 2) ∷ []) (line (1 ∷ 1 ∷ [])) (of 2 settled) 0
    -- chunks that get 4, 6 and 8 to 11: none ends the run, and none is counted as accepted
    ∷ sequence 4 4 (of 16 9)
    (walking_run (0x05 ∷ 0xE1 ∷ 0x00 ∷ 0x00 ∷ 0x06 ∷ 0x00 ∷ 0x05 ∷ chunk (0x10 ∷ []) ++ 0x05 ∷ chunk (0x20 ∷ []) ++ 0x05 ∷ chunk (0x01 ∷ [])
    ++ 0x06 ∷ chunk (0x90 ∷ 0x00 ∷ []) ++ 0x06 ∷ chunk (0x00 ∷ 0xAA ∷ [])) ∷ [])
    (says (answer_at 4 0 0 ∷ answer_at 6 4 0 ∷ answer_at 8 4 0 ∷ answer_at 9 4 0 ∷ answer_at 10 4 0 ∷ answer_at 11 5 1 ∷ []) 0 (answer_at 0 38 1) ∷ [])
    (of 16 9) (0 ∷ []) 1
    -- the number is badly formed, cut short, or has fewer bytes behind it: what was accepted before stays, and is counted
    ∷ sequence 8 4 (of 32 9) (walking_run (0x07 ∷ chunk (0x00 ∷ 0x60 ∷ 0x05 ∷ []) ++ 0x80 ∷ 0x00 ∷ []) ∷ [])
    (says (answer_at 0 7 2 ∷ []) 1 (answer_at 12 8 0) ∷ []) (line (9 ∷ 5 ∷ [])) (0 ∷ settled ∷ []) 1
    ∷ sequence 8 4 (of 32 9) (walking_run (0x07 ∷ chunk (0x00 ∷ 0x60 ∷ 0x05 ∷ []) ++ 0x80 ∷ []) ∷ [])
    (says (answer_at 0 7 2 ∷ []) 1 (answer_at 13 8 0) ∷ []) (line (9 ∷ 5 ∷ [])) (0 ∷ settled ∷ []) 1
    ∷ sequence 8 4 (of 32 9) (walking_run (0x07 ∷ chunk (0x00 ∷ 0x60 ∷ 0x05 ∷ []) ++ 0x07 ∷ chunk (0x61 ∷ 0x01 ∷ [])) ∷ [])
    (says (answer_at 0 7 2 ∷ []) 1 (answer_at 13 9 0) ∷ []) (line (9 ∷ 5 ∷ [])) (0 ∷ settled ∷ []) 1
    -- a refused chunk has its own block, and the run all of them
    ∷ sequence 12 8 (of 96 9) (walking_run (0x05 ∷ chunk (0x01 ∷ []) ++ 0x05 ∷ chunk (0x05 ∷ [])) ∷ [])
    (says (answer_at 5 5 2 ∷ answer_at 0 5 6 ∷ []) 1 (answer_at 0 12 6) ∷ []) (of 96 9) (from 0 6) 6
    -- size and lengths: right; the picture's wrong, the map's wrong, 1 before 2
    ∷ run_lengths 8 4 32 2 (says (answer_at 3 0 0 ∷ []) 0 (answer_at 0 1 2))
    ∷ run_lengths 8 4 31 2 (says [] 0 (answer_at 2 0 0))
    ∷ run_lengths 8 4 32 3 (says [] 0 (answer_at 2 0 0))
    ∷ run_lengths 6 4 24 2 (says [] 0 (answer_at 1 0 0))
    -- the places of the chunks of 01's listing: each one's number, its first byte, and after its last
    ∷ places listing_feed 2 (2 ∷ 3 ∷ 9 ∷ 9 ∷ 10 ∷ 14 ∷ 14 ∷ 15 ∷ 21 ∷ [])
    -- what a feed says of its size: 8x4; 324x4, which gets 1; a first number that fails, and a second
    ∷ sized listing_feed (answer_at 0 0 0) 8 4 2
    ∷ sized (0x51 ∷ 0x01 ∷ 0x00 ∷ []) (answer_at 1 0 0) 0 0 0
    ∷ sized (0x80 ∷ 0x00 ∷ 0x01 ∷ []) (answer_at 12 0 0) 0 0 0
    ∷ sized (0x02 ∷ 0x80 ∷ []) (answer_at 13 1 0) 0 0 0
    -- steps: accepted chunks, of which the second settles, and a refused one; a feed of another size than the record's; a chunk that is cut; at the end,
    -- and past it; 1 and 2 come first
    ∷ steps 8 4 (of 32 0) listing_feed 2 (answer_at 0 6 2) true 9 2 (of 32 0)
    ∷ steps 8 4 (of 32 0) listing_feed 14 (answer_at 0 6 2) true 21 0 (of 32 5)
    ∷ steps 8 4 (of 32 0) listing_feed 9 (answer_at 5 4 0) true 14 2 (of 32 0)
    ∷ steps 4 4 (of 16 0) listing_feed 14 (answer_at 9 4 0) true 21 1 (of 16 0)
    ∷ steps 8 4 (of 32 0) listing_feed 20 (answer_at 13 21 0) false 20 2 (of 32 0)
    ∷ steps 8 4 (of 32 0) listing_feed 21 (answer_at 0 21 2) false 21 2 (of 32 0)
    ∷ steps 8 4 (of 32 0) listing_feed 30 (answer_at 0 21 2) false 30 2 (of 32 0)
    ∷ steps 6 4 (of 24 0) listing_feed 2 (answer_at 1 0 0) false 2 1 (of 24 0)
    ∷ steps 8 4 (of 31 0) listing_feed 30 (answer_at 2 0 0) false 30 2 (of 31 0)
    -- the board program: no bytes; an empty chunk; a feed that ends where a chunk would start; a copy that unsettles, and numbers of two digits
    ∷ prints [] "end 13 0\n"
    ∷ prints (0x02 ∷ 0x01 ∷ 0x00 ∷ []) "board 8 4\n1 3 0 2 0\nend 0 3\n"
    ∷ prints (0x02 ∷ 0x01 ∷ 0x05 ∷ []) "board 8 4\nend 13 3\n"
    ∷ prints (0x03 ∷ 0x01 ∷ 0x07 ∷ chunk (0x00 ∷ 0x61 ∷ 0x05 ∷ []) ++ 0x07 ∷ chunk (0x00 ∷ 0x20 ∷ 0x00 ∷ []) ++ 0x05 ∷ chunk (0xF0 ∷ []))
    "board 12 4\n1 0 7 1 3\n2 0 7 2 3\n3 7 4 2 0\nend 0 24\n"
    -- a place of five digits: a chunk of 10,000 zero bytes
    ∷ prints (0x01 ∷ 0x01 ∷ 0x90 ∷ 0x4E ∷ of 10000 0) "board 4 4\n1 4 0 1 0\nend 0 10004\n"
    -- five numbers, each another
    ∷ prints (0x03 ∷ 0x01 ∷ 0x06 ∷ chunk (0x00 ∷ 0x00 ∷ [])) "board 12 4\n1 5 6 3 2\nend 0 9\n"
    -- its limits: a size that gets 1; a size number that fails; 16,000 pixels and 16,016; 32,768 bytes and 32,769, before a bad number is looked at
    ∷ prints (0x51 ∷ 0x32 ∷ []) "end 1 0\n"
    ∷ prints (0x02 ∷ 0x80 ∷ []) "end 13 1\n"
    ∷ prints (0x28 ∷ 0x19 ∷ []) "board 160 100\nend 0 2\n"
    ∷ prints (0x4D ∷ 0x0D ∷ []) "too large\n"
    ∷ prints (0x80 ∷ 0x00 ∷ of 32766 0) "end 12 0\n"
    ∷ prints (0x80 ∷ 0x00 ∷ of 32767 0) "too large\n"
    -- the writer: the chunk of example 6; three colours, the greatest repeated; eight; sixteen
    ∷ writes 4 4 (of 16 0) (of 12 3 ++ 7 ∷ of 3 3) (chunk (0x80 ∷ 0x03 ∷ 0x07 ∷ 0x00 ∷ 0x08 ∷ []))
    ∷ writes 4 4 (of 16 0) (of 8 9 ++ of 7 4 ++ 6 ∷ []) (chunk (0xA0 ∷ 0x04 ∷ 0x06 ∷ 0x09 ∷ 0x09 ∷ 0xAA ∷ 0xAA ∷ 0x00 ∷ 0x01 ∷ []))
    ∷ writes 4 4 (of 16 9) octet_block (chunk (0xC0 ∷ 0x00 ∷ 0x01 ∷ 0x02 ∷ 0x03 ∷ 0x04 ∷ 0x05 ∷ 0x06 ∷ 0x07 ∷ 0x01 ∷ 0x23 ∷ 0x45 ∷ 0x67 ∷ 0x89 ∷ 0xAB ∷ []))
    ∷ writes 4 4 (of 16 0) (from 0 16) (chunk (0xE0 ∷ from 0 16))
    -- the writer's ends of a kind: four colours, five, eight, nine; two equal blocks of two colours stand apart
    ∷ encodes (given (coloured 4) ∷ []) (0xA0 ∷ 0 ∷ 1 ∷ 2 ∷ 3 ∷ 0x1B ∷ 0xFF ∷ 0xFF ∷ 0xFF ∷ [])
    ∷ encodes (given (coloured 5) ∷ []) (0xC0 ∷ from 0 5 ++ of 3 4 ++ 0x05 ∷ 0x39 ∷ 0x92 ∷ 0x42 ∷ 0x92 ∷ 0x44 ∷ [])
    ∷ encodes (given (coloured 9) ∷ []) (0xE0 ∷ coloured 9)
    ∷ encodes (given (coloured 2) ∷ given (coloured 2) ∷ []) (0x80 ∷ 0 ∷ 1 ∷ 0x7F ∷ 0xFF ∷ 0x80 ∷ 0 ∷ 1 ∷ 0x7F ∷ 0xFF ∷ [])
    -- runs of 16, of 256 and of 257
    ∷ encodes (replicate 16 (given (of 16 5))) (0x6F ∷ 5 ∷ [])
    ∷ encodes (map held (from 0 16)) (0x0F ∷ [])
    ∷ encodes (replicate 256 (given (of 16 5))) (0x70 ∷ 0xFF ∷ 5 ∷ [])
    ∷ encodes (replicate 257 (given (of 16 5))) (0x70 ∷ 0xFF ∷ 5 ∷ 0x60 ∷ 5 ∷ [])
    ∷ encodes (map held (from 0 257)) (0x10 ∷ 0xFF ∷ 0x00 ∷ [])
    -- the writer's runs: 17 of one colour; 17 skipped; an unchanged block ends a run even where it has the run's colour
    ∷ writes 68 4 (of 272 0) (of 272 5) (chunk (0x70 ∷ 0x10 ∷ 0x05 ∷ []))
    ∷ writes 68 4 (of 272 5) (of 272 5) (chunk (0x10 ∷ 0x10 ∷ []))
    ∷ writes 20 4 (line (0 ∷ 0 ∷ 5 ∷ 0 ∷ 0 ∷ [])) (line (0 ∷ 5 ∷ 5 ∷ 5 ∷ 6 ∷ [])) (chunk (0x00 ∷ 0x60 ∷ 0x05 ∷ 0x00 ∷ 0x60 ∷ 0x05 ∷ 0x60 ∷ 0x06 ∷ []))
    ∷ []

pub examples-hold : hold (fifteen ++ further) ≡ true
unfolding fifteen further holds
examples-hold = refl
