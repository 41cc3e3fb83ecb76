-- 01, "A chunk" and the order of its refusals: what a chunk means for a picture of n blocks, a refusal or an origin for each block.
-- No picture and no map plays a part. Assumes nothing.
use Rattle.std.specs.Prelude.{ℕ, zero, suc, ◌+◌, ◌-◌, ◌*◌, ◌/◌, ◌%◌, ◌^◌, List, [], ◌∷◌, ◌++◌, map, Bool, false, not, ◌&&◌, leb, ltb, eqb, length, get_or, set, replicate, drop}
use Rattle.spec.specs.declared.Answer.{Answer}
use Rattle.spec.specs.Basics.{if, fuelled, from, part, same}
use Rattle.spec.specs.Answers.{ok, chunk_short, length_differs, blocks_remain, opcode_cut, opcode_unknown, none_before, past_last_block, entry_empty, bytes_follow, answer_at, answer}
use Rattle.spec.specs.Pictures.{Origin, given, held}
use Rattle.spec.specs.Flags.{number, flags, chosen}

-- What an upper half-byte asks for. A colour table is known by its bits a pixel: 1 pairs, 2 quads, 3 octets
pub data Kind : Type 0 where
  -- "n blocks keep pixels and map entry"; "n blocks of that colour"; "16 colours a block, row by row"
  skip fill whole : Kind
  -- "each takes pixels and entry of the block before", or of "the block two before"
  copy : ℕ → Kind
  -- colours stored in a table, and flags; an entry of a table named, and flags
  store : ℕ → Kind
  named : ℕ → Kind

-- 01's table: 0 to E, in order
abbrev pub kinds : List Kind
kinds =
    skip ∷ skip ∷ copy 1 ∷ copy 1 ∷ copy 2 ∷ copy 2 ∷ fill ∷ fill
    ∷ store 1 ∷ named 1 ∷ store 2 ∷ named 2 ∷ store 3 ∷ named 3 ∷ whole ∷ []

abbrev pub kind_of : ℕ → Kind
kind_of u = get_or kinds u skip

-- n is "1+next byte" for 1, 3, 5 and 7, and "1+low" for the others
abbrev pub counted : ℕ → Bool
counted u = ltb u 8 && eqb (u % 2) 1

-- how many blocks a count of one stands for: "n pairs", "each of 2n blocks"
abbrev pub times : Kind → ℕ
times skip = 1
times fill = 1
times whole = 1
times (copy d) = d
times (store b) = 1
times (named b) = 1

-- how many blocks must stand before
abbrev pub reach : Kind → ℕ
reach skip = 0
reach fill = 0
reach whole = 0
reach (copy d) = d
reach (store b) = 0
reach (named b) = 0

-- how many bytes come once after the count: "1 colour"; "2 colours", "4 colours", "8 colours"; "an entry number"
abbrev pub once : Kind → ℕ
once skip = 0
once fill = 1
once whole = 0
once (copy d) = 0
once (store b) = 2 ^ b
once (named b) = 1

-- how many bytes come for each block: "2 flag bytes a block", 4, 6; "16 colours a block"
abbrev pub each : Kind → ℕ
each skip = 0
each fill = 0
each whole = 16
each (copy d) = 0
each (store b) = 2 * b
each (named b) = 2 * b

-- the table of which it names an entry, and the table in which it stores one; 0 for none
abbrev pub names : Kind → ℕ
names skip = 0
names fill = 0
names whole = 0
names (copy d) = 0
names (store b) = 0
names (named b) = b

abbrev pub stores : Kind → ℕ
stores skip = 0
stores fill = 0
stores whole = 0
stores (copy d) = 0
stores (store b) = b
stores (named b) = 0

-- "Each table holds 256 entries"
abbrev pub capacity : ℕ
capacity = 256

-- A colour table: the entries filled in this chunk, and where the next one goes
pub record Table : Type 0 where
  pub cells : List (List ℕ)
  pub next : ℕ

-- "All three are emptied at the start of a chunk; storing begins at entry 0"
abbrev pub emptied : Table
emptied = record { cells = []; next = 0 }

-- "the entry after 255 is entry 0, whose old colours are lost"
unfoldable pub put : Table → List ℕ → Table
put t cs =
    record {
      cells = if (ltb t.next (length t.cells)) (set t.cells t.next cs) (t.cells ++ cs ∷ []);
      next = (t.next + 1) % capacity;
    }

-- How far a chunk has been read: the place of the next byte, the origins made so far, and the tables by their bits (the first stands for none)
pub record State : Type 0 where
  pub at : ℕ
  pub made : List Origin
  pub tables : List Table

abbrev pub table : State → ℕ → Table
table st b = get_or st.tables b emptied

abbrev pub start : State
start = record { at = 4; made = []; tables = emptied ∷ emptied ∷ emptied ∷ emptied ∷ [] }

-- how many entries of each table are filled; "here an entry not filled in this chunk may not be named"
abbrev pub fills : List Table → List ℕ
fills ts = map (λ t. length t.cells) ts

unfoldable pub missing : List ℕ → Kind → ℕ → Bool
missing filled k e = if (eqb (names k) 0) false (leb (get_or filled (names k) 0) e)

-- The head of an opcode: a refusal's number; or its kind, how many blocks it makes, and the place after its count
pub data Head : Type 0 where
  bad : ℕ → Head
  runs : Kind → ℕ → ℕ → Head

-- with its upper half-byte u and its count read, its further bytes at `at`, and k of n blocks made.
-- "8, 9, colour bytes or entry number (6), 10, remaining bytes (6)"
unfoldable pub body : ℕ → List ℕ → ℕ → List ℕ → ℕ → ℕ → ℕ → Head
body n s k filled u count at =
    let m = times (kind_of u) * count in
    let rest = at + once (kind_of u) in
    if (ltb k (reach (kind_of u))) (bad none_before)
    (if (ltb n (k + m)) (bad past_last_block)
    (if (ltb (length s) rest) (bad opcode_cut)
    (if (missing filled (kind_of u) (get_or s at 0)) (bad entry_empty)
    (if (ltb (length s) (rest + each (kind_of u) * m)) (bad opcode_cut) (runs (kind_of u) m at)))))

-- the opcode at s[at], "Upper half-byte first": the half-byte, the count ("1+low", "1+next byte"), and the place after it
abbrev pub upper_at : List ℕ → ℕ → ℕ
upper_at s at = get_or s at 0 / 16

unfoldable pub count_at : List ℕ → ℕ → ℕ
count_at s at = if (counted (upper_at s at)) (1 + get_or s (at + 1) 0) (1 + get_or s at 0 % 16)

unfoldable pub body_at : List ℕ → ℕ → ℕ
body_at s at = if (counted (upper_at s at)) (at + 2) (at + 1)

-- its head: "7, count byte (6)", then the above
unfoldable pub opcode : ℕ → List ℕ → ℕ → ℕ → List ℕ → Head
opcode n s at k filled =
    if (leb 15 (upper_at s at)) (bad opcode_unknown)
    (if (ltb (length s) (body_at s at)) (bad opcode_cut) (body n s k filled (upper_at s at) (count_at s at) (body_at s at)))

-- m blocks more, each with the origin of the block d before it: "Copies work block by block in order, on the picture as made so far"
abbrev pub copies : ℕ → ℕ → List Origin → List Origin
copies d zero made = made
copies d (suc m) made = copies d m (made ++ get_or made (length made - d) (held 0) ∷ [])

-- m blocks, each with pixels by `size` bytes of its own, which stand from `at` on
unfoldable pub blocks_by : (List ℕ → List ℕ) → ℕ → List ℕ → ℕ → ℕ → List Origin
blocks_by f size s at m = map (λ i. given (f (part s (at + size * i) size))) (from 0 m)

-- the origins made so far with m more. Here hs are the bytes that come once, and the blocks' own bytes stand from `at` on
unfoldable pub extend : Kind → List ℕ → List ℕ → ℕ → ℕ → State → List Origin
extend skip hs s at m st = st.made ++ map held (from (length st.made) m)
extend fill hs s at m st = st.made ++ blocks_by (λ bs. replicate 16 (get_or hs 0 0)) 0 s at m
extend whole hs s at m st = st.made ++ blocks_by (λ bs. bs) 16 s at m
extend (copy d) hs s at m st = copies d m st.made
extend (store b) hs s at m st = st.made ++ blocks_by (λ bs. chosen (flags b bs) hs) (2 * b) s at m
extend (named b) hs s at m st = st.made ++ blocks_by (λ bs. chosen (flags b bs) (get_or (table st b).cells (get_or hs 0 0) [])) (2 * b) s at m

-- "Opcodes 8, A and C first store their colours in the pair, quad or octet table"
unfoldable pub stored : Kind → List ℕ → List Table → List Table
stored k hs ts = if (eqb (stores k) 0) ts (set ts (stores k) (put (get_or ts (stores k) emptied) hs))

-- What an opcode leads to: a refusal's number, or the next state
pub data Step : Type 0 where
  stop : ℕ → Step
  go : State → Step

abbrev pub act : List ℕ → State → Head → Step
act s st (bad e) = stop e
act s st (runs k m at) =
    let hs = part s at (once k) in
    let rest = at + once k in
    go (record { at = rest + each k * m; made = extend k hs s rest m st; tables = stored k hs st.tables })

unfoldable pub step : ℕ → List ℕ → State → Step
step n s st = act s st (opcode n s st.at (length st.made) (fills st.tables))

-- What a chunk means
pub data Outcome : Type 0 where
  refused : Answer → Outcome
  accepted : List Origin → Outcome

-- What may stand after the last block. 01 says "bytes follow the last block" of any byte there; this is corrected (docs/DECISIONS.md): up to
-- three bytes, all of them zero, are padding, and only others get 11
abbrev pub max_padding : ℕ
max_padding = 3

unfoldable pub padding : List ℕ → Bool
padding bs = leb (length bs) max_padding && same bs (replicate (length bs) 0)

-- no opcode is left to read: "bytes end before an opcode, blocks remain" (5), "11 is looked for last", or all is well
unfoldable pub finish : ℕ → List ℕ → State → Outcome
finish n s st =
    if (ltb (length st.made) n) (refused (answer_at blocks_remain (length s) (length st.made)))
    (if (not (padding (drop st.at s))) (refused (answer_at bytes_follow st.at n)) (accepted st.made))

-- a refusal at the place and the block of its opcode, which the state stands before; or what `onward` makes of the next state
abbrev pub resume : (State → Outcome) → State → Step → Outcome
resume onward st (stop e) = refused (answer_at e st.at (length st.made))
resume onward st (go next) = onward next

-- "Then come opcodes until every block has had its turn". Each takes a byte, so the chunk's length is fuel enough
abbrev pub goes_on : ℕ → List ℕ → State → Bool
goes_on n s st = ltb (length st.made) n && ltb st.at (length s)

unfoldable pub loop : ℕ → ℕ → List ℕ → State → Outcome
loop fuel n s st = fuelled (goes_on n s) (λ onward st. resume onward st (step n s st)) (finish n s) fuel st

-- "Byte 0 may be anything. Bytes 1 to 3, highest first, are the whole chunk's length, these four bytes included"
unfoldable pub decode : ℕ → List ℕ → Outcome
decode n s =
    if (ltb (length s) 4) (refused (answer chunk_short 0))
    (if (not (eqb (number 256 (part s 1 3)) (length s))) (refused (answer length_differs 0)) (loop (length s) n s start))

-- the answer to a chunk: for an accepted one the "length used", padding included, and the number of blocks, which have an origin each
abbrev pub verdict : List ℕ → Outcome → Answer
verdict s (refused a) = a
verdict s (accepted os) = answer_at ok (length s) (length os)
