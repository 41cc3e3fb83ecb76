-- 01, "The house feed and the board program": what the board program decides and prints. Assumes nothing.
use Rattle.std.specs.Prelude.{ℕ, zero, suc, ◌+◌, ◌/◌, ◌%◌, List, [], ◌∷◌, ◌++◌, map, ltb, eqb, length, replicate}
use Prim.Native.Char.{code}
use Prim.Native.String.{String, len, char_at}
use Rattle.spec.specs.declared.Answer.{Answer}
use Rattle.spec.specs.declared.Size.{Size}
use Rattle.spec.specs.declared.FeedSize.{FeedSize}
use Rattle.spec.specs.declared.Step.{Step}
use Rattle.spec.specs.declared.Decision.{Decision}
use Rattle.spec.specs.Basics.{if, from}
use Rattle.spec.specs.Answers.{ok}
use Rattle.spec.specs.Sizes.{pixels, blocks}
use Rattle.spec.specs.Maps.{fresh, unsettled}
use Rattle.spec.specs.Boards.{Board, board, read}
use Rattle.spec.specs.Feeds.{Placed, ended, chunks_from, feed_size}

-- "It takes feeds up to 32,768 bytes and 16,000 pixels"
abbrev pub max_feed : ℕ
max_feed = 32768

abbrev pub max_shown_pixels : ℕ
max_shown_pixels = 16000

-- "a size that gets 1 is not measured against the 16,000. Where a size number fails, or gets 1, only the end line is printed (place 0 for 1)"
abbrev pub decide_by : FeedSize → Decision
decide_by f =
    let board = Decision.Board f.size f.first in
    if (eqb f.answer.number ok) (if (ltb max_shown_pixels (pixels f.size)) Decision.TooLarge board) (Decision.EndLine f.answer)

-- "the feed's length is looked at before anything else"
unfoldable pub decide : List ℕ → Decision
decide s = if (ltb max_feed (length s)) Decision.TooLarge (decide_by (feed_size s))

-- 01's number and values for each case: "too large" has no number; the answer of the end line; or 0, the size, and the place of the first chunk
abbrev pub decision_says : Decision → List ℕ
decision_says Decision.TooLarge = []
decision_says (Decision.EndLine a) = a.number ∷ a.place ∷ a.block ∷ []
decision_says (Decision.Board z first) = ok ∷ z.width ∷ z.height ∷ first ∷ []

-- Text is ASCII
abbrev pub ascii : String → List ℕ
ascii t = map (λ i. code (char_at t i)) (from 0 (len t))

-- a number's last digit
abbrev pub digit : ℕ → ℕ
digit n = code "0" + n % 10

-- a number in front of a text, with the fewest digits that hold it. It has 64 bits, so 20 digits at most
unfoldable pub higher_digits : ℕ → ℕ → List ℕ → List ℕ
higher_digits zero n text = text
higher_digits (suc more) n text = if (eqb n 0) text (higher_digits more (n / 10) (digit n ∷ text))

unfoldable pub decimal : ℕ → List ℕ → List ℕ
decimal n text = higher_digits 19 (n / 10) (digit n ∷ text)

-- numbers with a space before each, and the line's end
abbrev pub spaced : List ℕ → List ℕ
spaced [] = ascii "\n"
spaced (n ∷ ns) = code " " ∷ decimal n (spaced ns)

-- "board 8 4", "end 0 21", "too large"
abbrev pub board_line : Size → List ℕ
board_line z = ascii "board" ++ spaced (z.width ∷ z.height ∷ [])

abbrev pub end_line : Answer → List ℕ
end_line a = ascii "end" ++ spaced (a.number ∷ a.place ∷ [])

abbrev pub too_large_line : List ℕ
too_large_line = ascii "too large\n"

-- "(chunk, number, place, unsettled)", and the block
abbrev pub chunk_line : ℕ → Answer → ℕ → List ℕ
chunk_line i a n = decimal i (spaced (a.number ∷ a.place ∷ n ∷ a.block ∷ []))

-- the lines of chunks, each read over what the one before it left, with the count as it then stands; i is the first one's number
unfoldable pub chunk_lines : Size → ℕ → List Placed → Board → List ℕ
chunk_lines z i [] b = []
chunk_lines z i (c ∷ cs) b =
    let l = read z c.bytes b in
    chunk_line i l.said (unsettled l.board.map) ++ chunk_lines z (i + 1) cs l.board

-- those from a place on, and the end line
abbrev pub lines_from : Size → List ℕ → ℕ → ℕ → Board → List ℕ
lines_from z s i at b = let cs = chunks_from (length s) s at in chunk_lines z i cs.list b ++ end_line (ended (blocks z) cs.ending)

-- "from an all-zero picture and a fresh map", with its record
abbrev pub starting_board : Size → Board
starting_board z = board (replicate (pixels z) 0) (fresh (blocks z)) (blocks z)

abbrev pub listing_by : List ℕ → Decision → List ℕ
listing_by s Decision.TooLarge = too_large_line
listing_by s (Decision.EndLine a) = end_line a
listing_by s (Decision.Board z first) = board_line z ++ lines_from z s 1 first (starting_board z)

unfoldable pub listing : List ℕ → List ℕ
listing s = listing_by s (decide s)

-- The line of one step of the walk: of the chunk that it has read, with the record's count, or the end line. Where the record is true to its map
-- these are the lines of the listing, one by one (trust/specs/Lines)
unfoldable pub step_line : ℕ → Step → List ℕ
step_line i st = if st.chunk (chunk_line i st.answer st.kept.unsettled) (end_line st.answer)
