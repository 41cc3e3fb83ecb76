-- A board, what reading a chunk does to it, and one thing after the other. Assumes nothing.
use Rattle.std.specs.Prelude.{ℕ, ◌≡◌, List, [], ◌∷◌, Bool, ◌&&◌, eqb, length}
use Rattle.spec.specs.declared.Answer.{Answer}
use Rattle.spec.specs.declared.Size.{Size}
use Rattle.spec.specs.Basics.{if}
use Rattle.spec.specs.Answers.{bad_count, answer, checked}
use Rattle.spec.specs.Sizes.{pixels, columns, lines, blocks, fault}
use Rattle.spec.specs.Pictures.{Origin, paint}
use Rattle.spec.specs.Maps.{remap, unsettled, recount, miscounts}
use Rattle.spec.specs.Chunks.{Outcome, refused, accepted, decode, verdict}

-- a picture and a map that are lent, and the count of the record that is lent with them: any number, it may be untrue to the map. Its size
-- stands beside the board, since no call changes it
pub record Board : Type 0 where
  pub picture : List ℕ
  pub map : List ℕ
  pub kept : ℕ

abbrev pub board : List ℕ → List ℕ → ℕ → Board
board pic m n = record { picture = pic; map = m; kept = n }

-- what a call says, and what it leaves of the board
pub record Left (R : Type 0) : Type 0 where
  pub said : R
  pub board : Board

abbrev pub left : {R : Type 0} → R → Board → Left R
left a b = record { said = a; board = b }

-- "a picture and a map of exactly its lengths": as a fact, and as the test that 2 is given by
pub record Exact (z : Size) (b : Board) : Type 0 where
  pub picture : length b.picture ≡ pixels z
  pub map : length b.map ≡ blocks z

abbrev pub exact : Size → Board → Bool
exact z b = eqb (length b.picture) (pixels z) && eqb (length b.map) (blocks z)

-- a record that is not "untrue to its map": its count is the count of 01; and a board of exact lengths with such a record
abbrev pub TrueRecord : Board → Type 0
TrueRecord b = b.kept ≡ unsettled b.map

pub record Faithful (z : Size) (b : Board) : Type 0 where
  pub exact : Exact z b
  pub kept : TrueRecord b

-- picture, map and count through one list of origins
abbrev pub paint_board : Size → List Origin → Board → Board
paint_board z os b = board (paint (columns z) (lines z) os b.picture) (remap os b.map) (recount os b.map b.kept)

-- "On every refusal all lent buffers are unchanged": "record, map and picture"
abbrev pub effect : Size → Outcome → Board → Board
effect z (refused a) b = b
effect z (accepted os) b = paint_board z os b

-- "21, last of all checks": what an accepted chunk means on a board of n blocks. `decode` sees neither map nor record
abbrev pub recounted : ℕ → Board → Outcome → Outcome
recounted n b (refused a) = refused a
recounted n b (accepted os) = if (miscounts n os b.map b.kept) (refused (answer bad_count 0)) (accepted os)

-- reading a chunk where size and lengths are right, and reading it: "Order: 1, 2, 3, 4, then opcode by opcode", and 21 last
abbrev pub read_exact : Size → List ℕ → Board → Left Answer
read_exact z s b =
    let o = recounted (blocks z) b (decode (blocks z) s) in
    left (verdict s o) (effect z o b)

unfoldable pub read : Size → List ℕ → Board → Left Answer
read z s b = checked (fault z (exact z b)) (λ a. left a b) (read_exact z s b)

-- one thing after the other, each over what the one before it left: all that was said, in order, and the board at the end
unfoldable pub in_turn : {A R : Type 0} → (A → Board → Left R) → List A → Board → Left (List R)
in_turn f [] b = left [] b
in_turn f (a ∷ more) b =
    let first = f a b in
    let rest = in_turn f more first.board in
    left (first.said ∷ rest.said) rest.board
