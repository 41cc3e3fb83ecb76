-- Demand 3: "a single claim over every whole sequence, the empty one too, and not one for each call"; what it starts from, and that the kept count
-- is true. Assumes nothing.
use Rattle.std.specs.Prelude.{ℕ, ◌<◌, ◌≡◌, ◌↔◌, ◌≢◌, List, [], true, length, get_or}
use Rattle.spec.specs.declared.Size.{Size}
use Rattle.spec.specs.Basics.{Every}
use Rattle.spec.specs.Sizes.{allowed, columns, blocks}
use Rattle.spec.specs.Pictures.{block_at}
use Rattle.spec.specs.Maps.{settled, unsettled, Fresh, fresh_map, count_map}
use Rattle.spec.specs.Boards.{Board, board, Left, Exact}
use Rattle.spec.specs.Feeds.{Chunks, sized, feed_of, Reply, walk}
use Rattle.spec.specs.Calls.{Call, run}

-- What it speaks of is what the contracts of the running functions cite: `fresh_map` (board_map::fresh_map), `count_map`
-- (board_map::count_unsettled), and in `call` the definitions `read` (smc::read_chunk), `walk` (feed::walk_feed) and `walk_run`
-- (feed::walk_run).

-- "a picture and a map of exactly its lengths", "One byte a pixel": map and count may be any numbers, they are made fresh first
pub record IsStart (z : Size) (b : Board) : Type 0 where
  pub exact : Exact z b
  pub bytes : Every (λ (x : ℕ). x < 256) b.picture

-- "a feed for that size has it as its size numbers, or its walk ends before any chunk is read"
pub data FeedFor (z : Size) (s : List ℕ) : Type 0 where
  its_size : (cs : Chunks) → feed_of s ≡ sized z cs → FeedFor z s
  none_read : ((b : Board) → Exact z b → (walk z s b).said.inside ≡ []) → FeedFor z s

-- a walk compares a feed's size with the record's, so every feed is one; chunks and runs are read at the record's size. So demand 3 needs no
-- hypothesis on its calls
abbrev pub EveryFeed : Type 0
EveryFeed = (z : Size) (s : List ℕ) → FeedFor z s

-- what `fresh_map` leaves where neither 1 nor 2 is given is a fresh map with its fresh record
abbrev pub StartsFresh : Type 0
StartsFresh = (z : Size) → allowed z ≡ true → (m : List ℕ) → length m ≡ blocks z → Fresh z (fresh_map z m).map (fresh_map z m).kept

-- a board started fresh, map and record: what `fresh_map` leaves beside the starting picture, whatever map and count were there
abbrev pub start_fresh : Size → Board → Board
start_fresh z p = let fresh = fresh_map z p.map in board p.picture fresh.map fresh.kept.unsettled

-- a sequence of calls on it: "each call is lent the one that the call before left"
abbrev pub ran : Size → List Call → Board → Left (List Reply)
ran z calls p = run z calls (start_fresh z p)

-- block k and its map entry, as they stand at the end
abbrev pub shows : Size → List Call → Board → ℕ → List ℕ
shows z calls p k = block_at (columns z) (ran z calls p).board.picture k

abbrev pub entry_at : Size → List Call → Board → ℕ → ℕ
entry_at z calls p k = get_or (ran z calls p).board.map k 0

-- the claim for one sequence and two starting boards
pub record Alike (z : Size) (calls : List Call) (p q : Board) : Type 0 where
  -- equal answers, their blocks, those of the chunks inside a walk and the number accepted among them, equal maps, equal records, and equal counts
  pub answers : (ran z calls p).said ≡ (ran z calls q).said
  pub maps : (ran z calls p).board.map ≡ (ran z calls q).board.map
  pub records : (ran z calls p).board.kept ≡ (ran z calls q).board.kept
  pub counts : count_map z (ran z calls p).board.map ≡ count_map z (ran z calls q).board.map
  -- a block is settled exactly when it shows the same pixels whatever the starting picture
  pub settles :
      (k : ℕ) → k < blocks z
      → (entry_at z calls p k ≡ settled) ↔ ((r s : Board) → IsStart z r → IsStart z s → shows z calls r k ≡ shows z calls s k)
  -- any other block shows the block of its own starting picture that the map names
  pub names :
      (k : ℕ) → k < blocks z → entry_at z calls p k ≢ settled
      → (entry_at z calls p k < blocks z)
      × (shows z calls p k ≡ block_at (columns z) p.picture (entry_at z calls p k))
      × (shows z calls q k ≡ block_at (columns z) q.picture (entry_at z calls p k))

abbrev pub Demand3 : Type 0
Demand3 =
    (z : Size) → allowed z ≡ true
    → (calls : List Call) (p q : Board) → IsStart z p → IsStart z q
    → Alike z calls p q

-- "From a fresh record, map and record lent on as each call left them, it must always equal the count of 01"
abbrev pub KeptTrue : Type 0
KeptTrue =
    (z : Size) → allowed z ≡ true
    → (calls : List Call) (p : Board) → IsStart z p
    → (ran z calls p).board.kept ≡ unsettled (ran z calls p).board.map
