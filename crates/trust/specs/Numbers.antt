-- Demand 1: every call that another program can make ends in one of the numbered answers, whatever bytes and lengths it is lent. For each call the
-- numbers that it answers with: these and no others. Assumes nothing.
use Rattle.std.specs.Prelude.{ℕ, List, [], ◌∷◌, map}
use Rattle.spec.specs.declared.Answer.{Answer}
use Rattle.spec.specs.declared.Size.{Size}
use Rattle.spec.specs.Basics.{if, Every, Among}
use Rattle.spec.specs.Maps.{fresh_map, count_map}
use Rattle.spec.specs.Boards.{Board, read}
use Rattle.spec.specs.Writing.{write}
use Rattle.spec.specs.Feeds.{feed_size, walk, walk_run, walk_step}
use Rattle.sprite.specs.Symbols.{SymbolLent, paint_symbol}

-- What calls are lent: a size and a map; a size, the old picture, the new one and the output
pub record MapLent : Type 0 where
  pub size : Size
  pub map : List ℕ

pub record WriteLent : Type 0 where
  pub size : Size
  pub old : List ℕ
  pub new : List ℕ
  pub output : List ℕ

-- a record's size, a chunk, a feed or a run, the board with the record's count, and for a step a place
pub record ReadLent : Type 0 where
  pub size : Size
  pub bytes : List ℕ
  pub board : Board
  pub at : ℕ

-- e is the number of one of the answers that the call gives for something that is lent; what proofs/Witnesses lends are bytes and small numbers
pub record Given {A : Type 0} (answers : A → List Answer) (e : ℕ) : Type 0 where
  pub lent : A
  pub gives : Among e (map (λ a. a.number) (answers lent))

-- whatever is lent, each answer's number is one of these; and each of these is given
pub record Exactly {A : Type 0} (numbers : List ℕ) (answers : A → List Answer) : Type 0 where
  pub among : (x : A) → Every (λ a. Among a.number numbers) (answers x)
  pub given : Every (Given answers) numbers

-- Making a fresh map and counting "refuse with 1 and 2 only"
abbrev pub of_maps : List ℕ
of_maps = 0 ∷ 1 ∷ 2 ∷ []

abbrev pub start_answers : MapLent → List Answer
start_answers x = (fresh_map x.size x.map).answer ∷ []

abbrev pub count_answers : MapLent → List Answer
count_answers x = (count_map x.size x.map).answer ∷ []

-- a chunk that is read by itself; and where size and lengths are right
abbrev pub of_reads : List ℕ
of_reads = 0 ∷ 1 ∷ 2 ∷ 3 ∷ 4 ∷ 5 ∷ 6 ∷ 7 ∷ 8 ∷ 9 ∷ 10 ∷ 11 ∷ 21 ∷ []

abbrev pub of_chunks : List ℕ
of_chunks = 0 ∷ 3 ∷ 4 ∷ 5 ∷ 6 ∷ 7 ∷ 8 ∷ 9 ∷ 10 ∷ 11 ∷ 21 ∷ []

abbrev pub read_answers : ReadLent → List Answer
read_answers x = (read x.size x.bytes x.board).said ∷ []

-- "Order of refusals: 1, 2 (either picture), then 14"
abbrev pub of_writes : List ℕ
of_writes = 0 ∷ 1 ∷ 2 ∷ 14 ∷ []

abbrev pub write_answers : WriteLent → List Answer
write_answers x = (write x.size x.old x.new x.output).answer ∷ []

-- a walk of a feed or of a run: its own answer, and those of the chunks inside it. 21 is a chunk's, and never a walk's own
abbrev pub of_walks : List ℕ
of_walks = 0 ∷ 1 ∷ 2 ∷ 12 ∷ 13 ∷ []

abbrev pub own_of_walk : ReadLent → List Answer
own_of_walk x = (walk x.size x.bytes x.board).said.answer ∷ []

abbrev pub inside_walk : ReadLent → List Answer
inside_walk x = (walk x.size x.bytes x.board).said.inside

abbrev pub own_of_run : ReadLent → List Answer
own_of_run x = (walk_run x.size x.bytes x.board).said.answer ∷ []

abbrev pub inside_run : ReadLent → List Answer
inside_run x = (walk_run x.size x.bytes x.board).said.inside

-- a step: where no chunk is read, and of the chunk that is read
abbrev pub own_of_step : ReadLent → List Answer
own_of_step x = let st = (walk_step x.size x.bytes x.at x.board).said in if st.chunk [] (st.answer ∷ [])

abbrev pub of_chunk : ReadLent → List Answer
of_chunk x = let st = (walk_step x.size x.bytes x.at x.board).said in if st.chunk (st.answer ∷ []) []

-- a feed's size
abbrev pub of_sizes : List ℕ
of_sizes = 0 ∷ 1 ∷ 12 ∷ 13 ∷ []

abbrev pub size_answers : List ℕ → List Answer
size_answers s = (feed_size s).answer ∷ []

-- a symbol: "after 1 and 2", 15 to 20
abbrev pub of_symbols : List ℕ
of_symbols = 0 ∷ 1 ∷ 2 ∷ 15 ∷ 16 ∷ 17 ∷ 18 ∷ 19 ∷ 20 ∷ []

abbrev pub paint_answers : SymbolLent → List Answer
paint_answers x = (paint_symbol x.size x.picture x.file x.frame x.left x.top).answer ∷ []

pub record Numbers : Type 0 where
  pub starting : Exactly of_maps start_answers
  pub counting : Exactly of_maps count_answers
  pub reading : Exactly of_reads read_answers
  pub writing : Exactly of_writes write_answers
  pub walking : Exactly of_walks own_of_walk
  pub inside_walks : Exactly of_chunks inside_walk
  pub running : Exactly of_walks own_of_run
  pub inside_runs : Exactly of_chunks inside_run
  pub stepping : Exactly of_walks own_of_step
  pub on_chunks : Exactly of_chunks of_chunk
  pub sizing : Exactly of_sizes size_answers
  pub painting : Exactly of_symbols paint_answers
