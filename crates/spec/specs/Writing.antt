-- 01, "The writer's chunk". Assumes nothing.
use Rattle.std.specs.Prelude.{ℕ, zero, suc, ◌+◌, ◌-◌, ◌*◌, ◌^◌, ◌≡◌, List, [], ◌∷◌, ◌++◌, map, Bool, true, false, ◌&&◌, leb, ltb, eqb, length, get_or, drop, replicate}
use Rattle.spec.specs.declared.Answer.{Answer}
use Rattle.spec.specs.declared.Size.{Size}
use Rattle.spec.specs.Basics.{if, from, same}
use Rattle.spec.specs.Answers.{ok, output_short, answer_at, answer, checked}
use Rattle.spec.specs.Sizes.{pixels, columns, blocks, fault}
use Rattle.spec.specs.Pictures.{Origin, given, held, block_at}
use Rattle.spec.specs.Flags.{digits, flag_bytes}

-- one colour more among rising colours, each of which stands there once; the colours of a block, rising
unfoldable pub insert : ℕ → List ℕ → List ℕ
insert x [] = x ∷ []
insert x (y ∷ ys) =
    let under = x ∷ y ∷ ys in
    let past = y ∷ insert x ys in
    if (eqb x y) (y ∷ ys) (if (ltb x y) under past)

unfoldable pub colours : List ℕ → List ℕ
colours [] = []
colours (p ∷ ps) = insert p (colours ps)

-- "colours stored rising, the greatest repeated to fill", for a table of so many bits a pixel
unfoldable pub entries : ℕ → List ℕ → List ℕ
entries bits cs = cs ++ replicate (2 ^ bits - length cs) (get_or cs (length cs - 1) 0)

-- "each pixel naming the lowest entry that fits"
unfoldable pub entry_of : List ℕ → ℕ → ℕ
entry_of [] p = 0
entry_of (c ∷ cs) p =
    let next = suc (entry_of cs p) in
    if (eqb c p) 0 next

-- "A changed block of 2, 3 to 4, 5 to 8 or more colours goes by itself under 8, A, C or E"
unfoldable pub tabled : ℕ → List ℕ → List ℕ → List ℕ
tabled bits es px = 16 * (6 + 2 * bits) ∷ es ++ flag_bytes bits (map (entry_of es) px)

unfoldable pub single : List ℕ → List ℕ
single px =
    let cs = colours px in
    if (leb (length cs) 2) (tabled 1 (entries 1 cs) px)
    (if (leb (length cs) 4) (tabled 2 (entries 2 cs) px)
    (if (leb (length cs) 8) (tabled 3 (entries 3 cs) px) (0xE0 ∷ px)))

-- "Runs of 1 to 16 use opcodes 0 or 6, longer ones 1 or 7 with low 0"
unfoldable pub counting : ℕ → ℕ → List ℕ
counting u m = if (leb m 16) ((16 * u + (m - 1)) ∷ []) (16 * (u + 1) ∷ (m - 1) ∷ [])

-- a block of one colour
unfoldable pub plain : List ℕ → Bool
plain px = leb (length (colours px)) 1

-- the bytes of a run of m blocks that have the same origin, or are all held
unfoldable pub opcode_for : Origin → ℕ → List ℕ
opcode_for (held k) m = counting 0 m
opcode_for (given px) m = if (plain px) (counting 6 m ++ get_or px 0 0 ∷ []) (single px)

-- "skip the longest run of such blocks"; "the longest run of changed blocks of that same one colour": y goes on with the run that x began
abbrev pub joins : Origin → Origin → Bool
joins (held j) (held k) = true
joins (held j) (given qx) = false
joins (given px) (held k) = false
joins (given px) (given qx) = plain px && same px qx

-- how many of the next blocks go on with x's run, at most so many
unfoldable pub alike : Origin → ℕ → List Origin → ℕ
alike x zero ys = 0
alike x (suc most) [] = 0
alike x (suc most) (y ∷ ys) =
    let m = suc (alike x most ys) in
    if (joins x y) m 0

-- a run is of "at most 256" blocks
abbrev pub max_run : ℕ
max_run = 256

-- the opcodes for all blocks but the first j, which stand in a run already written
unfoldable pub opcodes : ℕ → List Origin → List ℕ
opcodes j [] = []
opcodes (suc j) (x ∷ xs) = opcodes j xs
opcodes zero (x ∷ xs) =
    let more = alike x (max_run - 1) xs in
    opcode_for x (suc more) ++ opcodes more xs

-- a list that can be written, from block k on: entry k is `held k`, or `given` sixteen pixels
pub data Writable : ℕ → List Origin → Type 0 where
  ends : {k : ℕ} → Writable k []
  keeps : {k : ℕ} {os : List Origin} → Writable (suc k) os → Writable k (held k ∷ os)
  gives : {k : ℕ} {px : List ℕ} {os : List Origin} → length px ≡ 16 → Writable (suc k) os → Writable k (given px ∷ os)

-- "Byte 0 is E1 (hex). Blocks in order." For a list that can be written from block 0 on
unfoldable pub encode : List Origin → List ℕ
encode os = let body = opcodes 0 os in 0xE1 ∷ digits 8 3 (4 + length body) ++ body

-- "Its length is at most 4 + 17 x blocks"
abbrev pub max_length : ℕ → ℕ
max_length n = 4 + 17 * n

-- what became of block k: "A block equal to the old one", or a changed one
unfoldable pub difference : List ℕ → List ℕ → ℕ → Origin
difference old new k = if (same old new) (held k) (given new)

unfoldable pub differences : Size → List ℕ → List ℕ → List Origin
differences z old new = map (λ k. difference (block_at (columns z) old k) (block_at (columns z) new k) k) (from 0 (blocks z))

-- the writer's chunk, from an old picture to a new one
abbrev pub chunk_for : Size → List ℕ → List ℕ → List ℕ
chunk_for z old new = encode (differences z old new)

-- What a write answers, and what the output then holds
pub record Wrote : Type 0 where
  pub answer : Answer
  pub output : List ℕ

abbrev pub wrote : Answer → List ℕ → Wrote
wrote a out = record { answer = a; output = out }

-- bytes over the front of what was there: "Output after the chunk is untouched"
abbrev pub onto : List ℕ → List ℕ → List ℕ
onto bs out = bs ++ drop (length bs) out

-- "14 exactly when the output is shorter than the chunk". "For the writer's 0 the place is the length written". Here n is the number of blocks
unfoldable pub emit : ℕ → List ℕ → List ℕ → Wrote
emit n bytes out = if (ltb (length out) (length bytes)) (wrote (answer output_short 0) out) (wrote (answer_at ok (length bytes) n) (onto bytes out))

-- "Order of refusals: 1, 2 (either picture), then 14"
unfoldable pub write : Size → List ℕ → List ℕ → List ℕ → Wrote
write z old new out =
    checked (fault z (eqb (length old) (pixels z) && eqb (length new) (pixels z))) (λ a. wrote a out) (emit (blocks z) (chunk_for z old new) out)
