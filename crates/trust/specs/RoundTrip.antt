-- The round trip: what the writer wrote, read over the old picture, gives the new one. Assumes nothing.
use Rattle.std.specs.Prelude.{ℕ, ◌≤◌, ◌≡◌, List, map, true, length, get_or}
use Rattle.spec.specs.declared.Size.{Size}
use Rattle.spec.specs.Basics.{if, from, same}
use Rattle.spec.specs.Answers.{ok, answer_at}
use Rattle.spec.specs.Sizes.{allowed, pixels, columns, blocks}
use Rattle.spec.specs.Pictures.{block_at}
use Rattle.spec.specs.Maps.{settled, unsettled}
use Rattle.spec.specs.Boards.{board, left, read}
use Rattle.spec.specs.Writing.{max_length, chunk_for}

-- what the map then holds: the written blocks are settled, and every other entry is as it was
unfoldable pub marked : Size → List ℕ → List ℕ → List ℕ → List ℕ
marked z old new m = map (λ k. if (same (block_at (columns z) old k) (block_at (columns z) new k)) (get_or m k 0) settled) (from 0 (blocks z))

-- reading what was written over the old picture, with every lent map and its true record: accepted whole, the new picture is there, and the record
-- is true again; and how long it can be
pub record ReadsBack (z : Size) (old new m : List ℕ) : Type 0 where
  pub reads :
      let after = marked z old new m in
      read z (chunk_for z old new) (board old m (unsettled m))
      ≡ left (answer_at ok (length (chunk_for z old new)) (blocks z)) (board new after (unsettled after))
  pub short : length (chunk_for z old new) ≤ max_length (blocks z)

-- for every allowed size, old and new picture and map of its lengths
abbrev pub WrittenReadsBack : Type 0
WrittenReadsBack =
    (z : Size) → allowed z ≡ true → (old new m : List ℕ) → length old ≡ pixels z → length new ≡ pixels z → length m ≡ blocks z → ReadsBack z old new m
