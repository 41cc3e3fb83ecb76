-- Runs of blocks in picture and map, one block after the other. Assumes nothing.
use Rattle.std.specs.Prelude.{ℕ, zero, suc, ◌+◌, ◌-◌, List, slice_index, slice_set}
use Rattle.spec.specs.Pictures.{block_at, put_block}
use Rattle.spec.specs.Maps.{settled}

-- n blocks from block k on: block i of them gets what f i gives, of the picture as made so far; and its entry what e i gives, of the map so far
unfoldable pub put_each : ℕ → ℕ → (ℕ → List ℕ → List ℕ) → ℕ → List ℕ → List ℕ
put_each c k f zero pic = pic
put_each c k f (suc i) pic = put_block c (k + i) (f i (put_each c k f i pic)) (put_each c k f i pic)

unfoldable pub mark_each : ℕ → (ℕ → List ℕ → ℕ) → ℕ → List ℕ → List ℕ
mark_each k e zero m = m
mark_each k e (suc i) m = slice_set (mark_each k e i m) (k + i) (e i (mark_each k e i m))

-- given blocks, block i of them the sixteen pixels f i; and their entries settled
abbrev pub puts : ℕ → ℕ → (ℕ → List ℕ) → ℕ → List ℕ → List ℕ
puts c k f n pic = put_each c k (λ i p. f i) n pic

abbrev pub marks : ℕ → ℕ → List ℕ → List ℕ
marks k n m = mark_each k (λ i p. settled) n m

-- copies, each the block d before it; and their entries
abbrev pub copied : ℕ → ℕ → ℕ → ℕ → List ℕ → List ℕ
copied c d k n pic = put_each c k (λ i p. block_at c p (k + i - d)) n pic

abbrev pub moved : ℕ → ℕ → ℕ → List ℕ → List ℕ
moved d k n m = mark_each k (λ i p. slice_index p (k + i - d)) n m
