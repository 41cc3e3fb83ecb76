-- A colour table as the code holds it: one run of bytes, and the next entry's number. Assumes nothing.
use Rattle.std.specs.Prelude.{◌≡◌, ℕ, ◌+◌, ◌*◌, ◌%◌, ◌^◌, ◌<◌, ◌≤◌, Bool, true, false, List, length, slice_index}
use Rattle.std.proofs.lemmas.List.Edits.{sets}
use Rattle.spec.specs.Basics.{part}
use Rattle.spec.specs.Chunks.{Table, capacity}
use Rattle.spec.proofs.Cells.{table_of}

-- a table of b bits a pixel: the colours to an entry, and all of them
abbrev pub colours : ℕ → ℕ
colours b = 2 ^ b

abbrev pub size : ℕ → ℕ
size b = colours b * capacity

-- l and next hold the table t of b bits a pixel. How many entries are filled the code does not keep
pub record Holds (b : ℕ) (l : List ℕ) (next : ℕ) (t : Table) : Type 0 where
  pub filled : ℕ
  pub same : t ≡ table_of (colours b) l filled next
  pub few : filled ≤ capacity
  pub byte : next < capacity
  pub first : filled < capacity → next ≡ filled
  pub room : length l ≡ size b

-- the entry of an opcode whose further bytes stand at s[q], w colours to an entry: one that stores makes its colours the next entry of the table l,
-- any other names one. Then l' and next' hold the table, its colours stand at l'[e], and its flags at s[rest]
pub record Entered (w : ℕ) (l : List ℕ) (next : ℕ) (s : List ℕ) (q : ℕ) (stores : Bool) (l' : List ℕ) (e rest next' : ℕ) : Type 0 where
  pub stored : stores ≡ true → (l' ≡ sets l (w * next) (part s q w)) × (e ≡ w * next) × (rest ≡ q + w) × (next' ≡ (next + 1) % capacity)
  pub named : stores ≡ false → (l' ≡ l) × (e ≡ w * slice_index s q) × (rest ≡ q + 1) × (next' ≡ next)
  pub room : e + w ≤ w * capacity
