-- 01, "Picture, blocks, map": the map, the fresh map, the unsettled count; 02, Ask 5: the record that keeps it; and origins one after the other.
-- Assumes nothing.
use Rattle.std.specs.Prelude.{ℕ, ◌+◌, ◌-◌, ◌≡◌, List, [], ◌∷◌, map, Bool, true, not, ◌&&◌, ◌||◌, ltb, eqb, length, get_or}
use Rattle.spec.specs.declared.Answer.{Answer}
use Rattle.spec.specs.declared.Count.{Count}
use Rattle.spec.specs.declared.Size.{Size}
use Rattle.spec.specs.declared.Record.{Record}
use Rattle.spec.specs.Basics.{if, from}
use Rattle.spec.specs.Answers.{ok, answer, checked}
use Rattle.spec.specs.Sizes.{allowed, blocks, fault}
use Rattle.spec.specs.Pictures.{Origin, given, held}

-- "65,535 means settled; any other number names a block of the starting picture"
abbrev pub settled : ℕ
settled = 65535

-- the map that a list of origins, one a block, makes of the map that was lent: what is given is settled,
-- what is held takes its entry with it. "Callers may lend any numbers; they are moved and never refused"
abbrev pub entry : List ℕ → Origin → ℕ
entry m (given px) = settled
entry m (held j) = get_or m j 0

unfoldable pub remap : List Origin → List ℕ → List ℕ
remap os m = map (entry m) os

-- "A fresh map holds k at place k"
abbrev pub fresh : ℕ → List ℕ
fresh n = from 0 n

-- "The unsettled count is how many entries are not 65,535"
abbrev pub unsettled : List ℕ → ℕ
unsettled [] = 0
unsettled (x ∷ xs) = if (eqb x settled) 0 1 + unsettled xs

-- Ask 5. From one map to another: how many entries were the mark and are not any more ("blocks newly unsettled"), and how many have become it
abbrev pub newly_unsettled : List ℕ → List ℕ → ℕ
newly_unsettled [] after = 0
newly_unsettled (x ∷ before) [] = 0
newly_unsettled (x ∷ before) (y ∷ after) = if (eqb x settled && not (eqb y settled)) 1 0 + newly_unsettled before after

abbrev pub newly_settled : List ℕ → List ℕ → ℕ
newly_settled before after = newly_unsettled after before

-- "every accepted chunk adds blocks newly unsettled and takes away those newly settled": the new count of the lent one
unfoldable pub recount : List Origin → List ℕ → ℕ → ℕ
recount os m kept = kept + newly_unsettled m (remap os m) - newly_settled m (remap os m)

-- "the new count would fall below 0 or above the number of blocks"
unfoldable pub miscounts : ℕ → List Origin → List ℕ → ℕ → Bool
miscounts n os m kept = ltb (kept + newly_unsettled m (remap os m)) (newly_settled m (remap os m)) || ltb n (recount os m kept)

-- the record of a board
abbrev pub record_of : Size → ℕ → Record
record_of z n = record { size = z; unsettled = n }

-- "the number of blocks beside a fresh map, and only with that map is it called a fresh record", of an allowed size
pub record Fresh (z : Size) (m : List ℕ) (r : Record) : Type 0 where
  pub fine : allowed z ≡ true
  pub map : m ≡ fresh (blocks z)
  pub kept : r ≡ record_of z (blocks z)

-- "Making a fresh map and counting take the size too, and refuse with 1 and 2 only. Both return place 0; a refused count is 0"
pub record MapLeft : Type 0 where
  pub answer : Answer
  pub map : List ℕ
  pub kept : Record

abbrev pub map_left : Answer → List ℕ → Record → MapLeft
map_left a m r = record { answer = a; map = m; kept = r }

abbrev pub map_fault : Size → List ℕ → ℕ
map_fault z m = fault z (eqb (length m) (blocks z))

-- a fresh start gives the record too: on 1 and 2 the lent size and count 0
unfoldable pub fresh_map : Size → List ℕ → MapLeft
fresh_map z m = checked (map_fault z m) (λ a. map_left a m (record_of z 0)) (map_left (answer ok 0) (fresh (blocks z)) (record_of z (blocks z)))

unfoldable pub count_map : Size → List ℕ → Count
count_map z m = checked (map_fault z m) (λ a. record { answer = a; unsettled = 0 }) (record { answer = answer ok 0; unsettled = unsettled m })

-- one list of origins after another: what the second holds of the picture that the first made is what the first has there
unfoldable pub through : List Origin → Origin → Origin
through first (given px) = given px
through first (held j) = get_or first j (held 0)

abbrev pub compose : List Origin → List Origin → List Origin
compose first second = map (through first) second

-- nothing happened to n blocks
abbrev pub unchanged : ℕ → List Origin
unchanged n = map held (from 0 n)
