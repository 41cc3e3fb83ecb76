-- What the paint pass goes by: the opcode at a place of an accepted chunk, and what it makes of picture, map and tables. Assumes nothing.
use Rattle.std.specs.Prelude.{◌≡◌, ℕ, ◌+◌, ◌*◌, ◌<◌, ◌≤◌, false, List, [], length, slice_index}
use Rattle.spec.specs.Basics.{part}
use Rattle.spec.specs.Pictures.{Origin}
use Rattle.spec.specs.Chunks.{
  Kind,
  kind_of,
  times,
  reach,
  once,
  each,
  missing,
  fills,
  upper_at,
  count_at,
  body_at,
  extend,
  stored,
  State,
  table,
  Outcome,
  refused,
  accepted,
}
use Rattle.blocks.specs.Blocks.{Canvas}
use Rattle.smc.specs.Tables.{Holds}
use Rattle.smc.specs.Shows.{Shows}
use Rattle.smc.specs.declared.tables.Tables.{Tables}

-- an accepted chunk, and its origins
pub record Accepts (x : Outcome) : Type 0 where
  pub os : List Origin
  pub is : x ≡ accepted os

abbrev pub origins_of : Outcome → List Origin
origins_of (refused a) = []
origins_of (accepted os) = os

-- picture and map of c by r blocks
pub record Lent (c r : ℕ) (pic m : List ℕ) : Type 0 where
  pub canvas : Canvas c r pic
  pub entries : length m ≡ c * r

-- the opcode at s[at]: its kind, how many blocks it makes, where its blocks' own bytes stand, and where it ends
abbrev pub kind_at : List ℕ → ℕ → Kind
kind_at s at = kind_of (upper_at s at)

abbrev pub blocks_at : List ℕ → ℕ → ℕ
blocks_at s at = times (kind_at s at) * count_at s at

abbrev pub rest_at : List ℕ → ℕ → ℕ
rest_at s at = body_at s at + once (kind_at s at)

abbrev pub end_at : List ℕ → ℕ → ℕ
end_at s at = rest_at s at + each (kind_at s at) * blocks_at s at

-- k of n blocks are made, and it has its blocks and its bytes
pub record Room (n : ℕ) (s : List ℕ) (at k : ℕ) : Type 0 where
  pub start : at < length s
  pub known : upper_at s at < 15
  pub before : reach (kind_at s at) ≤ k
  pub within : k + blocks_at s at ≤ n
  pub inside : end_at s at ≤ length s

-- the state after it, as `act` makes it
abbrev pub after : List ℕ → ℕ → State → State
after s at st =
    let hs = part s (body_at s at) (once (kind_at s at)) in
    record {
      at = end_at s at;
      made = extend (kind_at s at) hs s (rest_at s at) (blocks_at s at) st;
      tables = stored (kind_at s at) hs st.tables;
    }

-- what an opcode without a table does, whatever has been made before it
pub record Ran (c r : ℕ) (s : List ℕ) (at k : ℕ) (pic m pic' m' : List ℕ) (at' k' : ℕ) : Type 0 where
  pub goes : at' ≡ end_at s at
  pub makes : k' ≡ k + blocks_at s at
  pub shows :
      (st : State) (pic₀ map₀ : List ℕ) → k ≡ length st.made → Shows c r pic₀ map₀ st.made pic m
      → Shows c r pic₀ map₀ (after s at st).made pic' m'

-- what an opcode with the table of b bits does: l and next hold the table before it, l' and next' after it
pub record Tabled (b c r : ℕ) (s : List ℕ) (at k : ℕ) (pic m l : List ℕ) (next : ℕ) (pic' m' l' : List ℕ) (at' k' next' : ℕ) : Type 0 where
  pub goes : at' ≡ end_at s at
  pub makes : k' ≡ k + blocks_at s at
  pub shows :
      (st : State) (pic₀ map₀ : List ℕ) → k ≡ length st.made → Holds b l next (table st b)
      → missing (fills st.tables) (kind_at s at) (slice_index s (body_at s at)) ≡ false → Shows c r pic₀ map₀ st.made pic m
      → Shows c r pic₀ map₀ (after s at st).made pic' m'
  pub holds : (st : State) → length st.tables ≡ 4 → Holds b l next (table st b) → Holds b l' next' (table (after s at st) b)

-- the state that the loop's locals hold
pub record Inside (c r : ℕ) (pic₀ map₀ : List ℕ) (at k : ℕ) (t : Tables) (pic m : List ℕ) (st : State) : Type 0 where
  pub ats : at ≡ st.at
  pub ks : k ≡ length st.made
  pub four : length st.tables ≡ 4
  pub pairs : Holds 1 t.pairs.colours t.pairs.next (table st 1)
  pub quads : Holds 2 t.quads.colours t.quads.next (table st 2)
  pub octets : Holds 3 t.octets.colours t.octets.next (table st 3)
  pub shows : Shows c r pic₀ map₀ st.made pic m

-- what the opcode at s[at] does, whichever it is
pub record Turned (c r : ℕ) (s : List ℕ) (at k : ℕ) (t : Tables) (pic m : List ℕ) (at' k' : ℕ) (t' : Tables) (pic' m' : List ℕ) : Type 0 where
  pub inside :
      (st : State) (pic₀ map₀ : List ℕ) → Inside c r pic₀ map₀ at k t pic m st
      → missing (fills st.tables) (kind_at s at) (slice_index s (body_at s at)) ≡ false
      → Inside c r pic₀ map₀ at' k' t' pic' m' (after s at st)
