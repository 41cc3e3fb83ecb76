-- Lent a record that is true to its map: reading is what `decode` says, as if there were no record; no 21; and the record stays true. Assumes nothing.
use Rattle.std.specs.Prelude.{◌≡◌, ◌≢◌, List, true, ℕ}
use Rattle.spec.specs.declared.Answer.{Answer}
use Rattle.spec.specs.declared.Size.{Size}
use Rattle.spec.specs.Basics.{Every}
use Rattle.spec.specs.Answers.{bad_count}
use Rattle.spec.specs.Sizes.{allowed, blocks}
use Rattle.spec.specs.Chunks.{decode, verdict}
use Rattle.spec.specs.Boards.{Board, Left, left, Faithful, effect, read, in_turn}
use Rattle.spec.specs.Feeds.{Reply}
use Rattle.spec.specs.Calls.{Call, call}

-- reading where size and lengths are right, by `decode` alone: no map and no record decides
abbrev pub read_plain : Size → List ℕ → Board → Left Answer
read_plain z s b = let o = decode (blocks z) s in left (verdict s o) (effect z o b)

-- no answer of a call is 21: not its own, and none inside it
abbrev pub NoMiscount : Reply → Type 0
NoMiscount r = (r.answer.number ≢ bad_count) × Every (λ a. a.number ≢ bad_count) r.inside

pub record Truly (z : Size) (b : Board) : Type 0 where
  -- "demand 2 is for true records": reading answers what `decode` says, and paints what it says, as if there were no record
  pub reads : (s : List ℕ) → read z s b ≡ read_plain z s b
  -- and so do the chunks of walks and runs, each over what the one before it left
  pub inside : (ss : List (List ℕ)) → in_turn (read z) ss b ≡ in_turn (read_plain z) ss b
  -- readings, walks and runs never meet 21
  pub counts : (a : Call) → NoMiscount (call z a b).said
  -- and leave a true record
  pub stays : (a : Call) → Faithful z (call z a b).board

abbrev pub TrueStays : Type 0
TrueStays = (z : Size) → allowed z ≡ true → (b : Board) → Faithful z b → Truly z b
