-- What the check of one opcode goes by. Assumes nothing.
use Rattle.std.specs.Prelude.{ℕ, ◌+◌, ◌*◌, ◌<◌, ◌≤◌, ◌≡◌, List, [], ◌∷◌, Bool, true, eqb, ltb, length, get_or, set, Result, Ok, Err}
use Rattle.spec.specs.declared.Refusal.{Refusal}
use Rattle.spec.specs.Answers.{refusal_number}
use Rattle.spec.specs.Basics.{if}
use Rattle.spec.specs.Chunks as Chunks
use Rattle.spec.specs.Chunks.{kind_of, once, each, capacity, body_at, opcode}
use Rattle.smc_check.specs.declared.here.Here.{Here}
use Rattle.smc_check.specs.declared.here.Run.{Run}
use Rattle.smc_check.specs.Tables.{span_of}

-- all bytes of the opcode at s[at], or not all of them
pub record Stands (s : List ℕ) (at span : ℕ) : Type 0 where
  pub start : at < length s
  pub is : span ≡ span_of (get_or s at 0)
  pub room : at + span ≤ length s

pub record Ends (s : List ℕ) (at : ℕ) : Type 0 where
  pub start : at < length s
  pub short : length s < at + span_of (get_or s at 0)

-- how many entries are filled, of so many stored
unfoldable pub capped : ℕ → ℕ
capped x = if (ltb x capacity) x capacity

-- as the definitions list them, by bits a pixel, of how often each opcode has come: 8, 10 and 12 store in them
abbrev pub fills_of : List ℕ → List ℕ
fills_of f = 0 ∷ capped (get_or f 8 0) ∷ capped (get_or f 10 0) ∷ capped (get_or f 12 0) ∷ []

-- after an opcode u
abbrev pub grown : List ℕ → ℕ → List ℕ
grown f u = set f u (get_or f u 0 + 1)

-- the opcodes that name an entry
unfoldable pub naming : ℕ → Bool
naming u = if (eqb u 9) true (if (eqb u 11) true (eqb u 13))

-- the head that the definitions find where the check stands
abbrev pub head_of : Here → Chunks.Head
head_of h = opcode h.blocks h.s.now h.at h.k (fills_of h.f.now)

abbrev pub Refuses : Here → Refusal → Type 0
Refuses h why = head_of h ≡ Chunks.Head.bad (refusal_number why)

-- what the code finds there, set out as the definition's head, with the place after the opcode
pub data Found (s : List ℕ) (at k : ℕ) : Result Run Refusal → Chunks.Head → Type 0 where
  bad : {why : Refusal} → Found s at k (Err why) (Chunks.Head.bad (refusal_number why))
  runs : {r : Run} → r.first ≡ k → r.next ≡ body_at s at + once (kind_of r.upper) + each (kind_of r.upper) * r.blocks
      → Found s at k (Ok r) (Chunks.Head.runs (kind_of r.upper) r.blocks (body_at s at))

abbrev pub Tells : Here → Result Run Refusal → Type 0
Tells h r = Found h.s.now h.at h.k r (head_of h)
