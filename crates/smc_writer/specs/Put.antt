-- Bytes written into what was there, and what is said of them. Assumes nothing.
use Rattle.std.specs.Prelude.{ℕ, Bool, if◌then◌else◌, List, ◌++◌, length, take, Result, Ok, Err}
use Rattle.spec.specs.declared.Answer.{Answer}
use Rattle.spec.specs.declared.Refusal.{Refusal}
use Rattle.spec.specs.Answers.{ok, answer_at, answer, refusal_number}
use Rattle.spec.specs.Writing.{onto}
use Rattle.smc_writer.specs.declared.put.Counted.{Counted}
use Rattle.smc_writer.specs.declared.put.Counted.TheVariants as Of

-- from a place on
unfoldable pub over : ℕ → List ℕ → List ℕ → List ℕ
over at bs out = onto (take at out ++ bs) out

-- the opcode of a run with a count
abbrev pub opcode_of : Counted → ℕ
opcode_of Of.Kept = 0
opcode_of Of.Filled = 6

-- the room for runs one behind the other, or for any one of them at a time
abbrev pub needed : Bool → List ℕ → ℕ
needed behind bs = if behind then length bs else 17

-- what is answered for n blocks, by the chunk's length or why there is none
abbrev pub emitted : ℕ → Result ℕ Refusal → Answer
emitted n (Ok length) = answer_at ok length n
emitted n (Err why) = answer (refusal_number why) 0
