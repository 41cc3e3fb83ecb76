-- Ask 3, "otherwise the first block still waiting at that place": with 5 to 10 the answer's block is that one, and no other. Assumes nothing.
use Rattle.std.specs.Prelude.{ℕ, zero, suc, ◌+◌, ◌-◌, ◌≤◌, ◌≡◌, ◌↔◌, List, [], ◌∷◌, ◌++◌, length, get_or}
use Rattle.spec.specs.declared.Answer.{Answer}
use Rattle.spec.specs.Basics.{part}
use Rattle.spec.specs.Answers.{blocks_remain, entry_empty}
use Rattle.spec.specs.Sizes.{max_blocks}
use Rattle.spec.specs.Pictures.{Origin}
use Rattle.spec.specs.Flags.{digits}
use Rattle.spec.specs.Chunks.{Outcome, refused, accepted, decode}

-- so many blocks, one by one: `E0` and sixteen colours each
unfoldable pub wholes : List ℕ → ℕ → List ℕ
wholes px zero = []
wholes px (suc m) = 0xE0 ∷ px ++ wholes px m

-- a chunk for n blocks, cut at a place, with all blocks from j on put there, and its new length stated. Not by skips: `00` is also padding
abbrev pub completed : ℕ → List ℕ → ℕ → List ℕ → ℕ → List ℕ
completed n s place px j =
    let body = part s 4 (place - 4) ++ wholes px (n - j) in
    get_or s 0 0 ∷ digits 8 3 (4 + length body) ++ body

pub data IsAccepted : Outcome → Type 0 where
  accepts : {os : List Origin} → IsAccepted (accepted os)

-- what waits at the answer's place is its block and those after it: a chunk that goes on there with the blocks from j on is accepted exactly
-- when j is that block
abbrev pub FirstWaiting : Type 0
FirstWaiting =
    (n : ℕ) → n ≤ max_blocks
    → (s : List ℕ) (a : Answer) → decode n s ≡ refused a → blocks_remain ≤ a.number → a.number ≤ entry_empty
    → (px : List ℕ) → length px ≡ 16
    → (j : ℕ) → IsAccepted (decode n (completed n s a.place px j)) ↔ (j ≡ a.block)
