-- What an opcode's first byte says by itself. Assumes nothing.
use Rattle.std.specs.Prelude.{ℕ, ◌+◌, ◌*◌, ◌/◌, ◌%◌, ◌<◌, ◌≡◌, List, Bool, false, ltb, not, get_or}
use Rattle.spec.specs.Basics.{if}
use Rattle.spec.specs.Chunks.{kind_of, counted, times, reach, once, each}
use Rattle.smc_check.specs.declared.tables.Row.{Row}

-- how many bytes an opcode takes, by its first byte: where a byte of its own counts, no bytes come for each block
unfoldable pub span_of : ℕ → ℕ
span_of b =
    let u = kind_of (b / 16) in
    if (counted (b / 16)) 2 1 + once u + each u * (times u * (1 + b % 16))

-- skips alone do not touch the blocks that they make
abbrev pub touches : ℕ → Bool
touches u = not (ltb u 2)

-- what an upper half-byte asks for
pub record Asks (u : ℕ) (r : Row) : Type 0 where
  pub times : r.times ≡ times (kind_of u)
  pub reach : r.reach ≡ reach (kind_of u)
  pub once : r.once ≡ once (kind_of u)
  pub touches : r.touches ≡ touches u

-- tables of them, and of opcodes' lengths
abbrev pub no_row : Row
no_row = record { times = 0; reach = 0; once = 0; touches = false }

abbrev pub Rows : List Row → Type 0
Rows l = (u : ℕ) → u < 16 → Asks u (get_or l u no_row)

abbrev pub Spans : List ℕ → Type 0
Spans l = (b : ℕ) → b < 256 → get_or l b 0 ≡ span_of b
