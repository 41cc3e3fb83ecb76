-- Pairs, four pixels at once: a colour times a factor has it at each bit of a half-byte that is set. Assumes nothing.
use Rattle.std.specs.Prelude.{◌≡◌, ℕ, ◌+◌, ◌*◌, ◌/◌, ◌%◌, ◌<◌, List, slice_index}

-- the highest bit is the first pixel, which stands lowest in a row
unfoldable pub factor_of : ℕ → ℕ
factor_of f = f / 8 % 2 + f / 4 % 2 * 256 + f / 2 % 2 * 65536 + f % 2 * 16777216

abbrev pub Factors : List ℕ → Type 0
Factors l = (f : ℕ) → f < 16 → slice_index l f ≡ factor_of f
