-- Entries by counting those below, and four rows' numbers packed into bytes. Assumes nothing.
use Rattle.std.specs.Prelude.{ℕ, ◌+◌, ◌*◌, ◌/◌, ◌%◌, List, [], ◌∷◌, nat_lt, count_by}
use Rattle.smc_writer.specs.declared.table.Table.{Table}
use Rattle.smc_writer.specs.declared.table.Table.TheVariants as Of

-- how many entries are below a colour
abbrev pub under : List ℕ → ℕ → ℕ
under cs p = count_by (λ (c : ℕ). nat_lt c p) cs

-- rows of 4, 8 or 12 bits: two rows a byte; one; or an octet's, the last row's half-bytes behind those of the others
abbrev pub packed : Table → ℕ → ℕ → ℕ → ℕ → List ℕ
packed Of.Pairs a b c d = (a * 16 + b) ∷ (c * 16 + d) ∷ []
packed Of.Quads a b c d = a ∷ b ∷ c ∷ d ∷ []
packed Of.Octets a b c d = a / 16 ∷ (a % 16 * 16 + d / 256) ∷ b / 16 ∷ (b % 16 * 16 + d / 16 % 16) ∷ c / 16 ∷ (c % 16 * 16 + d % 16) ∷ []
