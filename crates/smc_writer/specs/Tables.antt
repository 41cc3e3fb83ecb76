-- The kinds of table: how many bits name a pixel's colour, and which one a block takes. Assumes nothing.
use Rattle.std.specs.Prelude.{ℕ, leb, Option, Some, None}
use Rattle.spec.specs.Basics.{if}
use Rattle.smc_writer.specs.declared.table.Table.{Table}
use Rattle.smc_writer.specs.declared.table.Table.TheVariants as Of

abbrev pub bits : Table → ℕ
bits Of.Pairs = 1
bits Of.Quads = 2
bits Of.Octets = 3

-- by how many colours the block has; none holds more than eight
unfoldable pub table_for : ℕ → Option Table
table_for n = if (leb n 2) (Some Of.Pairs) (if (leb n 4) (Some Of.Quads) (if (leb n 8) (Some Of.Octets) None))
