-- The same of what the code has in one: a grid, the flags and the new picture. Assumes nothing.
use Rattle.std.specs.Prelude.{ℕ, ◌*◌, Bool, List}
use Rattle.spec.specs.Pictures.{Origin}
use Rattle.smc_writer.specs.declared.changes.Changes.{Changes}
use Rattle.smc_writer.specs.Kept.{origins}
use Rattle.smc_writer.specs.Runs.{run_at, bytes_at, ends_at, Leads}

abbrev pub blocks_of : Changes → ℕ
blocks_of s = s.grid.columns * s.grid.lines

abbrev pub origins_of : Changes → List Origin
origins_of s = origins s.grid.columns (blocks_of s) s.kept.now s.new.now

abbrev pub run_of : Changes → ℕ → ℕ
run_of s k = run_at s.grid.columns (blocks_of s) s.kept.now s.new.now k

abbrev pub bytes_of : Changes → ℕ → List ℕ
bytes_of s k = bytes_at s.grid.columns (blocks_of s) s.kept.now s.new.now k

abbrev pub ends_of : Changes → ℕ → ℕ → Bool
ends_of s k j = ends_at s.grid.columns (blocks_of s) s.kept.now s.new.now k j

abbrev pub leads_of : Changes → ℕ → List ℕ → Type 0
leads_of s k px = Leads s.grid.columns s.kept.now s.new.now k px
