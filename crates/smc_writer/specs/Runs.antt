-- The run that begins at a block: its length and its bytes. Assumes nothing.
use Rattle.std.specs.Prelude.{ℕ, suc, ◌-◌, ◌≡◌, Bool, true, false, not, List, ltb, get_or, drop}
use Rattle.spec.specs.Basics.{if}
use Rattle.spec.specs.Pictures.{block_at}
use Rattle.spec.specs.Writing.{plain, joins, alike, max_run, opcode_for}
use Rattle.smc_writer.specs.Kept.{origin_at, origins}

unfoldable pub run_at : ℕ → ℕ → List Bool → List ℕ → ℕ → ℕ
run_at c n kept new k = suc (alike (origin_at c kept new k) (max_run - 1) (drop (suc k) (origins c n kept new)))

unfoldable pub bytes_at : ℕ → ℕ → List Bool → List ℕ → ℕ → List ℕ
bytes_at c n kept new k = opcode_for (origin_at c kept new k) (run_at c n kept new k)

-- whether block j, if there is one, does not go on with the run that block k began
unfoldable pub ends_at : ℕ → ℕ → List Bool → List ℕ → ℕ → ℕ → Bool
ends_at c n kept new k j = if (ltb j n) (not (joins (origin_at c kept new k) (origin_at c kept new j))) true

-- these pixels lead a run at block k: where it is changed, it shows them, and they are of one colour
pub record Leads (c : ℕ) (kept : List Bool) (new : List ℕ) (k : ℕ) (px : List ℕ) : Type 0 where
  pub shows : get_or kept k false ≡ false → px ≡ block_at c new k
  pub one : get_or kept k false ≡ false → plain px ≡ true
