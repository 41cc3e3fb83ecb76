use Rattle.smc_check.proofs.Tallies.{bit-open}
use Rattle.smc_check.proofs.count.Block.is_unsettled.Goals as goal

pub returns-in-Skipped : goal.returns-in-Skipped
returns-in-Skipped c = rw c.in-Skipped.is (bit-open _)
