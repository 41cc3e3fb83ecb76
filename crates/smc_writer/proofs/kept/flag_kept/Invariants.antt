use Rattle.smc_writer.specs.Kept.{Flagged}
use Rattle.smc_writer.proofs.kept.flag_kept.Given as goal

abbrev pub invariant-loop-k : goal.invariant-loop-k
invariant-loop-k l = Flagged l.grid.columns l.k l.old l.new l.flag-items
