use Rattle.smc_writer.specs.Changes.{blocks_of}
use Rattle.smc_writer.proofs.Running.{Counting}
use Rattle.smc_writer.proofs.changes.Changes.run_at.Given as goal

abbrev pub invariant-loop-m : goal.invariant-loop-m
invariant-loop-m l = Counting l.self.grid.columns (blocks_of l.self) l.self.kept.now l.self.new.now l.k l.m
