use Prim.Native.Nat.{◌-◌}
use Rattle.smc_writer.specs.Changes.{blocks_of}
use Rattle.smc_writer.proofs.Progress.{Laid}
use Rattle.smc_writer.proofs.changes.Changes.put_runs.Given as goal

abbrev pub invariant-loop-k : goal.invariant-loop-k
invariant-loop-k l = Laid l.behind l.self.grid.columns (blocks_of l.self) l.self.kept.now l.self.new.now l.initial.out l.out l.at l.k

abbrev pub decreases-loop-k : goal.decreases-loop-k
decreases-loop-k l = blocks_of l.self - l.k
