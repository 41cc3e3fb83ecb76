use Rattle.smc.proofs.Runwise.{Copying}
use Rattle.smc.proofs.runs.copy_run.Given as goal

abbrev pub invariant-loop-i : goal.invariant-loop-i
invariant-loop-i l = Copying l.grid.columns l.grid.lines l.d l.k l.n l.initial.pic l.initial.map l.i l.pic l.map
