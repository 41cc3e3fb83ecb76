use Rattle.smc.proofs.Runwise.{Putting}
use Rattle.smc.proofs.runs.put_run.Given as goal

abbrev pub invariant-loop-i : goal.invariant-loop-i
invariant-loop-i g l =
    Putting l.grid.columns l.grid.lines l.k (g.R.Run.count l.run) (g.R.Run.shows l.run) l.initial.pic l.initial.map l.i l.pic l.map
