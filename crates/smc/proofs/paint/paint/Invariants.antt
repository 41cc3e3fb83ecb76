use Rattle.std.proofs.Common.{◌-◌, length}
use Rattle.smc.proofs.Going.{Going}
use Rattle.smc.proofs.paint.paint.Given as goal

abbrev pub invariant-loop-from : goal.invariant-loop-from
invariant-loop-from l = Going l.grid.columns l.grid.lines l.s l.initial.pic l.initial.map l.from.at l.from.k l.tables l.pic l.map

abbrev pub decreases-loop-from : goal.decreases-loop-from
decreases-loop-from l = length l.s - l.from.at
