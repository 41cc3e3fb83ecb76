use lib.ListN.{take}
use mathlib.Core.Path.{◌≡◌}
use Rattle.spec.specs.Maps.{unsettled}
use Rattle.smc_check.proofs.count.unsettled_in.Given as goal

abbrev pub invariant-loop-x : goal.invariant-loop-x
invariant-loop-x l = l.n ≡ unsettled (take l.x-index l.entries)
