use mathlib.Core.Path.{◌≡◌}
use lib.ListN.{take}
use Rattle.spec.specs.Maps.{unsettled}
use Rattle.board_map.proofs.unsettled_entries.Given as goal

abbrev pub invariant-loop-entry : goal.invariant-loop-entry
invariant-loop-entry l = l.n ≡ unsettled (take l.entry-index l.map)
