use Prim.Native.Nat.{◌-◌}
use mathlib.Core.Path.{◌≡◌}
use lib.ListN.{length}
use Rattle.spec.specs.Boards.{board}
use Rattle.feed.proofs.Walking.{Walking}
use Rattle.feed.proofs.walk.read_chunks.Given as goal

abbrev pub invariant-loop-at : goal.invariant-loop-at
invariant-loop-at l = (length l.picture ≡ length l.initial.picture)
    × (length l.map ≡ length l.initial.map)
    × Walking l.initial.kept.size l.feed l.first (board l.initial.picture l.initial.map l.initial.kept.unsettled) l.at l.accepted l.picture l.map l.kept

abbrev pub decreases-loop-at : goal.decreases-loop-at
decreases-loop-at l = length l.feed - l.at
