use Prim.Native.Nat.{◌-◌}
use mathlib.Core.List.{List}
use Rattle.sprite.specs.Frames.{Shade}
use Rattle.sprite.proofs.Progress.{InRow}
use Rattle.sprite.proofs.check.check_row.Given as goal

abbrev pub invariant-loop-next : goal.invariant-loop-next
invariant-loop-next l = (made : List Shade) × InRow l.r.s.now l.r.width l.r.first l.r.end l.x l.next made

abbrev pub decreases-loop-next : goal.decreases-loop-next
decreases-loop-next l = l.r.end - l.next
