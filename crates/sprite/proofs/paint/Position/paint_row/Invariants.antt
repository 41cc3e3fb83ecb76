use Prim.Native.Nat.{◌+◌, ◌-◌}
use mathlib.Core.List.{List}
use Rattle.sprite.specs.Frames.{Shade}
use Rattle.sprite.specs.Strips.{origin}
use Rattle.sprite.proofs.Rowwise.{RowPainted}
use Rattle.sprite.proofs.paint.Position.paint_row.Given as goal

abbrev pub invariant-loop-next : goal.invariant-loop-next
invariant-loop-next l =
    (made : List Shade)
    × RowPainted l.self.size l.r.s.now l.r.width l.r.first l.r.end l.self.left (origin + l.y) l.initial.picture l.x l.next l.picture made

abbrev pub decreases-loop-next : goal.decreases-loop-next
decreases-loop-next l = l.r.end - l.next
