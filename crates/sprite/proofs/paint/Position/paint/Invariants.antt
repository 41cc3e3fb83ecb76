use Prim.Native.Nat.{◌-◌}
use mathlib.Core.List.{List}
use lib.ListN.{length}
use Rattle.sprite.specs.Frames.{Shade}
use Rattle.sprite.proofs.Rowwise.{FramePainted}
use Rattle.sprite.proofs.paint.Position.paint.Given as goal

abbrev pub invariant-loop-done : goal.invariant-loop-done
invariant-loop-done l =
    (made : List (List Shade))
    × FramePainted l.self.size l.f.s.now l.f.height l.f.width l.f.first l.self.left l.self.top l.initial.picture l.done l.at l.picture made

abbrev pub decreases-loop-done : goal.decreases-loop-done
decreases-loop-done l = length l.f.s.now - l.at
