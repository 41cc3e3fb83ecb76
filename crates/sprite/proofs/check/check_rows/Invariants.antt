use Prim.Native.Nat.{◌-◌}
use mathlib.Core.List.{List}
use lib.ListN.{length}
use Rattle.sprite.specs.Frames.{Shade}
use Rattle.sprite.proofs.Progress.{InFrame}
use Rattle.sprite.proofs.check.check_rows.Given as goal

abbrev pub invariant-loop-y : goal.invariant-loop-y
invariant-loop-y l = (made : List (List Shade)) × InFrame l.f.s.now l.f.height l.f.width l.f.first l.y l.at made

abbrev pub decreases-loop-y : goal.decreases-loop-y
decreases-loop-y l = length l.f.s.now - l.at
