-- A picture of a grid's size is a canvas. Assumes nothing.
use Prim.Native.Nat.{ℕ}
use mathlib.Core.Path.{◌≡◌}
use mathlib.Core.List.{List}
use lib.ListN.{length}
use Rattle.blocks.specs.declared.Grid.{Grid}
use Rattle.blocks.specs.Blocks.{Canvas, area}

pub canvas-of : (g : Grid) (pic : List ℕ) → length pic ≡ area g.columns g.lines → Canvas g.columns g.lines pic
canvas-of g pic e = record { wide = g.wide; narrow = g.narrow; low = g.low; exact = e }
