use mathlib.Core.Path.{◌∙◌}
use native.Mathlib.Omega.{arith}
use Rattle.blocks.proofs.Gridwise.{canvas-of}
use Rattle.blocks.proofs.Rowwise.{span, rows-block}
use Rattle.blocks.proofs.Grid.block_at.Goals as goal

pub rows_at-requires-clause-w_in_bounds : goal.rows_at-requires-clause-w_in_bounds
rows_at-requires-clause-w_in_bounds c = let on = canvas-of c.args.self _ c.requires.exact in
    omega (arith, span _ _ _ _ on c.requires.k_bound, c.place_of-p.ensures)

pub returns : goal.returns
returns c = c.rows_at.ensures ∙ rows-block _ _ _ c.place_of-p.ensures _
