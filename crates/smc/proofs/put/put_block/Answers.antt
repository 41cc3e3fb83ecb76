use Rattle.std.proofs.Common.{arith}
use Rattle.blocks.specs.Blocks.{pixels}
use Rattle.blocks.proofs.Gridwise.{canvas-of}
use Rattle.blocks.proofs.Rowwise.{span}
use Rattle.smc.proofs.RowsPut.{four-row_of, put-rows}
use Rattle.smc.proofs.put.put_block.Goals as goal

pub put_row-requires : goal.put_row-requires
put_row-requires c = omega (arith, span _ _ _ _ (canvas-of c.args.grid _ c.requires.exact) c.requires.k_bound)

pub overflow_add-p : goal.overflow_add-p
overflow_add-p c = omega (arith, span _ _ _ _ (canvas-of c.args.grid _ c.requires.exact) c.requires.k_bound)

pub put_row-requires-2 : goal.put_row-requires-2
put_row-requires-2 c = omega (arith, span _ _ _ _ (canvas-of c.args.grid _ c.requires.exact) c.requires.k_bound)

pub overflow_add-p-2 : goal.overflow_add-p-2
overflow_add-p-2 c = omega (arith, span _ _ _ _ (canvas-of c.args.grid _ c.requires.exact) c.requires.k_bound)

pub put_row-requires-3 : goal.put_row-requires-3
put_row-requires-3 c = omega (arith, span _ _ _ _ (canvas-of c.args.grid _ c.requires.exact) c.requires.k_bound)

pub overflow_add-p-3 : goal.overflow_add-p-3
overflow_add-p-3 c = omega (arith, span _ _ _ _ (canvas-of c.args.grid _ c.requires.exact) c.requires.k_bound)

pub put_row-requires-4 : goal.put_row-requires-4
put_row-requires-4 c = omega (arith, span _ _ _ _ (canvas-of c.args.grid _ c.requires.exact) c.requires.k_bound)

-- by `let`s: a tactic looks into a helper
pub returns : goal.returns
unfolding pixels
returns c = rw (
  c.put_row-4.ensures,
  c.put_row-3.ensures,
  c.put_row-2.ensures,
  c.put_row.ensures,
)
    (put-rows _ _ _ c.place_of-p.ensures _ (four-row_of _) (four-row_of _) (four-row_of _)
    (four-row_of _))
