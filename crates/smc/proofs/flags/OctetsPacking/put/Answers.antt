use Rattle.std.proofs.Common.{ℕ, List, ap, ◌∙◌, arith}
use Rattle.spec.specs.Basics.{if}
use Rattle.spec.specs.Pictures.{put_block}
use Rattle.spec.specs.Flags.{flags, chosen}
use Rattle.spec.proofs.Octets.{octet-step}
use Rattle.blocks.proofs.Gridwise.{canvas-of}
use Rattle.blocks.proofs.Rowwise.{span}
use Rattle.smc.proofs.Flagged.{six}
use Rattle.smc.proofs.RowsPut.{four, put-rows}
use Rattle.smc.proofs.flags.OctetsPacking.put.Goals as goal

pub put_octet_row-requires-clause-p_in_bounds : goal.put_octet_row-requires-clause-p_in_bounds
put_octet_row-requires-clause-p_in_bounds c = omega (arith, span _ _ _ _ (canvas-of c.args.grid _ c.requires.exact) c.requires.k_bound)

pub overflow_add-p : goal.overflow_add-p
overflow_add-p c = omega (arith, span _ _ _ _ (canvas-of c.args.grid _ c.requires.exact) c.requires.k_bound)

pub put_octet_row-requires-2-clause-p_in_bounds : goal.put_octet_row-requires-2-clause-p_in_bounds
put_octet_row-requires-2-clause-p_in_bounds c = omega (arith, span _ _ _ _ (canvas-of c.args.grid _ c.requires.exact) c.requires.k_bound)

pub overflow_add-p-2 : goal.overflow_add-p-2
overflow_add-p-2 c = omega (arith, span _ _ _ _ (canvas-of c.args.grid _ c.requires.exact) c.requires.k_bound)

pub put_octet_row-requires-3-clause-p_in_bounds : goal.put_octet_row-requires-3-clause-p_in_bounds
put_octet_row-requires-3-clause-p_in_bounds c = omega (arith, span _ _ _ _ (canvas-of c.args.grid _ c.requires.exact) c.requires.k_bound)

pub overflow_add-p-3 : goal.overflow_add-p-3
overflow_add-p-3 c = omega (arith, span _ _ _ _ (canvas-of c.args.grid _ c.requires.exact) c.requires.k_bound)

pub put_octet_row-requires-4-clause-p_in_bounds : goal.put_octet_row-requires-4-clause-p_in_bounds
put_octet_row-requires-4-clause-p_in_bounds c = omega (arith, span _ _ _ _ (canvas-of c.args.grid _ c.requires.exact) c.requires.k_bound)

-- what the four rows have stored names what the theorem of the octet step says. By `let`s: a tactic looks into a helper
pub returns : goal.returns
unfolding flags if
returns c = let a = c.args in
    rw (
      c.put_octet_row-4.ensures,
      c.put_octet_row-3.ensures,
      c.put_octet_row-2.ensures,
      c.put_octet_row.ensures,
    )
    (put-rows _ _ _ c.place_of-p.ensures _ four four four four
    ∙ ap (λ (is : List ℕ). put_block a.grid.columns a.k (chosen is a.entry.now) a.pic.now)
    (octet-step _ _ _ _ _ _ (omega arith) (omega arith) (omega arith) (omega arith) (omega arith) (omega arith))
    ∙ ap (λ (bs : List ℕ). put_block a.grid.columns a.k (chosen (flags 3 bs) a.entry.now) a.pic.now) (six a.bytes.now c.requires.bytes_len))
