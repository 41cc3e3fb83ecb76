use Rattle.std.proofs.Common.{ℕ, List, ap, ◌∙◌, arith}
use Rattle.spec.specs.Flags.{flags, chosen}
use Rattle.spec.specs.Pictures.{put_block}
use Rattle.blocks.specs.Blocks.{pixels}
use Rattle.smc.proofs.Flagged.{quad-rows, four}
use Rattle.smc.proofs.flags.QuadsPacking.put.Goals as goal

pub returns : goal.returns
unfolding pixels
returns c = let a = c.args in
    c.put_block.ensures
    ∙ rw (c.quad_row-a.ensures, c.quad_row-b.ensures, c.quad_row-c.ensures, c.quad_row-d.ensures)
    (ap (λ (px : List ℕ). put_block a.grid.columns a.k px a.pic.now) (quad-rows a.entry.now _ _ _ _ (omega arith) (omega arith) (omega arith)))
    ∙ ap (λ (bs : List ℕ). put_block a.grid.columns a.k (chosen (flags 2 bs) a.entry.now) a.pic.now) (four a.bytes.now c.requires.bytes_len)
