use Rattle.std.proofs.Common.{ℕ, List, [], ◌∷◌, get_or, ap, ◌∙◌, arith}
use Rattle.spec.specs.Flags.{flags, chosen}
use Rattle.spec.specs.Pictures.{put_block}
use Rattle.blocks.specs.Blocks.{pixels}
use Rattle.smc.proofs.Flagged.{pair-rows, two}
use Rattle.smc.proofs.flags.PairsPacking.put.Goals as goal

pub returns : goal.returns
unfolding pixels
returns c = let a = c.args in
    let cs = get_or a.entry.now 0 0 ∷ get_or a.entry.now 1 0 ∷ [] in
    c.put_block.ensures
    ∙ rw (c.row-a.ensures, c.row-b.ensures, c.row-c.ensures, c.row-d.ensures)
    (ap (λ (px : List ℕ). put_block a.grid.columns a.k px a.pic.now) (pair-rows cs _ _ (omega arith)))
    ∙ ap (λ (bs : List ℕ). put_block a.grid.columns a.k (chosen (flags 1 bs) cs) a.pic.now) (two a.bytes.now c.requires.bytes_len)
    ∙ ap (λ (es : List ℕ). put_block a.grid.columns a.k (chosen (flags 1 a.bytes.now) es) a.pic.now) (two a.entry.now c.requires.entry_len)
