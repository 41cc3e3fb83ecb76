use Rattle.std.proofs.Common.{ℕ, List, ◌∙◌, ap, arith}
use Rattle.spec.specs.Pictures.{put_block}
use Rattle.blocks.proofs.Rowwise.{rows-part}
use Rattle.smc.proofs.runs.WholeRun.put.Goals as goal

pub returns : goal.returns
returns c = let a = c.args in
    c.put_block.ensures
    ∙ ap (λ (px : List ℕ). put_block a.grid.columns a.k px a.pic.now)
    (c.rows_at-rows.ensures ∙ rows-part _ _ (omega (arith, a.self.now.inside, c.requires.i_bound)))
