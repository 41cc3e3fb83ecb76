use mathlib.Core.Path.{◌∙◌}
use borrow.Author.Rules.{rules}
use native.Mathlib.Omega.{arith}
use Rattle.smc_writer.proofs.Flagging.{flagged-more}
use Rattle.smc_writer.proofs.Sameness.{same_rows}
use Rattle.smc_writer.proofs.kept.flag_kept.Goals as goal

pub loop-k-preserved : goal.loop-k-preserved
loop-k-preserved c = let x = c.block_at.result in
    let y = c.block_at-in-loop-k.result in
    flagged-more _ _ _ _ _ (omega arith) c.loop-k.invariant
    (c.eq.ensures ∙ same_rows x y (search rules) (search rules) ∙ rw (c.block_at.ensures, c.block_at-in-loop-k.ensures))
