use Rattle.std.proofs.Common.{refl, arith}
use Rattle.blocks.proofs.Gridwise.{canvas-of}
use Rattle.smc.proofs.Runwise.{running_none, running_more}
use Rattle.smc.proofs.runs.copy_run.Goals as goal

pub loop-i-init : goal.loop-i-init
loop-i-init c = running_none _ _ _ _ _ _ _ _ (canvas-of c.args.grid _ c.requires.exact) c.requires.map_len

pub loop-i-preserved : goal.loop-i-preserved
loop-i-preserved c = running_more _ _ _ _ _ _ _ _ _ _ _ c.loop-i.invariant (omega arith) _ refl _ _ c.copy_block.ensures.pic_after
    c.copy_block.ensures.map_after
