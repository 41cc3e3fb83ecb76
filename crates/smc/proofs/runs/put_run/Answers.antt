use Rattle.std.proofs.Common.{refl, arith}
use Rattle.blocks.proofs.Gridwise.{canvas-of}
use Rattle.smc.proofs.Runwise.{running_none, running_more, running-all}
use Rattle.smc.proofs.runs.put_run.Goals as goal

pub loop-i-init : goal.loop-i-init
loop-i-init g c = running_none _ _ _ _ _ _ _ _ (canvas-of c.args.grid _ c.requires.exact) c.requires.map_len

pub loop-i-preserved : goal.loop-i-preserved
loop-i-preserved g c = running_more _ _ _ _ _ _ _ _ _ _ _ c.loop-i.invariant (omega arith) _ refl _ _ c.put.ensures refl

pub returns-clause-pic_after : goal.returns-clause-pic_after
returns-clause-pic_after g c =
    (running-all _ _ _ _ _ _ _ _ _ _ _ c.loop-i.invariant (omega (arith, c.loop-i.invariant.most, c.count-i-end.ensures))).0

pub returns-clause-map_after : goal.returns-clause-map_after
returns-clause-map_after g c =
    (running-all _ _ _ _ _ _ _ _ _ _ _ c.loop-i.invariant (omega (arith, c.loop-i.invariant.most, c.count-i-end.ensures))).1
