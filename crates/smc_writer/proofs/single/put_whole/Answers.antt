use mathlib.Core.Path.{◌∙◌}
use native.Mathlib.Omega.{arith}
use Rattle.smc_writer.proofs.Placing.{over_first}
use Rattle.smc_writer.proofs.single.put_whole.Goals as goal

pub returns-clause-out_after : goal.returns-clause-out_after
returns-clause-out_after c = c.put_bytes.ensures.value ∙ over_first 0xE0 c.args.px.now c.args.out.now (omega arith)
