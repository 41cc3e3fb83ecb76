use native.Mathlib.Omega.{arith}
use Rattle.smc_writer.proofs.Placing.{over_part}
use Rattle.smc_writer.proofs.single.put_bytes.Goals as goal

pub returns-clause-value : goal.returns-clause-value
returns-clause-value c = over_part c.args.at _ c.args.bytes.now c.args.out.now c.requires (omega arith) c.copy_from_slice.ensures.after
