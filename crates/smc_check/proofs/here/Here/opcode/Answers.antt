use Rattle.smc_check.proofs.Ways.{found-bad}
use Rattle.smc_check.proofs.here.Here.opcode.Goals as goal

pub returns-then-self-span : goal.returns-then-self-span
returns-then-self-span c = found-bad _ _ _ _ _ _ c.cut.ensures
