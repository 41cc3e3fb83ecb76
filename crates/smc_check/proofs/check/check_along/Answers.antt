use Rattle.smc_check.proofs.Behind.{err-is, concludes-refused}
use Rattle.smc_check.proofs.check.check_along.Goals as goal

pub returns-in_err-check_length : goal.returns-in_err-check_length
returns-in_err-check_length g c =
    rw (err-is c.from_residual.result _ c.from_residual.ensures)
    (concludes-refused _ c.args.blocks c.args.s.now (c.in_err-check_length.ensures.err c.args.blocks))
