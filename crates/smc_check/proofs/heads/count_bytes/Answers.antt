use native.Mathlib.Omega.{arith}
use Rattle.smc_check.proofs.Leads.{one-if-odd, none-if-high}
use Rattle.smc_check.proofs.heads.count_bytes.Goals as goal

pub returns-then-upper-lt8 : goal.returns-then-upper-lt8
returns-then-upper-lt8 c = one-if-odd c.args.upper (omega arith)

pub returns-else-upper-lt8 : goal.returns-else-upper-lt8
returns-else-upper-lt8 c = none-if-high c.args.upper (omega arith)
