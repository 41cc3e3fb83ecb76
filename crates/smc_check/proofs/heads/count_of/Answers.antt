use Rattle.spec.specs.Basics.{if}
use Rattle.spec.proofs.Cases.{cases}
use Rattle.smc_check.proofs.heads.count_of.Goals as goal

pub returns-then-bytes-eq0 : goal.returns-then-bytes-eq0
unfolding if
returns-then-bytes-eq0 c = search cases

pub returns-else-bytes-eq0 : goal.returns-else-bytes-eq0
unfolding if
returns-else-bytes-eq0 c = search cases
