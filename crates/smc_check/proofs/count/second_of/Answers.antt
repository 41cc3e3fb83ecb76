use Rattle.spec.specs.Basics.{if}
use Rattle.spec.proofs.Cases.{cases}
use Rattle.smc_check.specs.Tallying.{second_of}
use Rattle.smc_check.proofs.count.second_of.Goals as goal

pub returns-then-m-eq1 : goal.returns-then-m-eq1
unfolding second_of if
returns-then-m-eq1 c = search cases

pub returns-else-m-eq1 : goal.returns-else-m-eq1
unfolding second_of if
returns-else-m-eq1 c = search cases
