use Rattle.spec.specs.Basics.{if}
use Rattle.spec.proofs.Cases.{cases}
use Rattle.smc_writer.specs.Tables.{table_for}
use Rattle.smc_writer.proofs.table.Table.holding.Goals as goal

pub returns-in-0-to-2 : goal.returns-in-0-to-2
unfolding table_for if
returns-in-0-to-2 c = search cases

pub returns-in-3-to-4 : goal.returns-in-3-to-4
unfolding table_for if
returns-in-3-to-4 c = search cases

pub returns-in-5-to-8 : goal.returns-in-5-to-8
unfolding table_for if
returns-in-5-to-8 c = search cases

pub returns-in_default : goal.returns-in_default
unfolding table_for if
returns-in_default c = search cases
