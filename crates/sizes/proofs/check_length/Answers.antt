use Rattle.spec.specs.Basics.{if}
use Rattle.spec.proofs.Cases.{cases}
use Rattle.sizes.proofs.check_length.Goals as goal

pub returns-then-length-exact : goal.returns-then-length-exact
unfolding if
returns-then-length-exact c = search cases

pub returns : goal.returns
unfolding if
returns c = search cases
