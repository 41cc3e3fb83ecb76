use Rattle.spec.specs.Sizes.{side}
use Rattle.spec.proofs.Cases.{cases}
use Rattle.sizes.proofs.is_side.Goals as goal

pub returns-then-length-ne0 : goal.returns-then-length-ne0
unfolding side
returns-then-length-ne0 c = search cases

pub returns-then-length-lt4 : goal.returns-then-length-lt4
unfolding side
returns-then-length-lt4 c = search cases

pub returns : goal.returns
unfolding side
returns c = search cases
