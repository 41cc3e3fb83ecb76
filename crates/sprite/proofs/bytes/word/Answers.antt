use native.Mathlib.Omega.{arith}
use Rattle.spec.specs.Basics.{if}
use Rattle.sprite.specs.Files.{joined}
use Rattle.sprite.proofs.bytes.word.Goals as goal

pub returns-then-high_first : goal.returns-then-high_first
unfolding joined if
returns-then-high_first c =
    rw (← c.high_first.ensures, c.if-high_first.true) (omega arith)

pub returns : goal.returns
unfolding joined if
returns c =
    rw (← c.high_first.ensures, c.if-high_first.false) (omega arith)
