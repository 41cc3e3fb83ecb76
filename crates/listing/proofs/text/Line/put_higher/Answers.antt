use native.Mathlib.Omega.{arith}
use Rattle.listing.proofs.Texts.{spelling-none, spelling-more, spelling-end}
use Rattle.listing.proofs.text.Line.put_higher.Goals as goal

pub loop-left-init : goal.loop-left-init
loop-left-init c = spelling-none _ _ _ c.requires.n_bound

pub loop-left-preserved : goal.loop-left-preserved
loop-left-preserved c =
    spelling-more c.loop-left.invariant (omega arith) c.requires.room c.put_byte.ensures.start_after c.put_byte.ensures.text_after

pub returns-clause-text_after : goal.returns-clause-text_after
returns-clause-text_after c = spelling-end c.loop-left.invariant (omega arith)
