use mathlib.Core.Path.{◌≡◌, sym, ◌∙◌}
use native.Mathlib.Omega.{arith}
use Rattle.smc_writer.proofs.Running.{counting-starts, counting-stops, counting-on, counting-full}
use Rattle.smc_writer.proofs.changes.Changes.run_at.Goals as goal

pub loop-m-init : goal.loop-m-init
loop-m-init c = counting-starts _ _ _ _ _ c.requires.k_bound

pub returns-then-ends_at : goal.returns-then-ends_at
returns-then-ends_at c = counting-stops _ _ _ _ _ _ c.loop-m.invariant (sym c.ends_at.ensures ∙ c.if-ends_at.true)

pub loop-m-preserved : goal.loop-m-preserved
loop-m-preserved c = counting-on _ _ _ _ _ _ c.loop-m.invariant (omega arith) (sym c.ends_at.ensures ∙ c.if-ends_at.false)

pub returns : goal.returns
returns c = let e : 256 ≡ c.loop-m.m = omega arith in
    e ∙ counting-full _ _ _ _ _ _ c.loop-m.invariant (omega arith)
