use mathlib.Core.Path.{◌≡◌, sym, ◌∙◌}
use mathlib.Core.Bool.{true}
use Prim.Native.Nat.{◌<◌}
use native.Mathlib.Omega.{arith}
use Rattle.spec.specs.Chunks.{kind_of, reach}
use Rattle.smc_check.specs.Tallying.{is_settled}
use Rattle.smc_check.proofs.Tallies.{notes-plain}
use Rattle.smc_check.proofs.count.Counter.noted.Goals as goal
use Rattle.smc_check.proofs.count.Counter.noted.Goals.{else-run-gt0-via-then-run-gt0+else-not-is_settled, else-run-gt0-via-else-run-gt0}

pub returns : goal.returns
returns c = let a = c.args in
    let asks = a.run.asks in
    let settled : 0 < reach (kind_of a.run.upper) → is_settled a.self.t ≡ true
    = elim c.else-run-gt0.branch [
      | else-run-gt0-via-then-run-gt0+else-not-is_settled w ↦ λ some. sym w.is_settled.ensures ∙ w.if-not-is_settled.false
      | else-run-gt0-via-else-run-gt0 w ↦ λ some. absurd (omega (arith, some, asks.reach, w.if-run-gt0.false))
    ] in
    rw (c.second_of.ensures, c.left-left.ensures, asks.touches)
    (notes-plain a.self.map.now a.run.upper a.run.first a.run.blocks a.self.t a.run.known a.run.some a.run.even a.run.reached settled)
