use mathlib.Core.Path.{◌∙◌}
use native.Mathlib.Omega.{arith}
use Rattle.smc_check.proofs.Tallies.{now-least, open_in-part}
use Rattle.smc_check.proofs.count.Counter.summed.Goals as goal

pub overflow_sub-result : goal.overflow_sub-result
overflow_sub-result c = let a = c.args.self in
    let m = a.map.now in
    let g = c.requires in
    let e = c.unsettled_in.ensures ∙ open_in-part m a.t.lo a.t.hi g.tally.begin (omega arith) in
    omega (arith, now-least m _ a.t g (omega arith))

pub returns : goal.returns
returns c = let a = c.args.self in
    let e = c.unsettled_in.ensures ∙ open_in-part a.map.now a.t.lo a.t.hi c.requires.tally.begin (omega arith) in
    rw e
