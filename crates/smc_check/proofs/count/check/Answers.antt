use mathlib.Core.Path.{sym, ◌∙◌}
use Rattle.std.proofs.Common.{rules}
use Rattle.smc_check.proofs.Tallies.{tally-start}
use Rattle.spec.proofs.Refused.{refused-number}
use Rattle.smc_check.proofs.Behind.{passed, stopped, balanced-accepted}
use Rattle.smc_check.proofs.count.check.Goals as goal

pub check_along-requires-clause-begun : goal.check_along-requires-clause-begun
check_along-requires-clause-begun c = rw (c.new.ensures.begun, c.new.ensures.same_map) (tally-start c.args.map.now)

pub returns-in_err-used-clause-refused : goal.returns-in_err-used-clause-refused
returns-in_err-used-clause-refused c = let a = c.args in
    let other = refused-number a.blocks a.s.now (stopped _ a.blocks a.s.now _ _ c.check_along.ensures _ c.in_err-used.was) in
    search (rules, other)

pub returns-clause-balanced : goal.returns-clause-balanced
returns-clause-balanced c = let a = c.args in
    let used = c.in_ok-used.used in
    let p = passed _ a.blocks a.s.now _ _ c.check_along.ensures used c.in_ok-used.was in
    let e = p.tally.0 ∙ c.new.ensures.same_map in
    balanced-accepted a.map.now _ used.along.t p.made p.is (p.all ∙ sym c.requires.0) used.along.map.now e p.tally.1 _ c.summed.ensures
