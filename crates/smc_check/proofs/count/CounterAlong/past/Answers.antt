use Rattle.smc_check.proofs.Tallies.{owing-noted, counts-both, touched-by}
use Rattle.smc_check.proofs.count.CounterAlong.past.Goals as goal

pub taken-t-requires : goal.taken-t-requires
taken-t-requires c = let a = c.args in
    let r = a.run in
    let e = touched-by r.upper r.blocks r.row.now.touches r.asks.touches _ c.from.ensures in
    record { owing = rw e (owing-noted a.self.map.now r.upper r.first r.blocks a.self.t _ c.requires.fits r.some c.requires.tallied c.noted-t.ensures) }

pub returns-clause-advances : goal.returns-clause-advances
returns-clause-advances c = let a = c.args in
    let r = a.run in
    let e = touched-by r.upper r.blocks r.row.now.touches r.asks.touches _ c.from.ensures in
    counts-both a.self.map.now r.upper r.first r.blocks a.self.t _ _ c.requires.fits c.noted-t.ensures (rw e at c.taken-t.ensures)
