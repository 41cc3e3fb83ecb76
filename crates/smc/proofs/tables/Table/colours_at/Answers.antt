use Rattle.std.proofs.Common.{◌+◌, ◌-◌, ◌≡◌, arith}
use Rattle.smc.proofs.tables.Table.colours_at.Goals as goal

pub overflow_add-result : goal.overflow_add-result
overflow_add-result n c = omega (arith, (c.requires.same c.if-stored.true).0)

pub slice_bounds-result-end : goal.slice_bounds-result-end
slice_bounds-result-end n c = (c.requires.same c.if-stored.true).0

pub returns-then-stored : goal.returns-then-stored
returns-then-stored n c = let e : c.args.q + n.row.COLOURS - c.args.q ≡ n.row.COLOURS = omega arith in
    rw e (c.requires.same c.if-stored.true).1

pub overflow_add-result-2 : goal.overflow_add-result-2
overflow_add-result-2 n c = omega (arith, c.requires.e_in_bounds, c.args.self.now.all, n.ALL.fits)

pub slice_bounds-result-end-2 : goal.slice_bounds-result-end-2
slice_bounds-result-end-2 n c = omega (arith, c.requires.e_in_bounds, c.args.self.now.all)

pub returns : goal.returns
returns n c = let e : c.args.e + n.row.COLOURS - c.args.e ≡ n.row.COLOURS = omega arith in
    rw e
