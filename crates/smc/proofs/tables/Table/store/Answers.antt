use Rattle.std.proofs.Common.{rules, ◌*◌, arith}
use Rattle.spec.specs.Basics.{part}
use Rattle.spec.proofs.Parts.{length_part, put_mid-sets}
use Rattle.spec.proofs.Cells.{entry-room}
use Rattle.spec.specs.Chunks.{capacity}
use Rattle.smc.proofs.tables.Table.store.Goals as goal

pub overflow_mul-e : goal.overflow_mul-e
overflow_mul-e n c =
    rw c.from-e.ensures (omega (arith, entry-room n.row.COLOURS c.args.self.now.next capacity (omega arith), c.args.self.now.all, n.ALL.fits))

pub overflow_add-e : goal.overflow_add-e
overflow_add-e n c =
    rw c.from-e.ensures (omega (arith, entry-room n.row.COLOURS c.args.self.now.next capacity (omega arith), c.args.self.now.all, n.ALL.fits))

pub slice_bounds-copy_from_slice-end : goal.slice_bounds-copy_from_slice-end
slice_bounds-copy_from_slice-end n c =
    rw c.from-e.ensures (omega (arith, entry-room n.row.COLOURS c.args.self.now.next capacity (omega arith), c.args.self.now.all))

pub returns-clause-colours_after : goal.returns-clause-colours_after
returns-clause-colours_after n c =
    let a = c.args in
    let w = n.row.COLOURS in
    let room = entry-room w a.self.now.next capacity (omega arith) in
    let part-len = length_part a.s.now a.q w c.requires in
    rw c.from-e.ensures
    (put_mid-sets a.self.now.colours (w * a.self.now.next) _ _ (part a.s.now a.q w) (search rules) (omega (arith, part-len))
    (omega (arith, part-len, room, a.self.now.all)))
