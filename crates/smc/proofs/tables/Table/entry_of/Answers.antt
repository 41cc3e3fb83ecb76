use Rattle.std.proofs.Common.{◌<◌, get_or, refl, sym, ◌∙◌, true≢false, arith}
use Rattle.spec.proofs.Cells.{entry-room}
use Rattle.spec.specs.Chunks.{capacity}
use Rattle.smc.proofs.tables.Table.entry_of.Goals as goal

pub overflow_mul-at : goal.overflow_mul-at
overflow_mul-at n c =
    rw c.from-at.ensures (omega (arith, entry-room n.row.COLOURS c.args.self.now.next capacity (omega arith), c.args.self.now.all, n.ALL.fits))

pub returns-then-stores : goal.returns-then-stores
returns-then-stores n c =
    let room = entry-room n.row.COLOURS c.args.self.now.next capacity (omega arith) in
    rw c.from-at.ensures record {
      stored = λ e. (c.store.ensures.colours_after, refl, refl, c.store.ensures.next_after);
      named = λ no. absurd (true≢false (sym c.if-stores.true ∙ no));
      room = room;
    }

pub overflow_mul-result : goal.overflow_mul-result
overflow_mul-result n c =
    let byte : get_or c.args.s.now c.args.q 0 < capacity = omega (arith, c.type_inv.s c.args.q) in
    rw c.from.ensures (omega (arith, entry-room n.row.COLOURS (get_or c.args.s.now c.args.q 0) capacity byte, c.args.self.now.all, n.ALL.fits))

pub returns : goal.returns
returns n c =
    let byte : get_or c.args.s.now c.args.q 0 < capacity = omega (arith, c.type_inv.s c.args.q) in
    rw c.from.ensures record {
      stored = λ yes. absurd (true≢false (sym yes ∙ c.if-stores.false));
      named = λ ne. (refl, refl, refl, refl);
      room = entry-room n.row.COLOURS _ capacity byte;
    }
