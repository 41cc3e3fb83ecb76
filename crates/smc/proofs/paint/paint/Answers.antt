use Rattle.std.proofs.Common.{◌*◌, ◌<◌, refl, arith}
use Rattle.smc.proofs.Going.{begins, opens, continues, less, paints}
use Rattle.smc.proofs.paint.paint.Goals as goal

pub loop-from-init : goal.loop-from-init
loop-from-init c =
    begins _ _ _ _ _ c.requires.accepts c.requires.lent _ (c.emptied.ensures 1 refl) (c.emptied-2.ensures 2 refl) (c.emptied-3.ensures 3 refl)

pub invariant_of-opcode : goal.invariant_of-opcode
invariant_of-opcode c = let e = c.requires.lent.entries in
    let l : c.loop-from.from.k < c.args.grid.columns * c.args.grid.lines = omega arith in
    record { room = (opens _ _ _ _ _ c.requires.accepts _ _ _ _ _ c.loop-from.invariant l).room }

pub loop-from-smaller : goal.loop-from-smaller
loop-from-smaller c = let e = c.requires.lent.entries in
    let l : c.loop-from.from.k < c.args.grid.columns * c.args.grid.lines = omega arith in
    let t = less _ _ _ _ _ c.requires.accepts _ _ _ _ _ c.loop-from.invariant l _ _ _ _ _ c.paint-from.ensures in
    let p = t.0 in
    let q = t.1 in
    omega arith

pub loop-from-preserved : goal.loop-from-preserved
loop-from-preserved c = let e = c.requires.lent.entries in
    let l : c.loop-from.from.k < c.args.grid.columns * c.args.grid.lines = omega arith in
    continues _ _ _ _ _ c.requires.accepts _ _ _ _ _ c.loop-from.invariant l _ _ _ _ _ c.paint-from.ensures (omega arith) (omega arith)

pub returns-clause-pic_after : goal.returns-clause-pic_after
returns-clause-pic_after c = let e = c.requires.lent.entries in
    (paints _ _ _ _ _ c.requires.accepts _ _ _ _ _ c.loop-from.invariant (omega arith)).0

pub returns-clause-map_after : goal.returns-clause-map_after
returns-clause-map_after c = let e = c.requires.lent.entries in
    (paints _ _ _ _ _ c.requires.accepts _ _ _ _ _ c.loop-from.invariant (omega arith)).1
