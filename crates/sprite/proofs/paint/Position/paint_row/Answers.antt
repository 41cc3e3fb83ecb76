use mathlib.Core.List.{[]}
use native.Mathlib.Omega.{arith}
use Rattle.sprite.proofs.Segments.{stands, segment-told, segment-refused}
use Rattle.sprite.proofs.Progress.{row-goes-on}
use Rattle.sprite.proofs.Rowwise.{row-unpainted, row-paints-on, row-painted-bad, row-painted}
use Rattle.sprite.proofs.paint.Position.paint_row.Goals as goal

pub loop-next-init : goal.loop-next-init
loop-next-init c = let r = c.args.r.now in ([], row-unpainted r.within c.requires.exact r.order)

pub returns-in_default : goal.returns-in_default
returns-in_default c =
    row-painted-bad c.args.r.now.within c.requires.exact c.loop-next.invariant.1 c.loop-next-test.true (segment-refused _ _ c.in_default.ensures.said).0

pub overflow_add-x : goal.overflow_add-x
overflow_add-x c =
    let k = row-goes-on c.args.r.now.within c.loop-next.invariant.1.read c.loop-next-test.true (segment-told _ c.in-Ok.ensures.said) in
    record { fits = omega (arith, k.fits, c.count-x.ensures) }

pub loop-next-smaller : goal.loop-next-smaller
loop-next-smaller c =
    let k = stands c.args.r.now.s.now _ _ _ _ _ (segment-told _ c.in-Ok.ensures.said) in
    omega (arith, k.onward, k.within)

pub loop-next-preserved : goal.loop-next-preserved
loop-next-preserved c =
    let e = rw c.in-Ok.ensures.shows at c.paint_segment.ensures in
    let t = segment-told _ c.in-Ok.ensures.said in
    rw c.count-x.ensures (_, row-paints-on c.args.r.now.within c.requires.exact c.loop-next.invariant.1 c.loop-next-test.true t e)

pub returns : goal.returns
returns c = row-painted c.args.r.now.within c.requires.exact c.loop-next.invariant.1 c.loop-next-test.false
