use Prim.Native.Nat.{◌<◌, ◌≤◌}
use mathlib.Core.List.{[]}
use native.Mathlib.Omega.{arith}
use Rattle.sprite.proofs.RowHeads.{blank-told, data-told, data-row, row-head-refused, is-blank, is-data}
use Rattle.sprite.proofs.Progress.{frame-blank}
use Rattle.sprite.proofs.Rowwise.{frame-unpainted, frame-painted, no-bad-row, frame-paints-blank, frame-paints-on}
use Rattle.sprite.proofs.paint.Position.paint.Goals as goal

pub loop-done-init : goal.loop-done-init
loop-done-init c = ([], frame-unpainted c.requires.accepted c.requires.exact c.args.f.now.within)

pub returns-in_default : goal.returns-in_default
returns-in_default c =
    let l : c.loop-done.done < c.args.f.now.height = omega arith in
    absurd (no-bad-row c.requires.accepted c.requires.exact c.loop-done.invariant.1 l (row-head-refused _ _ c.in_default.ensures.said).0)

pub overflow_add-done : goal.overflow_add-done
overflow_add-done c =
    let l : c.loop-done.done < c.args.f.now.height = omega arith in
    let k = frame-blank c.loop-done.invariant.1.read l (blank-told c.in-Blank.is c.in-Ok.ensures.said) in
    record { fits = omega (arith, k.fits) }

pub loop-done-smaller-in-Blank : goal.loop-done-smaller-in-Blank
loop-done-smaller-in-Blank c =
    omega (arith, (is-blank c.args.f.now.s.now _ _ _ (blank-told c.in-Blank.is c.in-Ok.ensures.said)).head)

pub loop-done-preserved-in-Blank : goal.loop-done-preserved-in-Blank
loop-done-preserved-in-Blank c =
    let l : c.loop-done.done < c.args.f.now.height = omega arith in
    (_, frame-paints-blank c.requires.accepted c.requires.exact c.loop-done.invariant.1 l (blank-told c.in-Blank.is c.in-Ok.ensures.said))

pub loop-done-smaller : goal.loop-done-smaller
loop-done-smaller c =
    let k = is-data c.args.f.now.s.now _ _ _ (data-told c.in-Data.is c.in-Ok.ensures.said) in
    omega (arith, k.head, k.within)

pub loop-done-preserved : goal.loop-done-preserved
loop-done-preserved c =
    let l : c.loop-done.done < c.args.f.now.height = omega arith in
    let e = rw (c.from.ensures, data-row _ c.args.f.now.width c.loop-done.at c.in-Data.is c.in-Ok.ensures.read) at c.paint_line.ensures in
    (_, frame-paints-on c.requires.accepted c.requires.exact c.loop-done.invariant.1 l (data-told c.in-Data.is c.in-Ok.ensures.said) e)

pub returns : goal.returns
returns c =
    let l : c.args.f.now.height ≤ c.loop-done.done = omega arith in
    frame-painted c.requires.accepted c.requires.exact c.loop-done.invariant.1 l
