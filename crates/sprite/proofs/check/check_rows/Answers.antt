use Prim.Native.Nat.{◌<◌, ◌≤◌}
use mathlib.Core.Path.{◌≡◌, sym, ap, ◌∙◌}
use mathlib.Core.List.{List}
use native.Mathlib.Omega.{arith}
use Rattle.std.proofs.Common.{rules}
use Rattle.spec.specs.Answers.{number_of, refusal_number}
use Rattle.spec.proofs.Refusals.{refused-not-ok}
use Rattle.sprite.specs.Frames.{Shade, Ended}
use Rattle.sprite.proofs.RowHeads.{blank-told, data-told, data-row, row-head-refused, is-blank, is-data}
use Rattle.sprite.proofs.Progress.{frame-ends, frame-bad-row, frame-blank, frame-data, frame-bad-segment}
use Rattle.sprite.proofs.check.check_rows.Goals as goal

pub returns-in_err-count : goal.returns-in_err-count
returns-in_err-count c =
    let x : number_of c.from_residual.result ≡ refusal_number c.in_err-count.field-0.0 = search rules in
    let f = row-head-refused _ _ c.in_err-count.ensures.said in
    let l : c.loop-y.y < c.args.f.now.height = omega arith in
    x ∙ f.1 ∙ sym (ap (λ (r : Ended (List Shade)). r.number) (frame-bad-row c.loop-y.invariant.1 l f.0))

pub overflow_add-y : goal.overflow_add-y
overflow_add-y c =
    let l : c.loop-y.y < c.args.f.now.height = omega arith in
    let k = frame-blank c.loop-y.invariant.1 l (blank-told c.in-Blank.is c.in_ok-count.ensures.said) in
    record { fits = omega (arith, k.fits) }

pub loop-y-smaller-in-Blank : goal.loop-y-smaller-in-Blank
loop-y-smaller-in-Blank c =
    omega (arith, (is-blank c.args.f.now.s.now _ _ _ (blank-told c.in-Blank.is c.in_ok-count.ensures.said)).head)

pub loop-y-preserved-in-Blank : goal.loop-y-preserved-in-Blank
loop-y-preserved-in-Blank c =
    let l : c.loop-y.y < c.args.f.now.height = omega arith in
    (_, frame-blank c.loop-y.invariant.1 l (blank-told c.in-Blank.is c.in_ok-count.ensures.said))

pub loop-y-smaller : goal.loop-y-smaller
loop-y-smaller c =
    let k = is-data c.args.f.now.s.now _ _ _ (data-told c.in-Data.is c.in_ok-count.ensures.said) in
    omega (arith, k.head, k.within)

pub returns-in_err-check_row-in-Data : goal.returns-in_err-check_row-in-Data
returns-in_err-check_row-in-Data c =
    let x : number_of c.from_residual-in_err-check_row-in-Data.result ≡ refusal_number c.in_err-check_row-in-Data.field-0.0 = search rules in
    let n = rw (data-row _ c.args.f.now.width c.loop-y.at c.in-Data.is c.in_ok-count.ensures.read) at c.in_err-check_row-in-Data.ensures in
    let l : c.loop-y.y < c.args.f.now.height = omega arith in
    let e = frame-bad-segment c.loop-y.invariant.1 l (data-told c.in-Data.is c.in_ok-count.ensures.said) (λ o. refused-not-ok _ (n ∙ o)) in
    x ∙ n ∙ sym (ap (λ (r : Ended (List Shade)). r.number) e)

pub loop-y-preserved : goal.loop-y-preserved
loop-y-preserved c =
    let l : c.loop-y.y < c.args.f.now.height = omega arith in
    let o = rw (data-row _ c.args.f.now.width c.loop-y.at c.in-Data.is c.in_ok-count.ensures.read) at c.in_ok-check_row-in-Data.ensures in
    (_, frame-data c.loop-y.invariant.1 l (data-told c.in-Data.is c.in_ok-count.ensures.said) (sym o))

pub returns : goal.returns
returns c =
    let l : c.args.f.now.height ≤ c.loop-y.y = omega arith in
    c.check_marker.ensures ∙ sym (ap (λ (r : Ended (List Shade)). r.number) (frame-ends c.loop-y.invariant.1 l))
