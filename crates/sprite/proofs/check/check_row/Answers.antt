use mathlib.Core.Path.{◌≡◌, sym, ap, ◌∙◌}
use native.Mathlib.Omega.{arith}
use Rattle.std.proofs.Common.{rules}
use Rattle.spec.specs.Answers.{number_of, refusal_number}
use Rattle.sprite.specs.Frames.{Shade, Ended}
use Rattle.sprite.proofs.Segments.{stands, segment-told, segment-refused}
use Rattle.sprite.proofs.Progress.{row-goes-on, row-ends-bad, row_ends}
use Rattle.sprite.proofs.check.check_row.Goals as goal

pub returns-in_err-segment : goal.returns-in_err-segment
returns-in_err-segment c =
    let x : number_of c.from_residual.result ≡ refusal_number c.in_err-segment.field-0.0 = search rules in
    let f = segment-refused _ _ c.in_err-segment.ensures.said in
    let e = row-ends-bad c.args.r.now.within c.loop-next.invariant.1 c.loop-next-test.true f.0 in
    x ∙ f.1 ∙ sym (ap (λ (r : Ended Shade). r.number) e)

pub overflow_add-x : goal.overflow_add-x
overflow_add-x c =
    let k = row-goes-on c.args.r.now.within c.loop-next.invariant.1 c.loop-next-test.true (segment-told _ c.in_ok-segment.ensures.said) in
    record { fits = omega (arith, k.fits, c.count-x.ensures) }

pub loop-next-smaller : goal.loop-next-smaller
loop-next-smaller c =
    let k = stands c.args.r.now.s.now _ _ _ _ _ (segment-told _ c.in_ok-segment.ensures.said) in
    omega (arith, k.onward, k.within, c.loop-next-test.true)

pub loop-next-preserved : goal.loop-next-preserved
loop-next-preserved c =
    rw c.count-x.ensures (_, row-goes-on c.args.r.now.within c.loop-next.invariant.1 c.loop-next-test.true (segment-told _ c.in_ok-segment.ensures.said))

pub returns : goal.returns
returns c =
    sym (ap (λ (r : Ended Shade). r.number) (row_ends c.args.r.now.within c.loop-next.invariant.1 c.loop-next-test.false))
