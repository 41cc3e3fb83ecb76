use mathlib.Core.Path.{ap, ◌∙◌}
use native.Mathlib.Omega.{arith}
use lib.ListN.{length}
use Rattle.sprite.proofs.Segmentwise.{unseen-kept, run-painted, copy-painted}
use Rattle.sprite.proofs.Laying.{strip-clear}
use Rattle.sprite.specs.Read.{shown}
use Rattle.sprite.proofs.paint.Position.paint_segment.Goals as goal

pub returns-then-visible-eq0 : goal.returns-then-visible-eq0
returns-then-visible-eq0 c =
    let q = c.requires in
    let pic = c.args.picture.now in
    rw (← c.from.ensures) (unseen-kept pic q.y_lt_height q.exact c.clip-visible.ensures (shown c.args.segment) c.count.ensures c.if-visible-eq0.true)

pub returns-in-Clear : goal.returns-in-Clear
returns-in-Clear c = rw c.in-Clear.is (strip-clear _ _ _ _ c.args.picture.now c.requires.exact)

pub returns-in-Run : goal.returns-in-Run
returns-in-Run c =
    let q = c.requires in
    let v = c.clip-visible.result in
    let n = c.count.ensures ∙ ap (λ s. length (shown s)) c.in-Run.is in
    rw (← c.from.ensures, c.in-Run.is) (run-painted c.args.picture.now q.y_lt_height q.exact c.clip-visible.ensures c.if-visible-eq0.false
    _ (omega arith) c.in-Run.colour c.in-Run.field-0 n (c.fill.ensures.after (λ y e. e)))

pub returns-in-Copy : goal.returns-in-Copy
returns-in-Copy c =
    let q = c.requires in
    let n = c.count.ensures ∙ ap (λ s. length (shown s)) c.in-Copy.is in
    rw (← c.from.ensures, c.in-Copy.is) (copy-painted c.args.picture.now q.y_lt_height q.exact c.clip-visible.ensures c.if-visible-eq0.false
    _ (omega arith) c.in-Copy.colours.now n c.copy.ensures)
