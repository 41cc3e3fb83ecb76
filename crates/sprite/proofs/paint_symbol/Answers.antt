use mathlib.Core.Path.{◌≡◌, refl, ap, ◌∙◌}
use Rattle.std.proofs.Common.{rules}
use Rattle.spec.specs.Answers.{ok, refusal_number}
use Rattle.spec.proofs.Refusals.{refused-not-ok}
use Rattle.sprite.specs.Frames.{frame}
use Rattle.sprite.specs.Strips.{from_least}
use Rattle.sprite.proofs.Answering.{symbol-refused, exact-picture, frame-kept, frame-shown}
use Rattle.sprite.proofs.Positions.{low, narrow, at_position}
use Rattle.sprite.proofs.paint_symbol.Goals as goal

pub returns-in-Err-clause-value : goal.returns-in-Err-clause-value
returns-in-Err-clause-value c = let a = c.args in
    let e = symbol-refused a.size a.picture.now a.file.now a.frame a.left a.top (refusal_number c.in-Err.why) c.in-Err.ensures (refused-not-ok _) in
    rw e c.from.ensures

pub returns-in-Err-clause-picture_after : goal.returns-in-Err-clause-picture_after
returns-in-Err-clause-picture_after c = let a = c.args in
    let e = symbol-refused a.size a.picture.now a.file.now a.frame a.left a.top (refusal_number c.in-Err.why) c.in-Err.ensures (refused-not-ok _) in
    rw e

pub paint-requires-clause-exact : goal.paint-requires-clause-exact
paint-requires-clause-exact c = let a = c.args in
    rw c.new.ensures.size_value (exact-picture a.size a.picture.now a.file.now a.frame a.left a.top ok c.in_default.ensures refl)

pub returns-in-Err-check-clause-value : goal.returns-in-Err-check-clause-value
returns-in-Err-check-clause-value c = let a = c.args in
    let e = frame-kept a.size a.picture.now a.file.now a.frame a.left a.top ok c.in_default.ensures refl _ c.in-Err-check.ensures.number (refused-not-ok _) in
    rw e c.from-in-Err-check.ensures

pub returns-in-Err-check-clause-picture_after : goal.returns-in-Err-check-clause-picture_after
returns-in-Err-check-clause-picture_after c = let a = c.args in
    let e = frame-kept a.size a.picture.now a.file.now a.frame a.left a.top ok c.in_default.ensures refl _ c.in-Err-check.ensures.number (refused-not-ok _) in
    rw e

pub returns-in-Ok-clause-value : goal.returns-in-Ok-clause-value
returns-in-Ok-clause-value c = let a = c.args in
    let n : ok ≡ (frame a.file.now a.frame).number = search rules in
    let e = frame-shown a.size a.picture.now a.file.now a.frame a.left a.top ok c.in_default.ensures refl ok n refl in
    rw e c.accepted.ensures

pub returns-in-Ok-clause-picture_after : goal.returns-in-Ok-clause-picture_after
returns-in-Ok-clause-picture_after c = let a = c.args in
    let n : ok ≡ (frame a.file.now a.frame).number = search rules in
    let e = frame-shown a.size a.picture.now a.file.now a.frame a.left a.top ok c.in_default.ensures refl ok n refl in
    let p = c.new.ensures in
    let left = p.left_value ∙ ap from_least (narrow a.left c.ranges.left) in
    let top = p.top_value ∙ ap from_least (narrow a.top c.ranges.top) in
    let q = at_position (frame a.file.now a.frame).made a.size a.left a.top a.picture.now (low a.left c.ranges.left) (low a.top c.ranges.top) in
    rw e (c.paint.ensures ∙ rw (p.size_value, left, top, c.in-Ok.ensures.accepted) q)
