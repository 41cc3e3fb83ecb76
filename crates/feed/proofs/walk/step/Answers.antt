use mathlib.Core.Path.{refl, ap, ◌∙◌}
use Rattle.spec.specs.Boards.{board}
use Rattle.spec.specs.Feeds.{no_chunk}
use Rattle.spec.proofs.Refusals.{refused-not-ok}
use Rattle.feed.proofs.Opening.{board-entries, step-refused, step-goes}
use Rattle.feed.proofs.walk.step.Goals as goal

pub returns-in-Err-clause-value : goal.returns-in-Err-clause-value
returns-in-Err-clause-value c = let a = c.args in
    let b = board a.picture.now a.map.now a.kept.unsettled in
    let e = step-refused a.kept.size a.feed.now a.at b c.in-Err.ensures (refused-not-ok c.in-Err.why) in
    rw e (c.no_chunk.ensures ∙ ap (no_chunk _ _) c.from.ensures)

pub returns-in-Err-clause-picture_after : goal.returns-in-Err-clause-picture_after
returns-in-Err-clause-picture_after c = let a = c.args in
    let b = board a.picture.now a.map.now a.kept.unsettled in
    let e = step-refused a.kept.size a.feed.now a.at b c.in-Err.ensures (refused-not-ok c.in-Err.why) in
    rw e (refl)

pub returns-in-Err-clause-map_after : goal.returns-in-Err-clause-map_after
returns-in-Err-clause-map_after c = let a = c.args in
    let b = board a.picture.now a.map.now a.kept.unsettled in
    let e = step-refused a.kept.size a.feed.now a.at b c.in-Err.ensures (refused-not-ok c.in-Err.why) in
    rw e (refl)

pub step_behind-requires : goal.step_behind-requires
step_behind-requires c = let a = c.args in
    let b = board a.picture.now a.map.now a.kept.unsettled in
    board-entries a.kept.size b c.in_default.ensures refl

pub returns-clause-value : goal.returns-clause-value
returns-clause-value c = let a = c.args in
    let b = board a.picture.now a.map.now a.kept.unsettled in
    rw (step-goes a.kept.size a.feed.now a.at b c.in_default.ensures refl) c.step_behind.ensures.value

pub returns-clause-picture_after : goal.returns-clause-picture_after
returns-clause-picture_after c = let a = c.args in
    let b = board a.picture.now a.map.now a.kept.unsettled in
    rw (step-goes a.kept.size a.feed.now a.at b c.in_default.ensures refl) c.step_behind.ensures.picture_after

pub returns-clause-map_after : goal.returns-clause-map_after
returns-clause-map_after c = let a = c.args in
    let b = board a.picture.now a.map.now a.kept.unsettled in
    rw (step-goes a.kept.size a.feed.now a.at b c.in_default.ensures refl) c.step_behind.ensures.map_after
