use mathlib.Core.Path.{sym, ap, ◌∙◌}
use borrow.Author.Tests.{eqb-true, eqb-false}
use Rattle.spec.specs.Boards.{Board}
use Rattle.feed.proofs.Walking.{counted-more, counted_same, walking_on, walking-over, walking-left}
use Rattle.feed.proofs.walk.read_chunks.Goals as goal

pub loop-at-preserved-then-is_ok : goal.loop-at-preserved-then-is_ok
loop-at-preserved-then-is_ok c = let inv = c.loop-at.invariant in (
  c.picture-1.given ∙ inv.0,
  c.map-1.given ∙ inv.1,
  walking_on inv.2 c.step_behind-step.ensures.value c.if-step.true c.step_behind-step.ensures.picture_after c.step_behind-step.ensures.map_after _
      (counted-more _ (eqb-true _ _ (sym c.is_ok.ensures ∙ c.if-is_ok.true))),
)

pub loop-at-preserved : goal.loop-at-preserved
loop-at-preserved c = let inv = c.loop-at.invariant in (
  c.picture-1.given ∙ inv.0,
  c.map-1.given ∙ inv.1,
  walking_on inv.2 c.step_behind-step.ensures.value c.if-step.true c.step_behind-step.ensures.picture_after c.step_behind-step.ensures.map_after _
      (counted_same _ (eqb-false _ _ (sym c.is_ok.ensures ∙ c.if-is_ok.false))),
)

pub returns-else-step-clause-value : goal.returns-else-step-clause-value
returns-else-step-clause-value c =
    let w = c.loop-at.invariant.2 in
    walking-over w c.step_behind-step.ensures.value c.if-step.false

pub returns-else-step-clause-picture_after : goal.returns-else-step-clause-picture_after
returns-else-step-clause-picture_after c = let w = c.loop-at.invariant.2 in
    let l = walking-left w c.step_behind-step.ensures.value c.if-step.false in
    c.step_behind-step.ensures.picture_after ∙ ap (λ (b : Board). b.picture) l

pub returns-else-step-clause-map_after : goal.returns-else-step-clause-map_after
returns-else-step-clause-map_after c = let w = c.loop-at.invariant.2 in
    let l = walking-left w c.step_behind-step.ensures.value c.if-step.false in
    c.step_behind-step.ensures.map_after ∙ ap (λ (b : Board). b.map) l
