use mathlib.Core.Path.{refl, sym, ap, ◌∙◌}
use borrow.Author.Tests.{eqb-true, eqb-false}
use Rattle.spec.specs.declared.Tally.{Tally}
use Rattle.spec.specs.Boards.{board}
use Rattle.feed.proofs.Opening.{opens, feed-entries}
use Rattle.feed.proofs.walk.walk_feed.Goals as goal

pub returns-then-not-is_ok-clause-answer_value : goal.returns-then-not-is_ok-clause-answer_value
returns-then-not-is_ok-clause-answer_value c = let a = c.args in
    let b = board a.picture.now a.map.now a.kept.unsettled in
    let own = c.feed_size-own.ensures in
    let e = (opens a.kept.size a.feed.now b).refused (rw (← own) (eqb-false _ _ (sym c.is_ok.ensures ∙ c.if-not-is_ok.true))) in
    rw (e, ← own) refl

pub returns-then-not-is_ok-clause-kept_value : goal.returns-then-not-is_ok-clause-kept_value
returns-then-not-is_ok-clause-kept_value c = let a = c.args in
    let b = board a.picture.now a.map.now a.kept.unsettled in
    let own = c.feed_size-own.ensures in
    let e = (opens a.kept.size a.feed.now b).refused (rw (← own) (eqb-false _ _ (sym c.is_ok.ensures ∙ c.if-not-is_ok.true))) in
    rw e refl

pub returns-then-not-is_ok-clause-picture_after : goal.returns-then-not-is_ok-clause-picture_after
returns-then-not-is_ok-clause-picture_after c = let a = c.args in
    let b = board a.picture.now a.map.now a.kept.unsettled in
    let own = c.feed_size-own.ensures in
    let e = (opens a.kept.size a.feed.now b).refused (rw (← own) (eqb-false _ _ (sym c.is_ok.ensures ∙ c.if-not-is_ok.true))) in
    rw e refl

pub returns-then-not-is_ok-clause-map_after : goal.returns-then-not-is_ok-clause-map_after
returns-then-not-is_ok-clause-map_after c = let a = c.args in
    let b = board a.picture.now a.map.now a.kept.unsettled in
    let own = c.feed_size-own.ensures in
    let e = (opens a.kept.size a.feed.now b).refused (rw (← own) (eqb-false _ _ (sym c.is_ok.ensures ∙ c.if-not-is_ok.true))) in
    rw e refl

pub walk_chunks-tally-requires : goal.walk_chunks-tally-requires
walk_chunks-tally-requires c = λ h. feed-entries _ _ _ _ (sym c.check_feed-checked.ensures ∙ h)

pub returns-clause-answer_value : goal.returns-clause-answer_value
returns-clause-answer_value c = let a = c.args in
    let b = board a.picture.now a.map.now a.kept.unsettled in
    let own = c.feed_size-own.ensures in
    let e = rw (← own) at ((opens a.kept.size a.feed.now b).read (rw (← own) (eqb-true _ _ (sym c.is_ok.ensures ∙ c.if-not-is_ok.false)))) in
    rw (e, ← c.check_feed-checked.ensures) (ap (λ (t : Tally). t.answer) c.walk_chunks-tally.ensures.value)

pub returns-clause-kept_value : goal.returns-clause-kept_value
returns-clause-kept_value c = let a = c.args in
    let b = board a.picture.now a.map.now a.kept.unsettled in
    let own = c.feed_size-own.ensures in
    let e = rw (← own) at ((opens a.kept.size a.feed.now b).read (rw (← own) (eqb-true _ _ (sym c.is_ok.ensures ∙ c.if-not-is_ok.false)))) in
    rw (e, ← c.check_feed-checked.ensures) (ap (λ (t : Tally). t.kept) c.walk_chunks-tally.ensures.value)

pub returns-clause-picture_after : goal.returns-clause-picture_after
returns-clause-picture_after c = let a = c.args in
    let b = board a.picture.now a.map.now a.kept.unsettled in
    let own = c.feed_size-own.ensures in
    let e = rw (← own) at ((opens a.kept.size a.feed.now b).read (rw (← own) (eqb-true _ _ (sym c.is_ok.ensures ∙ c.if-not-is_ok.false)))) in
    rw (e, ← c.check_feed-checked.ensures) c.walk_chunks-tally.ensures.picture_after

pub returns-clause-map_after : goal.returns-clause-map_after
returns-clause-map_after c = let a = c.args in
    let b = board a.picture.now a.map.now a.kept.unsettled in
    let own = c.feed_size-own.ensures in
    let e = rw (← own) at ((opens a.kept.size a.feed.now b).read (rw (← own) (eqb-true _ _ (sym c.is_ok.ensures ∙ c.if-not-is_ok.false)))) in
    rw (e, ← c.check_feed-checked.ensures) c.walk_chunks-tally.ensures.map_after
