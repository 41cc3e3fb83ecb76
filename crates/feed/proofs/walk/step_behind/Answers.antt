use Prim.Native.Nat.{◌+◌}
use mathlib.Core.Path.{refl, ap, ◌∙◌}
use mathlib.Core.Bool.{true}
use native.Mathlib.Omega.{arith}
use Rattle.spec.specs.Feeds.{no_chunk}
use Rattle.feed.proofs.Standing.{none-stands, bad-stands, number-got, short-stands, chunk-stands}
use Rattle.feed.proofs.walk.step_behind.Goals as goal

pub returns-then-at-feed-clause-value : goal.returns-then-at-feed-clause-value
returns-then-at-feed-clause-value c = let a = c.args in
    let here = none-stands a.feed.now a.at (omega arith) in
    rw (here, ← c.requires) (c.no_chunk.ensures ∙ ap (no_chunk _ _) c.accepted.ensures)

pub returns-then-at-feed-clause-picture_after : goal.returns-then-at-feed-clause-picture_after
returns-then-at-feed-clause-picture_after c = let a = c.args in
    let here = none-stands a.feed.now a.at (omega arith) in
    rw here refl

pub returns-then-at-feed-clause-map_after : goal.returns-then-at-feed-clause-map_after
returns-then-at-feed-clause-map_after c = let a = c.args in
    let here = none-stands a.feed.now a.at (omega arith) in
    rw here refl

pub overflow_sub-feed : goal.overflow_sub-feed
overflow_sub-feed c = omega (arith, (number-got _ _ c.in-Ok.ensures).within)

pub returns-then-feed-first-clause-value : goal.returns-then-feed-first-clause-value
returns-then-feed-first-clause-value c = let e = c.in-Ok.ensures in
    let here = short-stands _ _ e (omega arith)
    (omega (arith, (number-got _ _ c.in-Ok.ensures).within)) in
    rw here (c.no_chunk-then-feed-first.ensures ∙ ap (no_chunk _ _) c.refusal-then-feed-first.ensures)

pub returns-then-feed-first-clause-picture_after : goal.returns-then-feed-first-clause-picture_after
returns-then-feed-first-clause-picture_after c = let e = c.in-Ok.ensures in
    let here = short-stands _ _ e (omega arith)
    (omega (arith, (number-got _ _ c.in-Ok.ensures).within)) in
    rw here refl

pub returns-then-feed-first-clause-map_after : goal.returns-then-feed-first-clause-map_after
returns-then-feed-first-clause-map_after c = let e = c.in-Ok.ensures in
    let here = short-stands _ _ e (omega arith)
    (omega (arith, (number-got _ _ c.in-Ok.ensures).within)) in
    rw here refl

pub slice_bounds-read_chunk-end : goal.slice_bounds-read_chunk-end
slice_bounds-read_chunk-end c = omega (arith, (number-got _ _ c.in-Ok.ensures).within)

pub returns-in-Err-clause-value : goal.returns-in-Err-clause-value
returns-in-Err-clause-value c = let here = bad-stands _ _ (omega arith) _ c.in-Err.ensures in
    rw here (c.no_chunk-in-Err.ensures ∙ ap (no_chunk _ _) c.refusal.ensures)

pub returns-in-Err-clause-picture_after : goal.returns-in-Err-clause-picture_after
returns-in-Err-clause-picture_after c = let here = bad-stands _ _ (omega arith) _ c.in-Err.ensures in
    rw here refl

pub returns-in-Err-clause-map_after : goal.returns-in-Err-clause-map_after
returns-in-Err-clause-map_after c = let here = bad-stands _ _ (omega arith) _ c.in-Err.ensures in
    rw here refl

pub returns-else-feed-first-clause-value : goal.returns-else-feed-first-clause-value
returns-else-feed-first-clause-value c = let e = c.in-Ok.ensures in
    let here = chunk-stands _ _ e (omega arith) (omega (arith, (number-got _ _ e).within)) in
    let next = c.in-Ok.length.after + c.in-Ok.length.value in
    rw here (λ i. record { answer = c.read_chunk-read.ensures.answer_value i; kept = c.read_chunk-read.ensures.kept_value i; chunk = true; next = next })

pub returns-else-feed-first-clause-picture_after : goal.returns-else-feed-first-clause-picture_after
returns-else-feed-first-clause-picture_after c = let e = c.in-Ok.ensures in
    let here = chunk-stands _ _ e (omega arith) (omega (arith, (number-got _ _ e).within)) in
    rw here c.read_chunk-read.ensures.picture_after

pub returns-else-feed-first-clause-map_after : goal.returns-else-feed-first-clause-map_after
returns-else-feed-first-clause-map_after c = let e = c.in-Ok.ensures in
    let here = chunk-stands _ _ e (omega arith) (omega (arith, (number-got _ _ e).within)) in
    rw here c.read_chunk-read.ensures.map_after
