use mathlib.Core.Path.{refl}
use lib.ListN.{length}
use Rattle.spec.specs.Boards.{board}
use Rattle.spec.specs.Feeds.{chunks_from}
use Rattle.spec.proofs.Refusals.{refused-not-ok}
use Rattle.feed.proofs.Opening.{chunks-refused, chunks-read}
use Rattle.feed.proofs.walk.walk_chunks.Goals as goal

pub returns-in-Err-clause-value : goal.returns-in-Err-clause-value
returns-in-Err-clause-value c = let a = c.args in
    let cs = chunks_from (length a.feed.now) a.feed.now a.first in
    let e = chunks-refused a.kept.size cs (board a.picture.now a.map.now a.kept.unsettled) (refused-not-ok c.in-Err.why) in
    let own = c.from.ensures in
    rw (c.in-Err.is, e) ((λ i. record { answer = own i; accepted = 0; kept = a.kept }))

pub returns-in-Err-clause-picture_after : goal.returns-in-Err-clause-picture_after
returns-in-Err-clause-picture_after c =
    let a = c.args in
    let cs = chunks_from (length a.feed.now) a.feed.now a.first in
    let e = chunks-refused a.kept.size cs (board a.picture.now a.map.now a.kept.unsettled) (refused-not-ok c.in-Err.why) in
    rw (c.in-Err.is, e) (refl)

pub returns-in-Err-clause-map_after : goal.returns-in-Err-clause-map_after
returns-in-Err-clause-map_after c =
    let a = c.args in
    let cs = chunks_from (length a.feed.now) a.feed.now a.first in
    let e = chunks-refused a.kept.size cs (board a.picture.now a.map.now a.kept.unsettled) (refused-not-ok c.in-Err.why) in
    rw (c.in-Err.is, e) (refl)

pub returns-clause-value : goal.returns-clause-value
returns-clause-value c = let a = c.args in
    let cs = chunks_from (length a.feed.now) a.feed.now a.first in
    rw (c.in_default.is, chunks-read a.kept.size cs (board a.picture.now a.map.now a.kept.unsettled) refl) c.read_chunks.ensures.value

pub returns-clause-picture_after : goal.returns-clause-picture_after
returns-clause-picture_after c = let a = c.args in
    let cs = chunks_from (length a.feed.now) a.feed.now a.first in
    rw (c.in_default.is, chunks-read a.kept.size cs (board a.picture.now a.map.now a.kept.unsettled) refl) c.read_chunks.ensures.picture_after

pub returns-clause-map_after : goal.returns-clause-map_after
returns-clause-map_after c = let a = c.args in
    let cs = chunks_from (length a.feed.now) a.feed.now a.first in
    rw (c.in_default.is, chunks-read a.kept.size cs (board a.picture.now a.map.now a.kept.unsettled) refl) c.read_chunks.ensures.map_after
