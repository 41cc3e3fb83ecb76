use Rattle.spec.specs.Boards.{board}
use Rattle.spec.specs.Feeds.{walk_run}
use Rattle.feed.proofs.Opening.{board-entries}
use Rattle.feed.proofs.walk.walk_run.Goals as goal

pub walk_chunks-requires : goal.walk_chunks-requires
walk_chunks-requires c = let a = c.args in
    let b = board a.picture.now a.map.now a.kept.unsettled in
    board-entries a.kept.size b c.check_board-checked.ensures

pub returns-clause-value : goal.returns-clause-value
unfolding walk_run
returns-clause-value c = rw (← c.check_board-checked.ensures) c.walk_chunks.ensures.value

pub returns-clause-picture_after : goal.returns-clause-picture_after
unfolding walk_run
returns-clause-picture_after c = rw (← c.check_board-checked.ensures) c.walk_chunks.ensures.picture_after

pub returns-clause-map_after : goal.returns-clause-map_after
unfolding walk_run
returns-clause-map_after c = rw (← c.check_board-checked.ensures) c.walk_chunks.ensures.map_after
