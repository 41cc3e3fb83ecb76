-- A step that read a chunk has gone on, within the feed. Assumes nothing.
use Rattle.std.proofs.Common.{arith}
use Rattle.std.proofs.lemmas.Bool.{not-false}
use Rattle.feed.proofs.Walking.{step-further}
use Rattle.board.proofs.print_chunks.Goals as goal

pub overflow_add-chunk : goal.overflow_add-chunk
overflow_add-chunk g c =
    let o = step-further _ _ _ _ c.list_step-listed.ensures.step_value (not-false _ c.if-not-step.false) in
    omega (arith, o.0, o.1)

pub loop-step-smaller : goal.loop-step-smaller
loop-step-smaller g c =
    let o = step-further _ _ _ _ c.list_step-listed.ensures.step_value (not-false _ c.if-not-step.false) in
    omega (arith, o.0, o.1)

pub loop-step-preserved : goal.loop-step-preserved
loop-step-preserved g c =
    let o = step-further _ _ _ _ c.list_step-listed.ensures.step_value (not-false _ c.if-not-step.false) in
    omega (arith, o.0)
