use native.Mathlib.Omega.{arith}
use borrow.Author.Rules.{rules}
use Rattle.smc_writer.specs.Changes.{blocks_of}
use Rattle.smc_writer.proofs.Running.{ran}
use Rattle.smc_writer.proofs.Progress.{laid_none, laid-all, laid-place, laid-fits, laid_on, progress-room, progress-total, few-blocks, chunk-most}
use Rattle.smc_writer.proofs.changes.Changes.put_runs.Goals as goal

pub loop-k-init : goal.loop-k-init
loop-k-init c = laid_none _ _ _ _ _ _ c.requires

pub slice_bounds-put_run-count : goal.slice_bounds-put_run-count
slice_bounds-put_run-count c = laid-place c.loop-k.invariant (omega arith) c.front-place.ensures

pub slice_bounds-put_run-start : goal.slice_bounds-put_run-start
slice_bounds-put_run-start c =
    let place = laid-place c.loop-k.invariant (omega arith) c.front-place.ensures in
    search rules

pub put_run-run-requires-clause-room : goal.put_run-run-requires-clause-room
put_run-run-requires-clause-room c = laid-fits c.loop-k.invariant (omega arith) c.front-place.ensures

pub overflow_add-at : goal.overflow_add-at
overflow_add-at c = let w = c.put_run-run.ensures.bytes_value in
    omega (arith, chunk-most c.args.self.now, progress-room c.loop-k.invariant.progress (omega arith))

pub overflow_add-k : goal.overflow_add-k
overflow_add-k c = let s = c.args.self.now in
    let w = c.put_run-run.ensures.blocks_value in
    let r = ran s.grid.columns (blocks_of s) s.kept.now s.new.now c.loop-k.k (omega arith) in
    omega (arith, few-blocks s)

pub loop-k-smaller : goal.loop-k-smaller
loop-k-smaller c = let s = c.args.self.now in
    let w = c.put_run-run.ensures.blocks_value in
    let r = ran s.grid.columns (blocks_of s) s.kept.now s.new.now c.loop-k.k (omega arith) in
    omega arith

pub loop-k-preserved : goal.loop-k-preserved
loop-k-preserved c = let run = c.put_run-run.ensures in
    laid_on c.loop-k.invariant (omega arith) c.front-place.ensures run.blocks_value run.bytes_value run.out_after

pub returns-clause-value : goal.returns-clause-value
returns-clause-value c = progress-total c.loop-k.invariant.progress (omega arith)

pub returns-clause-len : goal.returns-clause-len
returns-clause-len c = c.loop-k.invariant.total

pub returns-clause-out_after : goal.returns-clause-out_after
returns-clause-out_after c = laid-all c.loop-k.invariant (omega arith)
