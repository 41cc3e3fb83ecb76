-- Each step goes on behind the one before it, by a byte at least: so the walk ends, and the chunk's number fits. Assumes nothing.
use Rattle.std.proofs.Common.{length, ◌-◌, ◌≤◌, ◌+◌}
use Rattle.board.proofs.print_chunks.Given as goal

abbrev pub invariant-loop-step : goal.invariant-loop-step
invariant-loop-step g l = l.chunk ≤ l.at + 1

abbrev pub decreases-loop-step : goal.decreases-loop-step
decreases-loop-step g l = length l.feed - l.at
