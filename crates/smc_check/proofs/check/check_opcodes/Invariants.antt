use lib.ListN.{length}
use mathlib.Core.Path.{◌≡◌}
use Prim.Native.Nat.{◌-◌, ◌≤◌}
use Rattle.smc_check.proofs.Behind.{Beside}
use Rattle.smc_check.proofs.check.check_opcodes.Given as goal

abbrev pub invariant-loop-k : goal.invariant-loop-k
invariant-loop-k g l =
    (l.len ≡ length l.s) × (l.blocks ≤ g.A.Along.room l.along) × (g.A.Along.map l.along ≡ g.A.Along.map l.fn.along)
    × Beside l.blocks l.s l.at l.k l.f (g.A.Along.tallies l.along)

abbrev pub decreases-loop-k : goal.decreases-loop-k
decreases-loop-k g l = length l.s - l.at
