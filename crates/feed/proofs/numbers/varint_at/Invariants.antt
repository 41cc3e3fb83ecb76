use Prim.Native.Nat.{◌+◌, ◌-◌, ◌<◌}
use Rattle.feed.proofs.Grouping.{Grouping}
use Rattle.feed.proofs.numbers.varint_at.Given as goal

-- the place fits in 64 bits: the first is given, and the feed has a byte before each later one
abbrev pub invariant-loop-i : goal.invariant-loop-i
invariant-loop-i l = Grouping l.feed l.at (4 - l.i) l.scale l.sum (l.at + l.i) × (l.at + l.i < 18446744073709551616)
