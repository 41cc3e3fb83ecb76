use Prim.Native.Nat.{◌+◌}
use mathlib.Core.Path.{◌≡◌, refl, ◌∙◌}
use mathlib.Core.Bool.{Bool, true, false, not}
use native.Mathlib.Omega.{arith}
use mir.Val.{bool_byte}
use lib.Dec.{eqb}
use lib.ListN.{get_or}
use Rattle.spec.specs.Basics.{if}
use Rattle.spec.specs.Maps.{settled}
use Rattle.spec.proofs.Maps.{unsettled-more, unsettled-few}
use Rattle.board_map.proofs.unsettled_entries.Goals as goal

byte-open : (t : Bool) → bool_byte (not t) ≡ if t 0 1
unfolding if
byte-open true = refl
byte-open false = refl

pub overflow_add-n : goal.overflow_add-n
overflow_add-n c = let m = c.args.map.now in
    let i = c.loop-entry.entry-index in
    let one : c.from-n.result ≡ if (eqb (get_or m i 0) settled) 0 1 = c.from-n.ensures ∙ byte-open _ in
    let few = unsettled-few m (i + 1) in
    let more = unsettled-more m i (omega arith) in
    omega (arith, c.loop-entry.invariant)

pub loop-entry-preserved : goal.loop-entry-preserved
loop-entry-preserved c = let m = c.args.map.now in
    let i = c.loop-entry.entry-index in
    let one : c.from-n.result ≡ if (eqb (get_or m i 0) settled) 0 1 = c.from-n.ensures ∙ byte-open _ in
    let more = unsettled-more m i (omega arith) in
    omega (arith, c.loop-entry.invariant)
