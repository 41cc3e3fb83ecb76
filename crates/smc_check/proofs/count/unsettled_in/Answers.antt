use Prim.Native.Nat.{◌+◌}
use mathlib.Core.Path.{◌≡◌, ◌∙◌}
use native.Mathlib.Omega.{arith}
use lib.ListN.{get_or}
use Rattle.smc_check.specs.Tallying.{is_open}
use Rattle.spec.proofs.Maps.{unsettled-more, unsettled-few}
use Rattle.smc_check.proofs.Tallies.{byte-bit, bit-open}
use Rattle.smc_check.proofs.count.unsettled_in.Goals as goal

pub overflow_add-n : goal.overflow_add-n
overflow_add-n c = let m = c.args.entries.now in
    let i = c.loop-x.x-index in
    let one : c.from-n.result ≡ is_open (get_or m i 0) = c.from-n.ensures ∙ byte-bit _ ∙ bit-open _ in
    let few = unsettled-few m (i + 1) in
    let more = unsettled-more m i (omega arith) in
    omega (arith, c.loop-x.invariant)

pub loop-x-preserved : goal.loop-x-preserved
loop-x-preserved c = let m = c.args.entries.now in
    let i = c.loop-x.x-index in
    let one : c.from-n.result ≡ is_open (get_or m i 0) = c.from-n.ensures ∙ byte-bit _ ∙ bit-open _ in
    let more = unsettled-more m i (omega arith) in
    omega (arith, c.loop-x.invariant)
