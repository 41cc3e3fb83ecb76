use native.Mathlib.Numerals.{add-one}
use native.Mathlib.Omega.{arith}
use lib.ListN.{length}
use lib.Seq.{take-length, take-suc-set}
use mathlib.Core.Path.{◌≡◌, sym, ◌∙◌}
use Prim.Native.Nat.{◌<◌}
use Rattle.spec.proofs.Lists.{from-zero-more}
use Rattle.board_map.proofs.number_entries.Goals as goal

pub loop-k-preserved : goal.loop-k-preserved
loop-k-preserved c = let h : c.loop-k.k < length c.loop-k.map = omega arith in
    rw (add-one, take-suc-set, from-zero-more) (cc)

pub returns : goal.returns
returns c = let all : c.loop-k.k ≡ length c.loop-k.map = omega arith in
    let same : length c.args.map.now ≡ c.loop-k.k = omega arith in
    sym (take-length c.loop-k.map) ∙ rw (← all, same) c.loop-k.invariant
