use Rattle.smc_check.proofs.Behind.{
  beside-begins,
  beside-made,
  told-runs,
  told-bad,
  goes-on-beside,
  refused-bad,
  refused-remain,
  refused-follow,
  concludes-refused,
  concludes-accepted,
}
use mathlib.Core.Path.{refl, sym, ◌∙◌}
use native.Mathlib.Omega.{arith}
use Rattle.smc_check.proofs.check.check_opcodes.Goals as goal

pub loop-k-init : goal.loop-k-init
loop-k-init g c = (
  refl,
  c.requires.fits,
  refl,
  beside-begins c.args.blocks c.args.s.now (g.A.Along.tallies c.args.along) c.requires.begun c.requires.in_bounds c.requires.s_value,
)

pub returns-then-len-at : goal.returns-then-len-at
returns-then-len-at g c = let a = c.args in
    rw c.refused.ensures
    (concludes-refused _ a.blocks a.s.now (refused-remain a.blocks a.s.now _ _ _ c.loop-k.invariant.3.behind (omega arith) (omega arith)))

pub returns-in-Err : goal.returns-in-Err
returns-in-Err g c = let a = c.args in
    rw c.refused-in-Err.ensures
    (concludes-refused _ a.blocks a.s.now
    (refused-bad a.blocks a.s.now _ _ _ c.loop-k.invariant.3.behind (omega arith) (omega arith) _
    (told-bad a.blocks a.s.now _ _ _ _ _ c.in-Err.is c.opcode.ensures)))

pub past-along-requires-clause-tallied : goal.past-along-requires-clause-tallied
past-along-requires-clause-tallied g c = let a = c.args in
    let t = told-runs a.blocks a.s.now _ _ _ _ _ c.in-Ok.is c.opcode.ensures in
    rw t.0 (beside-made c.loop-k.invariant.3)

pub past-along-requires-clause-fits : goal.past-along-requires-clause-fits
past-along-requires-clause-fits g c = let a = c.args in
    let t = told-runs a.blocks a.s.now _ _ _ _ _ c.in-Ok.is c.opcode.ensures in
    omega (arith, t.0, t.1.room, c.loop-k.invariant.1)

pub overflow_add-k : goal.overflow_add-k
overflow_add-k g c = let a = c.args in
    let t = told-runs a.blocks a.s.now _ _ _ _ _ c.in-Ok.is c.opcode.ensures in
    omega (arith, t.1.room)

pub loop-k-smaller : goal.loop-k-smaller
loop-k-smaller g c = let a = c.args in
    let t = told-runs a.blocks a.s.now _ _ _ _ _ c.in-Ok.is c.opcode.ensures in
    omega (arith, t.1.after, t.1.inside)

pub loop-k-preserved : goal.loop-k-preserved
loop-k-preserved g c = let a = c.args in
    let i = c.loop-k.invariant in
    let t = told-runs a.blocks a.s.now _ _ _ _ _ c.in-Ok.is c.opcode.ensures in (
      refl,
      rw c.past-along.ensures.stays.1 i.1,
      c.past-along.ensures.stays.0 ∙ i.2,
      goes-on-beside a.blocks a.s.now _ _ _ i.3.behind (omega arith) (omega arith) _ _ _ t.1 _ _ i.3.tally (rw t.0 at c.past-along.ensures.advances),
    )

pub returns-then-is_padding : goal.returns-then-is_padding
returns-then-is_padding g c = let a = c.args in
    let i = c.loop-k.invariant in
    concludes-accepted _ a.blocks a.s.now _ _ _ _ refl (record { behind = i.3.behind; tally = (i.2, i.3.tally) }) (omega arith)
    (sym c.is_padding.ensures ∙ c.if-is_padding.true)

pub returns : goal.returns
returns g c = let a = c.args in
    rw c.refused-2.ensures
    (concludes-refused _ a.blocks a.s.now
    (refused-follow a.blocks a.s.now _ _ _ c.loop-k.invariant.3.behind (omega arith) (sym c.is_padding.ensures ∙ c.if-is_padding.false)))
