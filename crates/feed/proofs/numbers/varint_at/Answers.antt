use Prim.Native.Nat.{◌+◌, ◌-◌}
use mathlib.Core.Path.{◌≡◌, sym, ap, ◌∙◌}
use native.Mathlib.Omega.{arith}
use Rattle.spec.specs.Feeds.{varint_says}
use Rattle.feed.proofs.Grouping.{grouping-none, grouping-cut, grouping-last, grouping-more, grouping-end}
use Rattle.feed.proofs.numbers.varint_at.Goals as goal

pub loop-i-init : goal.loop-i-init
loop-i-init c = let here : c.args.at + 0 ≡ c.args.at = omega arith in
    (rw here (grouping-none _ _), omega arith)

pub returns-then-place-feed : goal.returns-then-place-feed
returns-then-place-feed c = ap varint_says (sym (grouping-cut c.loop-i.invariant.0 (omega arith) (omega arith)))

pub returns-then-group-lt128 : goal.returns-then-group-lt128
returns-then-group-lt128 c = let inv = c.loop-i.invariant.0 in
    c.last_group.ensures ∙ rw c.from-group.ensures (ap varint_says (sym (grouping-last inv (omega arith) (omega arith) (omega arith))))

pub loop-i-preserved : goal.loop-i-preserved
loop-i-preserved c = let less : 4 - (c.loop-i.i + 1) ≡ 4 - c.loop-i.i - 1 = omega arith in
    let next : c.args.at + (c.loop-i.i + 1) ≡ c.args.at + c.loop-i.i + 1 = omega arith in
    let on = grouping-more c.loop-i.invariant.0 (omega arith) (omega arith) (omega arith)
    (omega (arith, c.type_inv.feed (c.args.at + c.loop-i.i))) in
    (rw (less, next, c.from-group.ensures) on, omega arith)

pub returns : goal.returns
returns c = ap varint_says (sym (grouping-end c.loop-i.invariant.0 (omega arith)))
