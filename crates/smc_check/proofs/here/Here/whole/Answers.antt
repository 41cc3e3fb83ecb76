use mathlib.Core.Path.{refl, sym, ◌∙◌}
use native.Mathlib.Omega.{arith}
use Rattle.smc_check.proofs.Ways.{
  stands-room,
  stands-body,
  stands-once,
  upper-small,
  blocks-small,
  blocks-even,
  way_unknown,
  way-none-before,
  way-past,
  way-empty,
  way-runs,
  found-bad,
}
use Rattle.smc_check.proofs.here.Here.whole.Goals as goal

pub lead_at-lead-requires-clause-at_in_bounds_2 : goal.lead_at-lead-requires-clause-at_in_bounds_2
lead_at-lead-requires-clause-at_in_bounds_2 c = stands-body c.requires (c.args.self.bytes _)

pub overflow_mul-m : goal.overflow_mul-m
overflow_mul-m c =
    omega (
      arith,
      blocks-small c.lead_at-lead.ensures (c.args.self.bytes _) (c.args.self.bytes _) (c.from.ensures ∙ c.row_of-row.ensures.times),
    )

pub returns-then-lead-eq15 : goal.returns-then-lead-eq15
returns-then-lead-eq15 c =
    found-bad _ _ _ _ _ _ (way_unknown _ _ _ _ _ (omega (arith, c.lead_at-lead.ensures.upper, c.if-lead-eq15.true)))

pub returns-then-self-from : goal.returns-then-self-from
returns-then-self-from c = let el = c.lead_at-lead.ensures in
    let byte = c.args.self.bytes c.args.self.at in
    let known = upper-small el byte in
    found-bad _ _ _ _ _ _
    (way-none-before _ _ _ _ _ _ el (omega (arith, known, c.if-lead-eq15.false)) (rw el.body (stands-body c.requires byte)) _
    (c.from-2.ensures ∙ c.row_of-row.ensures.reach) (omega arith))

pub returns-then-self-m : goal.returns-then-self-m
returns-then-self-m c = let el = c.lead_at-lead.ensures in
    let byte = c.args.self.bytes c.args.self.at in
    let known = upper-small el byte in
    found-bad _ _ _ _ _ _
    (way-past _ _ _ _ _ _ el (omega (arith, known, c.if-lead-eq15.false)) (rw el.body (stands-body c.requires byte)) _
    (c.from-2.ensures ∙ c.row_of-row.ensures.reach) (omega arith) _ (c.from.ensures ∙ c.row_of-row.ensures.times) (omega arith))

pub is_missing-requires-clause-room : goal.is_missing-requires-clause-room
is_missing-requires-clause-room c = stands-once c.requires (c.args.self.bytes _) c.lead_at-lead.ensures

pub returns-then-is_missing : goal.returns-then-is_missing
returns-then-is_missing c = let el = c.lead_at-lead.ensures in
    let byte = c.args.self.bytes c.args.self.at in
    let known = upper-small el byte in
    found-bad _ _ _ _ _ _
    (way-empty _ _ _ _ _ _ el (omega (arith, known, c.if-lead-eq15.false)) (rw el.body (stands-body c.requires byte)) _
    (c.from-2.ensures ∙ c.row_of-row.ensures.reach) (omega arith) _ (c.from.ensures ∙ c.row_of-row.ensures.times) (omega arith)
    (stands-once c.requires byte el) (sym c.is_missing.ensures ∙ c.if-is_missing.true))

pub invariant_of-result-clause-some : goal.invariant_of-result-clause-some
invariant_of-result-clause-some c = let el = c.lead_at-lead.ensures in
    (blocks-even el (upper-small el (c.args.self.bytes _)) _ (c.from.ensures ∙ c.row_of-row.ensures.times)).0

pub invariant_of-result-clause-even : goal.invariant_of-result-clause-even
invariant_of-result-clause-even c = let el = c.lead_at-lead.ensures in
    (blocks-even el (upper-small el (c.args.self.bytes _)) _ (c.from.ensures ∙ c.row_of-row.ensures.times)).1

pub returns : goal.returns
returns c = let el = c.lead_at-lead.ensures in
    let byte = c.args.self.bytes c.args.self.at in
    let known = upper-small el byte in
    way-runs _ _ _ _ _ _ el (omega (arith, known, c.if-lead-eq15.false)) (rw el.body (stands-body c.requires byte)) _
    (c.from-2.ensures ∙ c.row_of-row.ensures.reach) (omega arith) _ (c.from.ensures ∙ c.row_of-row.ensures.times) (omega arith)
    (stands-once c.requires byte el) (sym c.is_missing.ensures ∙ c.if-is_missing.false) byte
    (stands-room c.requires byte) _ refl refl refl (rw c.requires.is)
