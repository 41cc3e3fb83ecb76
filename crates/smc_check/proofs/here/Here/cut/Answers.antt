use mathlib.Core.Path.{sym, ◌∙◌}
use native.Mathlib.Omega.{arith}
use Rattle.smc_check.proofs.Leads.{body-by-bytes}
use Rattle.smc_check.proofs.Ways.{ends-known, blocks-small, way-cut-count, way-none-before, way-past, way-cut-once, way-empty, way-cut}
use Rattle.smc_check.proofs.here.Here.cut.Goals as goal

pub returns-then-len-self : goal.returns-then-len-self
returns-then-len-self c = let a = c.args.self in
    let e = body-by-bytes a.s.now a.at _ c.from.ensures _ c.count_bytes.ensures in
    way-cut-count _ _ _ _ _ (ends-known c.requires (a.bytes _)) (omega arith)

pub lead_at-lead-requires-clause-at_in_bounds_2 : goal.lead_at-lead-requires-clause-at_in_bounds_2
lead_at-lead-requires-clause-at_in_bounds_2 c = let a = c.args.self in
    let e = body-by-bytes a.s.now a.at _ c.from.ensures _ c.count_bytes.ensures in
    omega arith

pub returns-then-self-from : goal.returns-then-self-from
returns-then-self-from c = let a = c.args.self in
    let el = c.lead_at-lead.ensures in
    let e = body-by-bytes a.s.now a.at _ c.from.ensures _ c.count_bytes.ensures in
    way-none-before _ _ _ _ _ _ el (rw el.upper (ends-known c.requires (a.bytes _))) (omega (arith, el.body)) _
    (c.from-2.ensures ∙ c.row_of-row.ensures.reach) (omega arith)

pub overflow_mul-from : goal.overflow_mul-from
overflow_mul-from c =
    omega (
      arith,
      blocks-small c.lead_at-lead.ensures (c.args.self.bytes _) (c.args.self.bytes _) (c.from-3.ensures ∙ c.row_of-row.ensures.times),
    )

pub returns-then-self-from-2 : goal.returns-then-self-from-2
returns-then-self-from-2 c = let a = c.args.self in
    let el = c.lead_at-lead.ensures in
    let e = body-by-bytes a.s.now a.at _ c.from.ensures _ c.count_bytes.ensures in
    way-past _ _ _ _ _ _ el (rw el.upper (ends-known c.requires (a.bytes _))) (omega (arith, el.body)) _
    (c.from-2.ensures ∙ c.row_of-row.ensures.reach) (omega arith) _ (c.from-3.ensures ∙ c.row_of-row.ensures.times) (omega arith)

pub overflow_sub-len-2 : goal.overflow_sub-len-2
overflow_sub-len-2 c = let a = c.args.self in
    let e = body-by-bytes a.s.now a.at _ c.from.ensures _ c.count_bytes.ensures in
    omega (arith, c.lead_at-lead.ensures.body)

pub returns-then-len-lead : goal.returns-then-len-lead
returns-then-len-lead c = let a = c.args.self in
    let el = c.lead_at-lead.ensures in
    let e = body-by-bytes a.s.now a.at _ c.from.ensures _ c.count_bytes.ensures in
    let o = c.from-4.ensures ∙ c.row_of-row.ensures.once in
    way-cut-once _ _ _ _ _ _ el (rw el.upper (ends-known c.requires (a.bytes _))) (omega (arith, el.body)) _
    (c.from-2.ensures ∙ c.row_of-row.ensures.reach) (omega arith) _ (c.from-3.ensures ∙ c.row_of-row.ensures.times) (omega arith)
    (omega arith)

pub is_missing-requires-clause-room : goal.is_missing-requires-clause-room
is_missing-requires-clause-room c = let a = c.args.self in
    let e = body-by-bytes a.s.now a.at _ c.from.ensures _ c.count_bytes.ensures in
    let o = c.from-4.ensures ∙ c.row_of-row.ensures.once in
    omega (arith, c.lead_at-lead.ensures.body)

pub returns-then-is_missing : goal.returns-then-is_missing
returns-then-is_missing c = let a = c.args.self in
    let el = c.lead_at-lead.ensures in
    let e = body-by-bytes a.s.now a.at _ c.from.ensures _ c.count_bytes.ensures in
    let o = c.from-4.ensures ∙ c.row_of-row.ensures.once in
    way-empty _ _ _ _ _ _ el (rw el.upper (ends-known c.requires (a.bytes _))) (omega (arith, el.body)) _
    (c.from-2.ensures ∙ c.row_of-row.ensures.reach) (omega arith) _ (c.from-3.ensures ∙ c.row_of-row.ensures.times) (omega arith)
    (omega (arith, el.body)) (sym c.is_missing.ensures ∙ c.if-is_missing.true)

pub returns : goal.returns
returns c = let a = c.args.self in
    let el = c.lead_at-lead.ensures in
    let e = body-by-bytes a.s.now a.at _ c.from.ensures _ c.count_bytes.ensures in
    let o = c.from-4.ensures ∙ c.row_of-row.ensures.once in
    way-cut _ _ _ _ _ _ el (rw el.upper (ends-known c.requires (a.bytes _))) (omega (arith, el.body)) _
    (c.from-2.ensures ∙ c.row_of-row.ensures.reach) (omega arith) _ (c.from-3.ensures ∙ c.row_of-row.ensures.times) (omega arith)
    (omega (arith, el.body)) (sym c.is_missing.ensures ∙ c.if-is_missing.false) (a.bytes _) c.requires.short
