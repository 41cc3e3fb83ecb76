use mathlib.Core.Path.{◌∙◌}
use native.Mathlib.Omega.{arith}
use Rattle.smc_check.proofs.Leads.{body-by-bytes, count-by-bytes}
use Rattle.smc_check.proofs.heads.lead_at.Goals as goal

pub overflow_add-at : goal.overflow_add-at
overflow_add-at c = let a = c.args in
    let e = body-by-bytes a.s.now a.at c.from-opcode.result c.from-opcode.ensures _ c.count_bytes-bytes.ensures in
    omega arith

pub bounds-s-at-2 : goal.bounds-s-at-2
bounds-s-at-2 c = let a = c.args in
    let e = body-by-bytes a.s.now a.at c.from-opcode.result c.from-opcode.ensures _ c.count_bytes-bytes.ensures in
    omega arith

pub overflow_add-result-2 : goal.overflow_add-result-2
overflow_add-result-2 c = let a = c.args in
    let e = body-by-bytes a.s.now a.at c.from-opcode.result c.from-opcode.ensures _ c.count_bytes-bytes.ensures in
    omega arith

pub returns : goal.returns
returns c = let a = c.args in
    let o = c.from-opcode in
    let b = c.count_bytes-bytes in
    record {
      upper = rw o.ensures;
      count = c.count_of.ensures ∙ count-by-bytes a.s.now a.at o.result o.ensures b.result b.ensures _ c.from-next.ensures;
      body = body-by-bytes a.s.now a.at o.result o.ensures b.result b.ensures;
    }
