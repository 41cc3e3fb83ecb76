use Rattle.smc_check.proofs.Filling.{naming-bit, missing-named, missing-none}
use mathlib.Core.Path.{sym, ◌∙◌}
use native.Mathlib.Omega.{arith}
use borrow.Author.Tests.{eq-eqb, ne_eqb}
use Rattle.smc_check.proofs.here.Here.is_missing.Goals as goal

pub returns-then-lead-eq1 : goal.returns-then-lead-eq1
returns-then-lead-eq1 c = let a = c.args in
    let t = sym (naming-bit a.lead.upper (omega arith)) ∙ eq-eqb _ _ c.if-lead-eq1.true in
    rw c.from.ensures (sym (missing-named a.self.f.now a.lead.upper _ (a.self.bytes a.lead.body) t))

pub returns : goal.returns
returns c = let a = c.args in
    let t = sym (naming-bit a.lead.upper (omega arith)) ∙ ne_eqb _ _ c.if-lead-eq1.false in
    sym (missing-none a.lead.upper (omega arith) _ _ t)
