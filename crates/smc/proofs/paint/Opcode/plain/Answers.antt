use Rattle.std.proofs.Common.{ℕ, List, sym, refl, ap, ◌∙◌, one-mul, arith}
use Rattle.smc.specs.Runs.{puts}
use Rattle.spec.specs.Chunks.{skip, fill, copy}
use Rattle.smc.proofs.Making.{ran-skip, ran-copy, ran-fill}
use Rattle.smc.proofs.Opcodes.{facts-two, kind-two}
use Rattle.smc.proofs.paint.Opcode.plain.Goals as goal

pub returns-in-6-to-max : goal.returns-in-6-to-max
returns-in-6-to-max c =
    let o = c.args.self.now in
    let el = c.lead_at-lead.ensures in
    ran-fill o.grid.columns o.grid.lines c.requires.lent.canvas.wide o.s.now o.at o.k _ _ o.room.within _ el.count _ el.body
    (kind-two o.room c.lead_at-lead.ensures 6 fill (omega arith)
    (omega (arith, c.lead_at-lead.ensures.upper, c.requires.at_bound)) refl refl) _ _
    (c.put_run.ensures.pic_after
    ∙ ap (λ (px : List ℕ). puts o.grid.columns o.k (λ i. px) c.lead_at-lead.result.count c.args.pic.now) c.of_colour.ensures)
    c.put_run.ensures.map_after

pub returns-in-4-to-5 : goal.returns-in-4-to-5
returns-in-4-to-5 c =
    let o = c.args.self.now in
    let el = c.lead_at-lead.ensures in
    ran-copy o.grid.columns o.grid.lines c.requires.lent.canvas.wide o.s.now o.at o.k _ _ o.room.within _ el.count _ el.body 2 (omega arith)
    (kind-two o.room c.lead_at-lead.ensures 4 (copy 2) (omega arith)
    (omega arith) refl refl)
    (omega (
      arith,
      (facts-two o.room c.lead_at-lead.ensures 4 (copy 2) (omega arith)
          (omega arith) refl refl).before,
    )) _ refl _ _ c.copy_run-in-4-to-5.ensures.pic_after
    c.copy_run-in-4-to-5.ensures.map_after

pub returns-in-2-to-3 : goal.returns-in-2-to-3
returns-in-2-to-3 c =
    let o = c.args.self.now in
    let el = c.lead_at-lead.ensures in
    ran-copy o.grid.columns o.grid.lines c.requires.lent.canvas.wide o.s.now o.at o.k _ _ o.room.within _ el.count _ el.body 1 (omega arith)
    (kind-two o.room c.lead_at-lead.ensures 2 (copy 1) (omega arith)
    (omega arith) refl refl)
    (omega (
      arith,
      (facts-two o.room c.lead_at-lead.ensures 2 (copy 1) (omega arith)
          (omega arith) refl refl).before,
    )) _ (sym (one-mul _)) _ _ c.copy_run.ensures.pic_after
    c.copy_run.ensures.map_after

pub returns-in_default : goal.returns-in_default
returns-in_default c =
    let o = c.args.self.now in
    let el = c.lead_at-lead.ensures in
    ran-skip o.grid.columns o.grid.lines c.requires.lent.canvas.wide o.s.now o.at o.k _ _ o.room.within _ el.count _ el.body
    (kind-two o.room c.lead_at-lead.ensures 0 skip (omega arith) (omega arith) refl refl)
