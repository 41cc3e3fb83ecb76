use Rattle.smc.proofs.Making.{ran-whole}
use Rattle.smc.proofs.Opcodes.{is_whole, kind-of}
use Rattle.smc.proofs.paint.Opcode.whole.Goals as goal

pub returns : goal.returns
returns c =
    let o = c.args.self.now in
    let el = c.lead_at-lead.ensures in
    ran-whole o.grid.columns o.grid.lines c.requires.lent.canvas.wide o.s.now o.at o.k _ _ o.room.within _ el.count _ el.body
    (kind-of o.room el (is_whole o.room el c.requires.bound)) _ _ c.put_run.ensures.pic_after
    c.put_run.ensures.map_after
