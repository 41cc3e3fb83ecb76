use Rattle.std.proofs.Common.{◌∙◌, arith}
use Rattle.smc.proofs.Flagged.{quad-row}
use Rattle.smc.proofs.flags.quad_row.Goals as goal

pub returns : goal.returns
returns c = let a = c.args in
    c.word.ensures ∙ rw c.from-x.ensures (quad-row a.t.now a.f (omega arith))
