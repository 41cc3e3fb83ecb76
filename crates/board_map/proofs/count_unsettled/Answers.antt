use mathlib.Core.Path.{sym, ◌∙◌}
use Rattle.spec.proofs.Maps.{count-made, count-refused}
use Rattle.spec.proofs.Refusals.{refused-not-ok}
use Rattle.board_map.proofs.count_unsettled.Goals as goal

pub returns-in-Err : goal.returns-in-Err
returns-in-Err c = let e = c.in-Err.ensures in
    rw (count-refused c.args.size c.args.map.now (λ o. refused-not-ok _ (e ∙ o)), c.from.ensures, e)

pub returns : goal.returns
returns c = rw (count-made c.args.size c.args.map.now (sym c.in_default.ensures), c.accepted.ensures, c.unsettled_entries.ensures)
