use mathlib.Core.Path.{◌∙◌}
use native.Mathlib.Omega.{arith}
use Rattle.smc_writer.proofs.RowNumbers.{number-four, four-pixels, one-small, two-small}
use Rattle.smc_writer.proofs.flags.row_number.Goals as goal

pub overflow_add-result : goal.overflow_add-result
overflow_add-result c = let h = c.requires.few in
    let low = one-small h c.entry_of-3.ensures.upper_bound in
    let high = two-small h c.entry_of.ensures.upper_bound c.entry_of-2.ensures.upper_bound in
    omega arith

pub returns : goal.returns
returns c = number-four _ _ _ _ _
    ∙ rw (
      four-pixels c.args.px.now c.args.at (omega arith),
      c.entry_of.ensures.value,
      c.entry_of-2.ensures.value,
      c.entry_of-3.ensures.value,
      c.entry_of-4.ensures.value,
    )
