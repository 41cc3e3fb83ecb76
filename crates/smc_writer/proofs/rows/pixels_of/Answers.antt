use mathlib.Core.Path.{◌∙◌}
use Rattle.smc_writer.proofs.Sameness.{rows-put}
use Rattle.smc_writer.proofs.rows.pixels_of.Goals as goal

pub returns : goal.returns
returns c = rows-put c.args.x (c.copy_from_slice.ensures.after ∙ c.to_le_bytes.ensures) (c.copy_from_slice-2.ensures.after ∙ c.to_le_bytes-2.ensures)
    (c.copy_from_slice-3.ensures.after ∙ c.to_le_bytes-3.ensures) (c.copy_from_slice-4.ensures.after ∙ c.to_le_bytes-4.ensures)
