use mathlib.Core.Path.{◌∙◌}
use Rattle.smc_writer.proofs.RowNumbers.{counted-below, counted-packed}
use Rattle.smc_writer.proofs.flags.flag_bytes.Goals as goal

pub pack-requires : goal.pack-requires
pack-requires c = counted-below c.args.table c.args.px.now c.told-px c.requires.fits c.requires.stored
    c.row_number-a.ensures c.row_number-b.ensures c.row_number-c.ensures c.row_number-d.ensures

pub returns : goal.returns
returns c = c.pack.ensures
    ∙ counted-packed c.args.table c.args.px.now c.told-px c.requires.fits c.requires.stored
    c.row_number-a.ensures c.row_number-b.ensures c.row_number-c.ensures c.row_number-d.ensures
