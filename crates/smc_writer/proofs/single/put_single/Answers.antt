use mathlib.Core.Path.{ap, ◌∙◌}
use native.Mathlib.Omega.{arith}
use lib.ListN.{length}
use Rattle.spec.specs.Writing.{entries}
use Rattle.smc_writer.specs.Tables.{bits}
use Rattle.smc_writer.proofs.Singles.{single-whole, single-tabled, holds, all-found, fits, some, room, size-most}
use Rattle.smc_writer.proofs.single.put_single.Goals as goal

pub filled-requires : goal.filled-requires
filled-requires c = some c.of-colours.ensures c.len.ensures c.holding.ensures c.in-Some.is c.told-px

pub put_tabled-requires-clause-fits : goal.put_tabled-requires-clause-fits
put_tabled-requires-clause-fits c = fits c.of-colours.ensures c.len.ensures c.holding.ensures c.in-Some.is

pub put_tabled-requires-clause-stored : goal.put_tabled-requires-clause-stored
put_tabled-requires-clause-stored c = let b = bits c.in-Some.table in
    let h = holds c.of-colours.ensures c.len.ensures c.holding.ensures c.in-Some.is in
    c.filled.ensures b h (omega (arith, size-most c.in-Some.table))
    ∙ ap (entries b) (all-found c.of-colours.ensures c.len.ensures c.holding.ensures c.in-Some.is)

pub put_tabled-requires-clause-room : goal.put_tabled-requires-clause-room
put_tabled-requires-clause-room c = omega (arith, room c.of-colours.ensures c.len.ensures c.holding.ensures c.in-Some.is)

pub put_whole-requires : goal.put_whole-requires
put_whole-requires c = omega (arith, ap length (single-whole c.of-colours.ensures c.len.ensures c.holding.ensures c.in-None.is))

pub returns-in-Some-clause-value : goal.returns-in-Some-clause-value
returns-in-Some-clause-value c = rw (single-tabled c.of-colours.ensures c.len.ensures c.holding.ensures c.in-Some.is) c.put_tabled.ensures.value

pub returns-in-Some-clause-out_after : goal.returns-in-Some-clause-out_after
returns-in-Some-clause-out_after c = rw (single-tabled c.of-colours.ensures c.len.ensures c.holding.ensures c.in-Some.is) c.put_tabled.ensures.out_after

pub returns-in-None-clause-value : goal.returns-in-None-clause-value
returns-in-None-clause-value c = rw (single-whole c.of-colours.ensures c.len.ensures c.holding.ensures c.in-None.is) c.put_whole.ensures.value

pub returns-in-None-clause-out_after : goal.returns-in-None-clause-out_after
returns-in-None-clause-out_after c = rw (single-whole c.of-colours.ensures c.len.ensures c.holding.ensures c.in-None.is) c.put_whole.ensures.out_after
