use Prim.Native.Nat.{◌*◌}
use mathlib.Core.Path.{◌≡◌}
use native.Mathlib.Omega.{arith}
use lib.ListN.{take}
use lib.Seq.{length-take-le}
use Rattle.spec.specs.Writing.{colours, entries}
use Rattle.spec.proofs.Colours.{length-entries}
use Rattle.spec.proofs.Written.{length-tabled}
use Rattle.smc_writer.specs.Tables.{bits}
use Rattle.smc_writer.proofs.Placing.{table-put}
use Rattle.smc_writer.proofs.single.put_tabled.Goals as goal

pub returns-clause-value : goal.returns-clause-value
returns-clause-value c = let t = c.args.table in
    let es = entries (bits t) (colours c.args.px.now) in
    let l = length-entries (bits t) (colours c.args.px.now) c.requires.fits in
    omega (
      arith,
      length-tabled (bits t) es c.args.px.now,
      length-take-le c.size.result c.args.list.now (omega arith),
      length-take-le (2 * c.bits.result) c.flag_bytes-bytes.result (omega arith),
    )

pub returns-clause-out_after : goal.returns-clause-out_after
returns-clause-out_after c = let t = c.args.table in
    let e = c.size.ensures.value in
    let es : take c.size.result c.args.list.now ≡ entries (bits t) (colours c.args.px.now) = rw e c.requires.stored in
    table-put (bits t) _ c.args.px.now c.args.out.now c.opcode.ensures es (rw c.bits.ensures.value c.flag_bytes-bytes.ensures)
    (omega (arith, length-take-le c.size.result c.args.list.now (omega arith), length-take-le (2 * c.bits.result) c.flag_bytes-bytes.result (omega arith)))
    c.put_bytes.ensures.value c.put_bytes-2.ensures.value
