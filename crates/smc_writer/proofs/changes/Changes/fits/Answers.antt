use mathlib.Core.Path.{sym}
use native.Mathlib.Omega.{arith}
use lib.ListN.{length}
use borrow.Author.Tests.{le-leb}
use Rattle.spec.specs.Writing.{encode}
use Rattle.spec.proofs.Written.{length-encode}
use Rattle.smc_writer.specs.Changes.{origins_of}
use Rattle.smc_writer.proofs.Progress.{chunk-most}
use Rattle.smc_writer.proofs.Emitting.{origins-most}
use Rattle.smc_writer.proofs.changes.Changes.fits.Goals as goal

pub returns-then-blocks-room : goal.returns-then-blocks-room
returns-then-blocks-room c = let s = c.args.self.now in
    sym (le-leb (length (encode (origins_of s))) c.args.room (omega (arith, origins-most s)))

pub overflow_add-result : goal.overflow_add-result
overflow_add-result c = omega (arith, chunk-most c.args.self.now)

pub returns : goal.returns
returns c = rw (length-encode (origins_of c.args.self.now), ← c.put_runs.ensures.value)
