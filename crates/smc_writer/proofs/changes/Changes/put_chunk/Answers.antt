use mathlib.Core.Path.{refl}
use native.Mathlib.Omega.{arith}
use Rattle.spec.proofs.Written.{length-encode}
use Rattle.smc_writer.specs.Changes.{origins_of}
use Rattle.smc_writer.proofs.Progress.{chunk-most}
use Rattle.smc_writer.proofs.Emitting.{opcodes-fit, chunk-put}
use Rattle.smc_writer.proofs.changes.Changes.put_chunk.Goals as goal

pub put_runs-length-requires : goal.put_runs-length-requires
put_runs-length-requires c = opcodes-fit (origins_of c.args.self.now) c.args.out.now c.requires

pub overflow_cast-length : goal.overflow_cast-length
overflow_cast-length c = let e = c.put_runs-length.ensures.value in
    omega (arith, chunk-most c.args.self.now)

pub returns-clause-value : goal.returns-clause-value
returns-clause-value c = let e = c.put_runs-length.ensures.value in
    omega (arith, length-encode (origins_of c.args.self.now))

pub returns-clause-out_after : goal.returns-clause-out_after
returns-clause-out_after c = let run = c.put_runs-length.ensures in
    chunk-put (origins_of c.args.self.now) c.args.out.now c.requires (run.out_after refl) run.value
    (rw c.to_be_bytes-bytes.ensures at c.copy_from_slice.ensures.after)
