use Prim.Native.Nat.{◌<◌}
use native.Mathlib.Omega.{arith}
use lib.ListN.{length}
use borrow.Author.Rules.{rules}
use Rattle.smc_writer.specs.Put.{opcode_of}
use Rattle.smc_writer.proofs.Placing.{length-short, length-long, short-put, long-put}
use Rattle.smc_writer.proofs.put.put_counting.Goals as goal

pub bounds-out-0 : goal.bounds-out-0
bounds-out-0 c = omega (arith, c.requires, length-short (opcode_of c.args.of) c.args.run.blocks (omega arith))

pub returns-then-more-lt16-clause-value : goal.returns-then-more-lt16-clause-value
returns-then-more-lt16-clause-value c = length-short (opcode_of c.args.of) c.args.run.blocks (omega arith)

pub returns-then-more-lt16-clause-out_after : goal.returns-then-more-lt16-clause-out_after
returns-then-more-lt16-clause-out_after c = let l = length-short (opcode_of c.args.of) c.args.run.blocks (omega arith) in
    short-put _ _ c.opcode-u.ensures.value c.args.out.now (omega arith) (omega (arith, c.requires))

pub bounds-out-0-2 : goal.bounds-out-0-2
bounds-out-0-2 c = omega (arith, c.requires, length-long (opcode_of c.args.of) c.args.run.blocks (omega arith))

pub bounds-out-1 : goal.bounds-out-1
bounds-out-1 c = let l = length-long (opcode_of c.args.of) c.args.run.blocks (omega arith) in
    let h : 1 < length c.args.out.now = omega (arith, c.requires) in
    search rules

pub returns-clause-value : goal.returns-clause-value
returns-clause-value c = length-long (opcode_of c.args.of) c.args.run.blocks (omega arith)

pub returns-clause-out_after : goal.returns-clause-out_after
returns-clause-out_after c = let l = length-long (opcode_of c.args.of) c.args.run.blocks (omega arith) in
    long-put _ _ c.opcode-u.ensures.value c.args.out.now (omega arith) (omega (arith, c.requires))
