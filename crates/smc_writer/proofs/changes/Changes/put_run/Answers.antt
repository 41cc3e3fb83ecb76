use Rattle.smc_writer.proofs.Running.{bytes-skip, bytes-fill, bytes-single, run-single}
use Rattle.smc_writer.proofs.changes.Changes.put_run.Goals as goal

pub put_counting-bytes-requires : goal.put_counting-bytes-requires
put_counting-bytes-requires c =
    rw (bytes-skip c.args.self.now c.args.k c.if-self-k.true, ← c.run_at-run.ensures) at c.requires.room

pub returns-then-self-k-clause-bytes_value : goal.returns-then-self-k-clause-bytes_value
returns-then-self-k-clause-bytes_value c =
    rw (bytes-skip c.args.self.now c.args.k c.if-self-k.true, ← c.run_at-run.ensures) c.put_counting-bytes.ensures.value

pub returns-then-self-k-clause-out_after : goal.returns-then-self-k-clause-out_after
returns-then-self-k-clause-out_after c =
    rw (bytes-skip c.args.self.now c.args.k c.if-self-k.true, ← c.run_at-run.ensures) c.put_counting-bytes.ensures.out_after

pub put_fill-bytes-requires : goal.put_fill-bytes-requires
put_fill-bytes-requires c =
    let e = bytes-fill c.args.self.now c.args.k c.if-self-k.false c.block_at-rows.ensures c.is_plain.ensures c.if-is_plain.true in
    rw (e, ← c.run_at-run-then-is_plain.ensures, ← c.first_of.ensures) at c.requires.room

pub returns-then-is_plain-clause-bytes_value : goal.returns-then-is_plain-clause-bytes_value
returns-then-is_plain-clause-bytes_value c =
    let e = bytes-fill c.args.self.now c.args.k c.if-self-k.false c.block_at-rows.ensures c.is_plain.ensures c.if-is_plain.true in
    rw (e, ← c.run_at-run-then-is_plain.ensures, ← c.first_of.ensures) c.put_fill-bytes.ensures.value

pub returns-then-is_plain-clause-out_after : goal.returns-then-is_plain-clause-out_after
returns-then-is_plain-clause-out_after c =
    let e = bytes-fill c.args.self.now c.args.k c.if-self-k.false c.block_at-rows.ensures c.is_plain.ensures c.if-is_plain.true in
    rw (e, ← c.run_at-run-then-is_plain.ensures, ← c.first_of.ensures) c.put_fill-bytes.ensures.out_after

pub put_single-bytes-requires : goal.put_single-bytes-requires
put_single-bytes-requires c =
    let e = bytes-single c.args.self.now c.args.k c.if-self-k.false c.block_at-rows.ensures c.is_plain.ensures c.if-is_plain.false in
    rw (e, ← c.pixels_of-px.ensures) at c.requires.room

pub returns-clause-blocks_value : goal.returns-clause-blocks_value
returns-clause-blocks_value c = run-single c.args.self.now c.args.k c.if-self-k.false c.block_at-rows.ensures c.is_plain.ensures c.if-is_plain.false

pub returns-clause-bytes_value : goal.returns-clause-bytes_value
returns-clause-bytes_value c =
    let e = bytes-single c.args.self.now c.args.k c.if-self-k.false c.block_at-rows.ensures c.is_plain.ensures c.if-is_plain.false in
    rw (e, ← c.pixels_of-px.ensures) c.put_single-bytes.ensures.value

pub returns-clause-out_after : goal.returns-clause-out_after
returns-clause-out_after c =
    let e = bytes-single c.args.self.now c.args.k c.if-self-k.false c.block_at-rows.ensures c.is_plain.ensures c.if-is_plain.false in
    rw (e, ← c.pixels_of-px.ensures) c.put_single-bytes.ensures.out_after
