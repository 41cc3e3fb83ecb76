use mathlib.Core.Path.{sym, ap, ◌∙◌}
use native.Mathlib.Omega.{arith}
use Rattle.spec.specs.Writing.{Wrote}
use Rattle.spec.proofs.Limits.{blocks-most}
use Rattle.smc_writer.proofs.Emitting.{write-refused, size-allowed, old-exact, new-exact, write-emits}
use Rattle.smc_writer.proofs.write_chunk.Goals as goal

pub returns-in-Err-clause-value : goal.returns-in-Err-clause-value
returns-in-Err-clause-value c = let a = c.args in
    c.from.ensures ∙ sym (ap (λ (x : Wrote). x.answer) (write-refused a.size a.old.now a.new.now a.out.now c.in-Err.why c.in-Err.ensures))

pub returns-in-Err-clause-out_after : goal.returns-in-Err-clause-out_after
returns-in-Err-clause-out_after c = let a = c.args in
    sym (ap (λ (x : Wrote). x.output) (write-refused a.size a.old.now a.new.now a.out.now c.in-Err.why c.in-Err.ensures))

pub of-grid-requires : goal.of-grid-requires
of-grid-requires c = let a = c.args in size-allowed a.size a.old.now a.new.now a.out.now c.in_default.ensures

pub flag_kept-requires-clause-old_exact : goal.flag_kept-requires-clause-old_exact
flag_kept-requires-clause-old_exact c = let a = c.args in
    let e = c.of-grid.ensures in
    old-exact a.size a.old.now a.new.now a.out.now c.in_default.ensures c.of-grid.result e.columns_value e.lines_value

pub flag_kept-requires-clause-new_exact : goal.flag_kept-requires-clause-new_exact
flag_kept-requires-clause-new_exact c = let a = c.args in
    let e = c.of-grid.ensures in
    new-exact a.size a.old.now a.new.now a.out.now c.in_default.ensures c.of-grid.result e.columns_value e.lines_value

pub invariant_of-changes : goal.invariant_of-changes
invariant_of-changes c = let a = c.args in
    let e = c.of-grid.ensures in
    let g = c.of-grid.result in
    record {
      exact = new-exact a.size a.old.now a.new.now a.out.now c.in_default.ensures g e.columns_value e.lines_value;
      enough = omega (arith, blocks-most g.columns g.lines g.narrow g.low);
    }

pub returns-in-Ok-clause-value : goal.returns-in-Ok-clause-value
returns-in-Ok-clause-value c = let a = c.args in
    let e = c.of-grid.ensures in
    let w = write-emits a.size a.old.now a.new.now a.out.now c.in_default.ensures c.of-grid.result e.columns_value e.lines_value _ c.flag_kept.ensures in
    c.accepted.ensures ∙ rw c.blocks-in-Ok.ensures (c.in-Ok.ensures.value ∙ ap (λ (x : Wrote). x.answer) w)

pub returns-in-Ok-clause-out_after : goal.returns-in-Ok-clause-out_after
returns-in-Ok-clause-out_after c = let a = c.args in
    let e = c.of-grid.ensures in
    let w = write-emits a.size a.old.now a.new.now a.out.now c.in_default.ensures c.of-grid.result e.columns_value e.lines_value _ c.flag_kept.ensures in
    c.emit.ensures.out_after ∙ ap (λ (x : Wrote). x.output) w

pub returns-in-Err-emit-clause-value : goal.returns-in-Err-emit-clause-value
returns-in-Err-emit-clause-value c = let a = c.args in
    let e = c.of-grid.ensures in
    let w = write-emits a.size a.old.now a.new.now a.out.now c.in_default.ensures c.of-grid.result e.columns_value e.lines_value _ c.flag_kept.ensures in
    c.from-in-Err-emit.ensures ∙ c.in-Err-emit.ensures.value ∙ ap (λ (x : Wrote). x.answer) w

pub returns-in-Err-emit-clause-out_after : goal.returns-in-Err-emit-clause-out_after
returns-in-Err-emit-clause-out_after c = let a = c.args in
    let e = c.of-grid.ensures in
    let w = write-emits a.size a.old.now a.new.now a.out.now c.in_default.ensures c.of-grid.result e.columns_value e.lines_value _ c.flag_kept.ensures in
    c.emit.ensures.out_after ∙ ap (λ (x : Wrote). x.output) w
