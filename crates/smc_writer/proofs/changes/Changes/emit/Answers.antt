use mathlib.Core.Path.{sym, ap, ◌∙◌}
use native.Mathlib.Omega.{arith}
use borrow.Author.Tests.{leb-true, leb-false}
use Rattle.spec.specs.Writing.{Wrote}
use Rattle.spec.proofs.Written.{length-encode}
use Rattle.smc_writer.specs.Changes.{origins_of}
use Rattle.smc_writer.proofs.Emitting.{emit-short, emit-fits}
use Rattle.smc_writer.proofs.changes.Changes.emit.Goals as goal

pub put_chunk-requires : goal.put_chunk-requires
put_chunk-requires c = omega (arith, leb-true _ _ (sym c.fits.ensures ∙ c.if-fits.true), length-encode (origins_of c.args.self.now))

pub returns-then-fits-clause-value : goal.returns-then-fits-clause-value
returns-then-fits-clause-value c =
    let e = emit-fits _ _ c.args.out.now (leb-true _ _ (sym c.fits.ensures ∙ c.if-fits.true)) _ c.put_chunk.ensures.value _ c.put_chunk.ensures.out_after in
    ap (λ (x : Wrote). x.answer) e

pub returns-then-fits-clause-out_after : goal.returns-then-fits-clause-out_after
returns-then-fits-clause-out_after c =
    let e = emit-fits _ _ c.args.out.now (leb-true _ _ (sym c.fits.ensures ∙ c.if-fits.true)) _ c.put_chunk.ensures.value _ c.put_chunk.ensures.out_after in
    ap (λ (x : Wrote). x.output) e

pub returns-clause-value : goal.returns-clause-value
returns-clause-value c = let e = sym (emit-short _ _ c.args.out.now (leb-false _ _ (sym c.fits.ensures ∙ c.if-fits.false))) in
    ap (λ (x : Wrote). x.answer) e

pub returns-clause-out_after : goal.returns-clause-out_after
returns-clause-out_after c = let e = sym (emit-short _ _ c.args.out.now (leb-false _ _ (sym c.fits.ensures ∙ c.if-fits.false))) in
    ap (λ (x : Wrote). x.output) e
