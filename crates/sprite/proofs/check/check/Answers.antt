use mathlib.Core.Path.{◌≡◌, sym, ap, ◌∙◌}
use mathlib.Core.List.{List}
use Rattle.std.proofs.Common.{rules}
use Rattle.spec.specs.Answers.{number_of, refusal_number}
use Rattle.spec.proofs.Refusals.{refused-not-ok}
use Rattle.sprite.specs.Frames.{Shade, Ended}
use Rattle.sprite.proofs.Heading.{frame_refused}
use Rattle.sprite.proofs.check.check.Goals as goal

pub returns-in_err-f-clause-number : goal.returns-in_err-f-clause-number
returns-in_err-f-clause-number c =
    let x : number_of c.from_residual.result ≡ refusal_number c.in_err-f.field-0.0 = search rules in
    let e = frame_refused c.args.s.now c.args.k _ c.in_err-f.ensures.number (refused-not-ok _) in
    x ∙ sym (ap (λ (r : Ended (List Shade)). r.number) e)
