use mathlib.Core.Path.{sym, ◌∙◌}
use Rattle.spec.proofs.Limits.{fault-first, fault-second}
use Rattle.spec.proofs.Refusals.{refused-not-ok}
use Rattle.std.proofs.Common.{rules, ◌≡◌}
use Rattle.spec.specs.Answers.{number_of, refusal_number}
use Rattle.sizes.proofs.check_pictures.Goals as goal

pub returns-in_err-check_picture : goal.returns-in_err-check_picture
returns-in_err-check_picture c =
    let x : number_of c.from_residual.result ≡ refusal_number c.in_err-check_picture.field-0.0 = search rules in
    let e = c.in_err-check_picture.ensures in
    x ∙ e ∙ sym (fault-first c.args.size _ _ (λ o. refused-not-ok _ (e ∙ o)))

pub returns : goal.returns
returns c = c.check_picture-2.ensures ∙ sym (fault-second c.args.size _ _ (sym c.in_ok-check_picture.ensures))
