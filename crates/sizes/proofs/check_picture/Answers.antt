use mathlib.Core.Path.{sym, ◌∙◌}
use mathlib.Core.Bool.{true}
use native.Mathlib.Omega.{arith}
use Rattle.spec.proofs.Limits.{allowed-size, fault-first, fault-allowed, no-fault-both}
use Rattle.spec.proofs.Refusals.{refused-not-ok}
use Rattle.std.proofs.Common.{rules, ◌≡◌}
use Rattle.spec.specs.Answers.{number_of, refusal_number}
use Rattle.sizes.proofs.check_picture.Goals as goal

pub returns-in_err-check_size : goal.returns-in_err-check_size
returns-in_err-check_size c =
    let x : number_of c.from_residual.result ≡ refusal_number c.in_err-check_size.field-0.0 = search rules in
    let e = c.in_err-check_size.ensures in
    x ∙ e ∙ sym (fault-first c.args.size true _ (λ o. refused-not-ok _ (e ∙ o)))

pub overflow_mul-size : goal.overflow_mul-size
overflow_mul-size c = omega (arith, (allowed-size _ (no-fault-both _ true (sym c.in_ok-check_size.ensures)).0).small)

pub returns : goal.returns
returns c = c.check_length.ensures ∙ sym (fault-allowed _ _ (no-fault-both _ true (sym c.in_ok-check_size.ensures)).0)
