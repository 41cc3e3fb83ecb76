use mathlib.Core.Path.{sym, ◌∙◌}
use mathlib.Core.Bool.{true}
use native.Mathlib.Omega.{arith}
use Rattle.spec.proofs.Limits.{fault-first, fault-second, no-fault-both, fault-none, fault-length}
use Rattle.spec.proofs.Refusals.{refused-not-ok}
use Rattle.std.proofs.Common.{rules, ◌≡◌}
use Rattle.spec.specs.Answers.{number_of, refusal_number}
use Rattle.sizes.proofs.check_feed.Goals as goal

pub returns-in_err-check_size : goal.returns-in_err-check_size
returns-in_err-check_size c =
    let x : number_of c.from_residual.result ≡ refusal_number c.in_err-check_size.field-0.0 = search rules in
    let e = c.in_err-check_size.ensures in
    x ∙ e ∙ sym (fault-first c.args.own true _ (λ o. refused-not-ok _ (e ∙ o)))

pub returns-then-eq : goal.returns-then-eq
returns-then-eq c =
    let fine = (no-fault-both _ true (sym c.in_ok-check_size.ensures)).0 in
    c.check_board.ensures ∙ sym (fault-second c.args.own _ _ (fault-none _ _ fine (sym c.eq.ensures ∙ c.if-eq.true)))

pub returns : goal.returns
returns c =
    let fine = (no-fault-both _ true (sym c.in_ok-check_size.ensures)).0 in
    let other = fault-length c.args.own _ fine (sym c.eq.ensures ∙ c.if-eq.false) in
    sym other ∙ sym (fault-first c.args.own _ _ (λ o. absurd (omega (arith, sym other ∙ o))))
