use mathlib.Core.Path.{◌∙◌}
use native.Mathlib.Omega.{arith}
use Rattle.smc_check.proofs.Behind.{refused-short, refused-differs}
use Rattle.smc_check.proofs.check.check_length.Goals as goal

pub returns-then-s-lt4-clause-err : goal.returns-then-s-lt4-clause-err
returns-then-s-lt4-clause-err c = λ n. refused-short n c.args.s.now (omega arith)

pub returns-then-stated-s-clause-err : goal.returns-then-stated-s-clause-err
returns-then-stated-s-clause-err c = λ n. refused-differs n c.args.s.now (omega arith) (λ e. c.if-stated-s.true (c.stated.ensures.value ∙ e))
