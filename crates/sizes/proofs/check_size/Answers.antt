use mathlib.Core.Path.{sym, refl, ◌∙◌}
use mathlib.Core.Bool.{true}
use Rattle.spec.proofs.Limits.{fault-size, fault-none}
use Rattle.sizes.proofs.check_size.Goals as goal

pub returns-then-is_allowed : goal.returns-then-is_allowed
returns-then-is_allowed c = sym (fault-none _ true (sym c.is_allowed.ensures ∙ c.if-is_allowed.true) refl)

pub returns : goal.returns
returns c = sym (fault-size _ true (sym c.is_allowed.ensures ∙ c.if-is_allowed.false))
