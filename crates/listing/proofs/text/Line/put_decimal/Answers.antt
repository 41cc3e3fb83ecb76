use mathlib.Core.Path.{ap, ◌∙◌}
use Rattle.spec.specs.Listing.{higher_digits, decimal}
use Rattle.listing.proofs.text.Line.put_decimal.Goals as goal

pub returns-clause-text_after : goal.returns-clause-text_after
unfolding decimal
returns-clause-text_after c = c.put_higher.ensures.text_after ∙ ap (higher_digits 19 _) c.put_byte.ensures.text_after
