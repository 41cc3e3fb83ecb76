use mathlib.Core.Path.{◌∙◌}
use borrow.Author.Rules.{rules}
use Rattle.blocks.specs.Blocks.{pixels}
use Rattle.smc_writer.proofs.Sameness.{length-pixels, same_rows, plain-same}
use Rattle.smc_writer.proofs.rows.is_plain.Goals as goal

pub returns : goal.returns
returns c = let x = c.args.x in
    c.eq.ensures
    ∙ same_rows c.of_colour.result x (search rules) (search rules)
    ∙ rw (c.of_colour.ensures, c.first_of.ensures) (plain-same (pixels x) (length-pixels x))
