use mathlib.Core.Path.{ap, ◌∙◌}
use mathlib.Core.Bool.{not}
use native.Mathlib.Omega.{arith}
use borrow.Author.Rules.{rules}
use Rattle.smc_writer.proofs.Running.{ends-past, ends-skip, ends-kept, ends-apart}
use Rattle.smc_writer.proofs.Sameness.{same_rows}
use Rattle.smc_writer.proofs.changes.Changes.ends_at.Goals as goal

pub returns-then-j-blocks : goal.returns-then-j-blocks
returns-then-j-blocks c = ends-past _ _ _ _ _ _ (omega arith)

pub returns-then-self-k : goal.returns-then-self-k
returns-then-self-k c = ends-skip _ _ _ _ _ _ (omega arith) c.if-self-k.true

pub returns-then-self-j : goal.returns-then-self-j
returns-then-self-j c = ends-kept _ _ _ _ _ _ (omega arith) c.if-self-k.false c.if-self-j.true

pub returns : goal.returns
returns c = let changed = c.if-self-k.false in
    let lead = c.requires.leads in
    c.ne.ensures
    ∙ ap not (same_rows c.args.rows c.block_at.result (search rules) (search rules) ∙ rw c.block_at.ensures)
    ∙ ends-apart _ _ _ _ _ _ (omega arith) changed c.if-self-j.false (lead.shows changed) (lead.one changed)
