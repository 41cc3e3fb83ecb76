use Rattle.std.proofs.Common.{◌∙◌, ap, ◌*◌, ℕ}
use Rattle.std.proofs.lemmas.List.{length-replicate}
use Rattle.spec.specs.Chunks.{capacity}
use Rattle.smc.proofs.Held.{holds-emptied}
use Rattle.smc.proofs.tables.Table.emptied.Goals as goal

pub returns : goal.returns
returns n c bits e =
    holds-emptied bits _ (length-replicate n.row.ALL 0 ∙ c.requires ∙ ap (λ (x : ℕ). x * capacity) e)
