-- The lead of an opcode, as the code reads it. Assumes nothing.
use Rattle.std.specs.Prelude.{ℕ, ◌≡◌, List}
use Rattle.spec.specs.Chunks.{upper_at, count_at, body_at}
use Rattle.smc_check.specs.declared.heads.Lead.{Lead}

pub record Leads (s : List ℕ) (at : ℕ) (l : Lead) : Type 0 where
  pub upper : l.upper ≡ upper_at s at
  pub count : l.count ≡ count_at s at
  pub body : l.body ≡ body_at s at
