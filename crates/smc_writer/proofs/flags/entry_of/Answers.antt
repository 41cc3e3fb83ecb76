use Prim.Native.Nat.{ℕ}
use mathlib.Core.Path.{◌≡◌}
use native.Mathlib.Omega.{arith}
use Rattle.std.proofs.Common.{rules, nat_lt}
use Rattle.std.proofs.lemmas.List.Sums.{count_by-le-length}
use Rattle.smc_writer.specs.Flags.{under}
use Rattle.smc_writer.proofs.flags.entry_of.Goals as goal

pub returns-clause-upper_bound : goal.returns-clause-upper_bound
returns-clause-upper_bound c =
    let value : c.sum.result ≡ under c.args.list.now c.args.colour = search rules in
    omega (arith, count_by-le-length (λ (x : ℕ). nat_lt x c.args.colour) c.args.list.now)
