use Prim.Native.Nat.{◌-◌}
use mathlib.Core.Path.{sym, ◌∙◌}
use native.Mathlib.Omega.{arith}
use lib.Dec.{eqb}
use lib.ListN.{length, take, drop}
use Rattle.std.proofs.Common.{rules, tests}
use Rattle.std.proofs.lemmas.Iterator.{YieldsList-from_slice}
use Rattle.std.proofs.lemmas.Iterator.Search.{all_from_yields_List}
use Rattle.spec.proofs.Padding.{padding-over}
use Rattle.smc_check.proofs.Zeros.{padding-zeros}
use Rattle.smc_check.proofs.check.is_padding.Goals as goal

pub returns-then-s-at-gt-MAX_PADDING : goal.returns-then-s-at-gt-MAX_PADDING
returns-then-s-at-gt-MAX_PADDING c = sym (padding-over c.args.s.now c.args.at (omega arith))

pub returns : goal.returns
returns c = let s = c.args.s.now in
    all_from_yields_List (λ x. eqb x 0) _ _ c.all.result c.all.ensures.ran
    (YieldsList-from_slice (take (length s - c.args.at) (drop c.args.at s)) c.iter.ensures.rest) (λ x b q k. search (rules, tests))
    ∙ padding-zeros s c.args.at (omega arith)
