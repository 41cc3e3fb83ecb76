use Prim.Native.Nat.{ℕ, ◌+◌}
use mathlib.Core.Path.{◌≡◌, ap}
use native.Mathlib.Omega.{arith}
use lib.ListN.{get_or}
use Rattle.spec.specs.Basics.{if}
use Rattle.sprite.specs.Files.{joined}
use Rattle.sprite.proofs.bytes.long.Goals as goal

pub returns-then-high_first : goal.returns-then-high_first
unfolding joined if
returns-then-high_first c =
    let e : c.args.at + 3 ≡ c.args.at + 2 + 1 = omega arith in
    rw (← c.high_first.ensures, c.if-high_first.true) (omega (arith, ap (λ (i : ℕ). get_or c.args.s.now i 0) e))

pub returns : goal.returns
unfolding joined if
returns c =
    let e : c.args.at + 3 ≡ c.args.at + 2 + 1 = omega arith in
    rw (← c.high_first.ensures, c.if-high_first.false) (omega (arith, ap (λ (i : ℕ). get_or c.args.s.now i 0) e))
