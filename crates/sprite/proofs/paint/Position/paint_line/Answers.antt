use native.Mathlib.Omega.{arith}
use Rattle.sprite.proofs.Laying.{strip-off}
use Rattle.sprite.proofs.paint.Position.paint_line.Goals as goal

pub returns-in_default : goal.returns-in_default
returns-in_default c =
    let h = rw c.in_default.is at c.checked_sub.ensures in
    strip-off c.args.self.size c.args.self.left c.args.line _ c.args.picture.now c.requires (λ y l e. h (omega (arith, e)))

pub returns-else-y-self : goal.returns-else-y-self
returns-else-y-self c =
    let h = rw c.in-Some.is at c.checked_sub.ensures in
    strip-off c.args.self.size c.args.self.left c.args.line _ c.args.picture.now c.requires (λ y l e. omega (arith, e, h.1))
