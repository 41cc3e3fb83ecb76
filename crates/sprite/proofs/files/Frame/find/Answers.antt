use mathlib.Core.Path.{◌≡◌, sym, ◌∙◌}
use native.Mathlib.Omega.{arith}
use borrow.Author.Tests.{lt-ltb, le-ltb}
use Rattle.spec.specs.Basics.{if}
use Rattle.spec.specs.Answers.{ok}
use Rattle.sprite.specs.Files.{frame_fault}
use Rattle.sprite.proofs.Heading.{table-whole, head-whole, frame-there}
use Rattle.sprite.proofs.files.Frame.find.Goals as goal

pub returns-then-not-is_sprite-clause-number : goal.returns-then-not-is_sprite-clause-number
unfolding frame_fault if
returns-then-not-is_sprite-clause-number c = rw (← c.is_sprite.ensures, c.if-not-is_sprite.true)

pub long-requires : goal.long-requires
long-requires c = omega (arith, table-whole c.args.s.now (sym c.is_sprite.ensures ∙ c.if-not-is_sprite.false))

pub returns-then-long-k-clause-number : goal.returns-then-long-k-clause-number
unfolding frame_fault if
returns-then-long-k-clause-number c =
    rw (← c.is_sprite.ensures, c.if-not-is_sprite.false, ← c.long.ensures, le-ltb _ _ c.if-long-k.true)

pub long-at-requires : goal.long-at-requires
long-at-requires c = omega (arith, table-whole c.args.s.now (sym c.is_sprite.ensures ∙ c.if-not-is_sprite.false), c.long.ensures)

pub returns-then-not-is_frame-clause-number : goal.returns-then-not-is_frame-clause-number
unfolding frame_fault if
returns-then-not-is_frame-clause-number c =
    rw (
      ← c.is_sprite.ensures,
      c.if-not-is_sprite.false,
      ← c.long.ensures,
      lt-ltb _ _ c.if-long-k.false,
      ← c.long-at.ensures,
      ← c.is_frame.ensures,
      c.if-not-is_frame.true,
    )

pub word-requires : goal.word-requires
word-requires c = omega (arith, head-whole c.args.s.now _ (sym c.is_frame.ensures ∙ c.if-not-is_frame.false))

pub word-requires-2 : goal.word-requires-2
word-requires-2 c = omega (arith, head-whole c.args.s.now _ (sym c.is_frame.ensures ∙ c.if-not-is_frame.false))

pub invariant_of-result : goal.invariant_of-result
invariant_of-result c = record { within = head-whole c.args.s.now _ (sym c.is_frame.ensures ∙ c.if-not-is_frame.false) }

pub returns-clause-number : goal.returns-clause-number
unfolding frame_fault if
returns-clause-number c =
    rw (
      ← c.is_sprite.ensures,
      c.if-not-is_sprite.false,
      ← c.long.ensures,
      lt-ltb _ _ c.if-long-k.false,
      ← c.long-at.ensures,
      ← c.is_frame.ensures,
      c.if-not-is_frame.false,
    )

pub returns-clause-height : goal.returns-clause-height
returns-clause-height c = rw (c.word.ensures, c.long-at.ensures)

pub returns-clause-width : goal.returns-clause-width
returns-clause-width c = rw (c.word-2.ensures, c.long-at.ensures)

pub returns-clause-first : goal.returns-clause-first
returns-clause-first c = rw c.long-at.ensures

pub returns-clause-found : goal.returns-clause-found
unfolding frame_fault if
returns-clause-found c =
    let none : frame_fault c.args.s.now c.args.k ≡ ok = rw (
      ← c.is_sprite.ensures,
      c.if-not-is_sprite.false,
      ← c.long.ensures,
      lt-ltb _ _ c.if-long-k.false,
      ← c.long-at.ensures,
      ← c.is_frame.ensures,
      c.if-not-is_frame.false,
    ) in
    rw (c.word.ensures, c.word-2.ensures, c.long-at.ensures) (sym (frame-there c.args.s.now c.args.k none))
