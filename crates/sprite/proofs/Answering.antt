-- Painting a symbol, by what the checks have answered. Assumes nothing.
use Prim.Native.Nat.{ℕ, zero, suc}
use mathlib.Core.Path.{◌≡◌, refl, sym, ap, ◌∙◌}
use mathlib.Core.Logic.{◌≢◌}
use mathlib.Core.List.{List}
use lib.Dec.{eqb}
use lib.IntN.{ℤ}
use lib.ListN.{length}
use borrow.Author.Tests.{eqb-true, eq-eqb, ne_eqb}
use Rattle.spec.specs.declared.Answer.{Answer}
use Rattle.spec.specs.declared.Size.{Size}
use Rattle.spec.specs.Answers.{ok, answer, checked}
use Rattle.spec.specs.Basics.{if}
use Rattle.spec.specs.Sizes.{pixels, fault}
use Rattle.spec.proofs.Lists.{checked-none, checked_refused}
use Rattle.spec.proofs.Limits.{no-fault-both}
use Rattle.sprite.specs.Frames.{frame}
use Rattle.sprite.specs.Symbols.{placed, overlay, Painted, painted, paint_frame, paint_symbol}

module _ (z : Size) (pic s : List ℕ) (k : ℕ) (left top : ℤ) where
  abbrev picture_fault : ℕ
  picture_fault = fault z (eqb (length pic) (pixels z))

  pub symbol-refused : (e : ℕ) → e ≡ picture_fault → e ≢ ok → paint_symbol z pic s k left top ≡ painted (answer e 0) pic
  unfolding paint_symbol
  symbol-refused e q h =
      checked_refused picture_fault _ _ (λ w. h (q ∙ w)) ∙ ap (λ (n : ℕ). painted (answer n 0) pic) (sym q)

  -- neither 1 nor 2
  module _ (e : ℕ) (q : e ≡ picture_fault) (h : e ≡ ok) where
    pub exact-picture : length pic ≡ pixels z
    exact-picture = eqb-true (length pic) (pixels z) (no-fault-both z _ (sym q ∙ h)).1

    goes_on_lem : paint_symbol z pic s k left top ≡ paint_frame z left top (frame s k) pic
    unfolding paint_symbol
    goes_on_lem = checked-none picture_fault _ _ (sym q ∙ h)

    pub frame-kept : (n : ℕ) → n ≡ (frame s k).number → n ≢ ok → paint_symbol z pic s k left top ≡ painted (answer n 0) pic
    unfolding if
    frame-kept n f g = goes_on_lem ∙ rw (← f, ne_eqb n ok g)

    pub frame-shown : (n : ℕ) → n ≡ (frame s k).number → n ≡ ok
        → paint_symbol z pic s k left top ≡ painted (answer n 0) (overlay z (placed left top (frame s k).made) pic)
    unfolding if
    frame-shown n f g = goes_on_lem ∙ rw (← f, eq-eqb n ok g)

-- the answer does not depend on the position
checked-answer : (n : ℕ) (refuse : Answer → Painted) (x y : Painted) → x.answer ≡ y.answer → (checked n refuse x).answer ≡ (checked n refuse y).answer
unfolding checked
checked-answer zero refuse x y e = e
checked-answer (suc n) refuse x y e = refl

pub symbol-anywhere : (z : Size) (pic s : List ℕ) (k : ℕ) (left top left' top' : ℤ)
    → (paint_symbol z pic s k left top).answer ≡ (paint_symbol z pic s k left' top').answer
unfolding paint_symbol
symbol-anywhere z pic s k left top left' top' = checked-answer _ _ _ _ refl
