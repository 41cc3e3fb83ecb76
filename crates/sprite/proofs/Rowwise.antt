-- How far a row, and a frame, has been painted: what the loops of the paint pass go by. Assumes nothing. Here s are the file's bytes.
use Prim.Native.Nat.{ℕ, ◌+◌, ◌-◌, ◌<◌, ◌≤◌}
use mathlib.Core.Path.{◌≡◌, sym, ap, ◌∙◌}
use mathlib.Core.Logic.{◌≢◌}
use mathlib.Core.List.{List, [], ◌∷◌, ◌++◌}
use native.Mathlib.Omega.{arith}
use lib.Dec.{eqb}
use lib.ListN.{length, replicate}
use borrow.Author.Tests.{eqb-true, eqb-false}
use Rattle.spec.specs.declared.Size.{Size}
use Rattle.spec.specs.Answers.{ok, bad_row}
use Rattle.spec.specs.Sizes.{pixels}
use Rattle.sprite.specs.Frames.{Segment, RowHead, Shade, Ended, ended, segment_at, shades, row, row_at, rows}
use Rattle.sprite.specs.Symbols.{overlay}
use Rattle.sprite.specs.Strips.{strip, sheet}
use Rattle.sprite.proofs.Splits.{split}
use Rattle.sprite.proofs.Laying.{strip-clear, strip-more, sheet-none, sheet-row, sheet-blank}
use Rattle.sprite.proofs.Progress.{InRow, row-begins, row-goes-on, row-ends-bad, row_ends, InFrame, frame-begins, frame-ends, frame-bad-row, frame-blank, frame-data, frame-bad-segment}

-- x pixels of a row have been painted on what was lent
pub record RowPainted (z : Size) (s : List ℕ) (width first end left line : ℕ) (pic₀ : List ℕ) (x next : ℕ) (pic : List ℕ) (made : List Shade) : Type 0 where
  pub read : InRow s width first end x next made
  pub is : pic ≡ overlay z (strip left line made) pic₀

module _ {z : Size} {s : List ℕ} {width first end left line : ℕ} {pic₀ : List ℕ} (within : end ≤ length s) (exact : length pic₀ ≡ pixels z) where
  pub row-unpainted : first ≤ end → RowPainted z s width first end left line pic₀ 0 first pic₀ []
  row-unpainted order = record { read = row-begins order; is = strip-clear z left line 0 pic₀ exact }

  module _ {x next : ℕ} {pic : List ℕ} {made : List Shade} (k : RowPainted z s width first end left line pic₀ x next pic made) where
    joined : (sh : List Shade) → overlay z (strip (left + x) line sh) pic ≡ overlay z (strip left line (made ++ sh)) pic₀
    joined sh =
        let e : left + x ≡ left + length made = ap (λ (n : ℕ). left + n) (sym k.read.size) in
        ap (λ (p : List ℕ). overlay z (strip (left + x) line sh) p) k.is
        ∙ ap (λ (n : ℕ). overlay z (strip n line sh) (overlay z (strip left line made) pic₀)) e
        ∙ strip-more z left line made sh pic₀

    pub row-paints-on : {n after : ℕ} {pic' : List ℕ} → next < end → Segment.Pixels n after ≡ segment_at s end (width - x) next
        → pic' ≡ overlay z (strip (left + x) line (shades s next)) pic
        → RowPainted z s width first end left line pic₀ (x + n) after pic' (made ++ shades s next)
    row-paints-on l e q =
        record {
          read = row-goes-on within k.read l e;
          is = q ∙ joined (shades s next);
        }

    made-is : (e : ℕ) → row s width first end ≡ ended e made → pic ≡ overlay z (strip left line (row s width first end).made) pic₀
    made-is e q = k.is ∙ sym (ap (λ (r : Ended Shade). overlay z (strip left line r.made) pic₀) q)

    pub row-painted-bad : next < end → Segment.Bad ≡ segment_at s end (width - x) next → pic ≡ overlay z (strip left line (row s width first end).made) pic₀
    row-painted-bad l e = made-is _ (row-ends-bad within k.read l e)

    pub row-painted : end ≤ next → pic ≡ overlay z (strip left line (row s width first end).made) pic₀
    row-painted l = made-is _ (row_ends within k.read l)

-- y rows of a frame have been painted on what was lent
pub record FramePainted (z : Size) (s : List ℕ) (height width first left top : ℕ) (pic₀ : List ℕ) (y at : ℕ) (pic : List ℕ) (made : List (List Shade)) : Type 0 where
  pub read : InFrame s height width first y at made
  pub is : pic ≡ overlay z (sheet left top made) pic₀

module _ {z : Size} {s : List ℕ} {height width first left top : ℕ} {pic₀ : List ℕ} (accepted : (rows s height width first).number ≡ ok)
    (exact : length pic₀ ≡ pixels z) where
  pub frame-unpainted : first ≤ length s → FramePainted z s height width first left top pic₀ 0 first pic₀ []
  frame-unpainted start = record { read = frame-begins start; is = sheet-none z left top pic₀ exact }

  module _ {y at : ℕ} {pic : List ℕ} {made : List (List Shade)} (k : FramePainted z s height width first left top pic₀ y at pic made) where
    pub frame-painted : height ≤ y → pic ≡ overlay z (sheet left top (rows s height width first).made) pic₀
    frame-painted l =
        k.is ∙ sym (ap (λ (r : Ended (List Shade)). overlay z (sheet left top r.made) pic₀) (frame-ends k.read l))

    fitted : (sh : List Shade) → overlay z (strip left (top + y) sh) pic ≡ overlay z (sheet left top (made ++ sh ∷ [])) pic₀
    fitted sh =
        let e : top + y ≡ top + length made = ap (λ (n : ℕ). top + n) (sym k.read.size) in
        ap (λ (p : List ℕ). overlay z (strip left (top + y) sh) p) k.is
        ∙ ap (λ (n : ℕ). overlay z (strip left n sh) (overlay z (sheet left top made) pic₀)) e
        ∙ sheet-row z left top made sh pic₀

    module _ (l : y < height) where
      -- an accepted frame has no row and no segment that is refused
      refused : (e : ℕ) → rows s height width first ≡ ended e made → e ≡ ok
      refused e q = sym (ap (λ (r : Ended (List Shade)). r.number) q) ∙ accepted

      pub no-bad-row : RowHead.Bad ≢ row_at s (height - y) at
      no-bad-row e = let q = refused bad_row (frame-bad-row k.read l e) in omega (arith, q)

      pub frame-paints-blank : {n : ℕ} → RowHead.Blank n ≡ row_at s (height - y) at
          → FramePainted z s height width first left top pic₀ (y + n) (at + 2) pic (made ++ replicate n [])
      frame-paints-blank {n} e =
          record {
            read = frame-blank k.read l e;
            is = k.is ∙ sheet-blank z left top made n pic₀;
          }

      good : (end : ℕ) → RowHead.Data end ≡ row_at s (height - y) at → (row s width (at + 2) end).number ≡ ok
      good end e =
          split (eqb (row s width (at + 2) end).number ok) (λ t. eqb-true _ _ t) (λ t.
          let n = eqb-false (row s width (at + 2) end).number ok t in
          absurd (n (refused _ (frame-bad-segment k.read l e n))))

      pub frame-paints-on : {end : ℕ} {pic' : List ℕ} → RowHead.Data end ≡ row_at s (height - y) at
          → pic' ≡ overlay z (strip left (top + y) (row s width (at + 2) end).made) pic
          → FramePainted z s height width first left top pic₀ (y + 1) end pic' (made ++ (row s width (at + 2) end).made ∷ [])
      frame-paints-on {end} e q =
          record {
            read = frame-data k.read l e (good end e);
            is = q ∙ fitted (row s width (at + 2) end).made;
          }
