-- A block by four rows: where the rows stand, and that to get them is to get the block. Assumes nothing.
use Prim.Native.Nat.{ℕ, ◌+◌, ◌*◌, ◌/◌, ◌%◌, ◌<◌, ◌≤◌}
use mathlib.Core.Path.{◌≡◌, refl, sym, ◌∙◌}
use mathlib.Core.Bool.{true}
use mathlib.Core.List.{List, [], ◌∷◌}
use native.Mathlib.Nat.{add-mul, add-zero, mul-le-mul, div-le_self}
use native.Mathlib.Omega.{arith}
use lib.ListN.{length}
use Rattle.spec.specs.Basics.{part}
use Rattle.spec.specs.declared.Size.{Size}
use Rattle.spec.specs.Sizes.{max_columns, max_lines, max_blocks, max_width, allowed, pixels, columns, lines}
use Rattle.spec.specs.Pictures.{place, shown, block_at}
use Rattle.spec.proofs.Limits.{blocks-most, allowed-size, area}
use Rattle.spec.proofs.Parts.{part-listed}
use Rattle.spec.proofs.Places.{place-below}
use Rattle.blocks.specs.Blocks.{row_of, row, rows, Canvas}

pub few : (c r k : ℕ) → c ≤ max_columns → r ≤ max_lines → k < c * r → k < max_blocks
few c r k a b h = omega (arith, blocks-most c r a b)

pub line_small : (c k : ℕ) → c ≤ max_columns → k < max_blocks → 4 * (k / c) * (4 * c) ≤ 4 * max_blocks * max_width
line_small c k a b = mul-le-mul {n₂ = 4 * max_blocks} {m₂ = max_width} (omega (arith, div-le_self k c)) (omega arith)

-- pixel i stands i / 4 lines below the first pixel, and i % 4 to its right
place-split : (c k i : ℕ) → place c k i ≡ place c k 0 + i / 4 * (4 * c) + i % 4
unfolding place
place-split c k i = rw (add-mul (4 * (k / c)) (i / 4) (4 * c), add-mul (4 * (k / c)) (0 / 4) (4 * c)) (omega arith)

pub span : (c r k : ℕ) (pic : List ℕ) → Canvas c r pic → k < c * r → place c k 0 + 3 * (4 * c) + 4 ≤ length pic
span c r k pic g h = omega (arith, place-below c r g.wide k 15 h (omega arith), place-split c k 15)

-- a picture has so many blocks at most
pub at_most : (c r : ℕ) (pic : List ℕ) → Canvas c r pic → c * r ≤ max_blocks
at_most c r pic g = blocks-most c r g.narrow g.low

-- a picture of an allowed size is a canvas; and one of the same length
pub canvas : (z : Size) → allowed z ≡ true → (pic : List ℕ) → length pic ≡ pixels z → Canvas (columns z) (lines z) pic
canvas z fine pic e =
    let s = allowed-size z fine in
    record { wide = s.wide; narrow = s.narrow; low = s.low; exact = e ∙ sym (area z fine) }

pub on : (c r : ℕ) (pic pic' : List ℕ) → Canvas c r pic → length pic' ≡ length pic → Canvas c r pic'
on c r pic pic' g e = record { wide = g.wide; narrow = g.narrow; low = g.low; exact = e ∙ g.exact }

pub row_of-word : (a b c d w : ℕ) → a < 256 → b < 256 → c < 256 → d < 256 → w ≡ a + b * 256 + c * 65536 + d * 16777216 → row_of w ≡ a ∷ b ∷ c ∷ d ∷ []
unfolding row_of
row_of-word a b c d w ha hb hc hd e =
    let q1 : w / 256 ≡ b + c * 256 + d * 65536 = omega arith in
    let q2 : w / 65536 ≡ c + d * 256 = omega arith in
    let q3 : w / 16777216 ≡ d = omega arith in
    let e0 : w % 256 ≡ a = omega arith in
    let e1 : (b + c * 256 + d * 65536) % 256 ≡ b = omega arith in
    let e2 : (c + d * 256) % 256 ≡ c = omega arith in
    let e3 : d % 256 ≡ d = omega arith in
    rw (q1, q2, q3, e0, e1, e2, e3)

module _ (c k p : ℕ) (ep : p ≡ place c k 0) where
  pub at : (i y x q : ℕ) → i / 4 ≡ y → i % 4 ≡ x → p + y * (4 * c) + x ≡ q → place c k i ≡ q
  at i y x q ey ex eq = place-split c k i ∙ rw (ey, ex, ← ep) eq

  pub rows-block : (pic : List ℕ) → rows pic p (4 * c) ≡ block_at c pic k
  unfolding rows row shown
  rows-block pic =
      rw (
        at 0 0 0 p refl refl (omega arith),
        at 1 0 1 (p + 1) refl refl (omega arith),
        at 2 0 2 (p + 2) refl refl (omega arith),
        at 3 0 3 (p + 3) refl refl (omega arith),
        at 4 1 0 (p + 4 * c) refl refl (omega arith),
        at 5 1 1 (p + 4 * c + 1) refl refl (omega arith),
        at 6 1 2 (p + 4 * c + 2) refl refl (omega arith),
        at 7 1 3 (p + 4 * c + 3) refl refl (omega arith),
        at 8 2 0 (p + 2 * (4 * c)) refl refl (omega arith),
        at 9 2 1 (p + 2 * (4 * c) + 1) refl refl (omega arith),
        at 10 2 2 (p + 2 * (4 * c) + 2) refl refl (omega arith),
        at 11 2 3 (p + 2 * (4 * c) + 3) refl refl (omega arith),
        at 12 3 0 (p + 3 * (4 * c)) refl refl (omega arith),
        at 13 3 1 (p + 3 * (4 * c) + 1) refl refl (omega arith),
        at 14 3 2 (p + 3 * (4 * c) + 2) refl refl (omega arith),
        at 15 3 3 (p + 3 * (4 * c) + 3) refl refl (omega arith),
      )

-- sixteen bytes one after the other
pub rows-part : (s : List ℕ) (p : ℕ) → p + 16 ≤ length s → rows s p 4 ≡ part s p 16
unfolding rows row
rows-part s p h =
    let e5 : p + 4 + 1 ≡ p + 5 = omega arith in
    let e6 : p + 4 + 2 ≡ p + 6 = omega arith in
    let e7 : p + 4 + 3 ≡ p + 7 = omega arith in
    let e9 : p + 8 + 1 ≡ p + 9 = omega arith in
    let e10 : p + 8 + 2 ≡ p + 10 = omega arith in
    let e11 : p + 8 + 3 ≡ p + 11 = omega arith in
    let e13 : p + 12 + 1 ≡ p + 13 = omega arith in
    let e14 : p + 12 + 2 ≡ p + 14 = omega arith in
    let e15 : p + 12 + 3 ≡ p + 15 = omega arith in
    sym (part-listed s p 16 h ∙ rw (add-zero p, e5, e6, e7, e9, e10, e11, e13, e14, e15))
