-- Blocks held as rows: the same rows are the same pixels; and a block of one colour. Assumes nothing.
use Prim.Native.Nat.{ℕ, zero, suc, ◌+◌, ◌*◌, ◌/◌, ◌%◌, ◌^◌, ◌<◌}
use mathlib.Core.Path.{◌≡◌, refl, sym, ap, ◌∙◌}
use mathlib.Core.Bool.{Bool, true, false, ◌&&◌, and_assoc, true≢false}
use mathlib.Core.List.{List, [], ◌∷◌, ◌++◌}
use native.Mathlib.Omega.{arith}
use lib.Dec.{eqb}
use lib.ListN.{length, get_or, replicate}
use borrow.Author.Tests.{eq-eqb, ne_eqb}
use borrow.Rule.Slice.PartMut.{put_mid}
use Rattle.std.proofs.Common.{w32}
use Rattle.std.specs.Int.{to_le_bytes}
use Rattle.spec.specs.Basics.{if, same}
use Rattle.spec.specs.Writing.{insert, colours, plain}
use Rattle.spec.proofs.Lists.{same_lists, same_self}
use Rattle.spec.proofs.Colours.{plain-all}
use Rattle.blocks.specs.declared.Rows.{Rows}
use Rattle.blocks.specs.Blocks.{row_of, pixels}

same-append : (xs xs' ys ys' : List ℕ) → length xs ≡ length xs' → same (xs ++ ys) (xs' ++ ys') ≡ (same xs xs' && same ys ys')
same-append [] [] ys ys' e = refl
same-append [] (x ∷ xs') ys ys' e = absurd (omega arith)
same-append (x ∷ xs) [] ys ys' e = absurd (omega arith)
same-append (x ∷ xs) (x' ∷ xs') ys ys' e =
    rw (same-append xs xs' ys ys' (omega arith)) (sym (and_assoc (eqb x x') (same xs xs') (same ys ys')))

-- a row's four pixels say which number it is
row-value : (w : ℕ) → w < 2 ^ 32 → w ≡ w % 256 + w / 256 % 256 * 256 + w / 65536 % 256 * 65536 + w / 16777216 % 256 * 16777216
row-value w h =
    let q1 : w / 65536 ≡ w / 256 / 256 = omega arith in
    let q2 : w / 16777216 ≡ w / 65536 / 256 = omega arith in
    let s1 : w ≡ w % 256 + w / 256 * 256 = omega arith in
    let s2 : w / 256 ≡ w / 256 % 256 + w / 65536 * 256 = omega arith in
    let s3 : w / 65536 ≡ w / 65536 % 256 + w / 16777216 * 256 = omega arith in
    let s4 : w / 16777216 % 256 ≡ w / 16777216 = omega arith in
    omega arith

module _ (w v : ℕ) (hw : w < 2 ^ 32) (hv : v < 2 ^ 32) where
  row-equal : row_of w ≡ row_of v → w ≡ v
  unfolding row_of
  row-equal e =
      let e0 : w % 256 ≡ v % 256 = ap (λ (l : List ℕ). get_or l 0 0) e in
      let e1 : w / 256 % 256 ≡ v / 256 % 256 = ap (λ (l : List ℕ). get_or l 1 0) e in
      let e2 : w / 65536 % 256 ≡ v / 65536 % 256 = ap (λ (l : List ℕ). get_or l 2 0) e in
      let e3 : w / 16777216 % 256 ≡ v / 16777216 % 256 = ap (λ (l : List ℕ). get_or l 3 0) e in
      row-value w hw ∙ (λ i. e0 i + e1 i * 256 + e2 i * 65536 + e3 i * 16777216) ∙ sym (row-value v hv)

  row_same : same (row_of w) (row_of v) ≡ eqb w v
  row_same = by (same (row_of w) (row_of v)) refl
    where
      by : (t : Bool) → same (row_of w) (row_of v) ≡ t → t ≡ eqb w v
      by true e = sym (eq-eqb w v (row-equal (same_lists (row_of w) (row_of v) e)))
      by false e = sym (ne_eqb w v (λ q. true≢false (sym (same_self (row_of w)) ∙ ap (λ (x : ℕ). same (row_of w) (row_of x)) q ∙ e)))

pub record Words (x : Rows) : Type 0 where
  pub a : x.a < 2 ^ 32
  pub b : x.b < 2 ^ 32
  pub c : x.c < 2 ^ 32
  pub d : x.d < 2 ^ 32

-- so the test of the four numbers is that of the sixteen pixels
pub same_rows : (x y : Rows) → Words x → Words y → (eqb x.a y.a && (eqb x.b y.b && (eqb x.c y.c && eqb x.d y.d))) ≡ same (pixels x) (pixels y)
unfolding pixels
same_rows x y hx hy =
    sym (same-append (row_of x.a ++ row_of x.b ++ row_of x.c) (row_of y.a ++ row_of y.b ++ row_of y.c) _ _ (unfold row_of in refl)
    ∙ rw (
      same-append (row_of x.a ++ row_of x.b) (row_of y.a ++ row_of y.b) (row_of x.c) (row_of y.c) (unfold row_of in refl),
      same-append (row_of x.a) (row_of y.a) (row_of x.b) (row_of y.b) (unfold row_of in refl),
      row_same x.a y.a hx.a hy.a,
      row_same x.b y.b hx.b hy.b,
      row_same x.c y.c hx.c hy.c,
      row_same x.d y.d hx.d hy.d,
    ) (simp and_assoc))

pub length-pixels : (x : Rows) → length (pixels x) ≡ 16
unfolding pixels row_of
length-pixels x = refl

-- the pixels, row by row
pub rows-put : (x : Rows) {a b c d : List ℕ} → a ≡ to_le_bytes w32 x.a → b ≡ to_le_bytes w32 x.b → c ≡ to_le_bytes w32 x.c → d ≡ to_le_bytes w32 x.d
    → put_mid 12 4 (put_mid 8 4 (put_mid 4 4 (a ++ replicate 12 0) b) c) d ≡ pixels x
unfolding pixels row_of
rows-put x ea eb ec ed = rw (ea, eb, ec, ed)

-- a block is of one colour where it equals sixteen of its first pixel
one-colour : (n c : ℕ) → colours (replicate (suc n) c) ≡ c ∷ []
unfolding colours insert if
one-colour zero c = refl
one-colour (suc n) c = rw (one-colour n c, eq-eqb c c refl)

pub plain-same : (px : List ℕ) → length px ≡ 16 → same (replicate 16 (get_or px 0 0)) px ≡ plain px
unfolding plain
plain-same px l = by (same (replicate 16 (get_or px 0 0)) px) (plain px) refl refl
  where
    flat : plain (replicate 16 (get_or px 0 0)) ≡ true
    flat = rw (one-colour 15 (get_or px 0 0))

    by : (s t : Bool) → same (replicate 16 (get_or px 0 0)) px ≡ s → plain px ≡ t → s ≡ t
    by true true es et = refl
    by true false es et = sym (sym et ∙ ap plain (sym (same_lists (replicate 16 (get_or px 0 0)) px es)) ∙ flat)
    by false true es et = sym es ∙ ap (λ (l : List ℕ). same l px) (sym (plain-all px l et)) ∙ same_self px
    by false false es et = refl
