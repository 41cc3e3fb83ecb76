-- Strips laid one after the other make a row, and rows a frame. Assumes nothing.
use Prim.Native.Nat.{ℕ, zero, suc, ◌+◌, ◌-◌, ◌/◌, ◌%◌, ◌<◌, ◌≤◌}
use mathlib.Core.Path.{◌≡◌, refl, ◌∙◌}
use mathlib.Core.Logic.{◌≢◌}
use mathlib.Core.List.{List, [], ◌∷◌, ◌++◌}
use native.Mathlib.Nat.{zero-mul, mul_comm, div-lt_iff_lt-mul}
use native.Mathlib.Omega.{arith}
use lib.Dec.{ltb, eqb}
use lib.ListN.{length, get_or, replicate, get_or-replicate, length-replicate, get_or-append, get_or-eq_default}
use lib.Seq.{get_or-append_right}
use borrow.Author.Tests.{lt-ltb, le-ltb, ltb-true, ltb-false, ne_eqb, eqb-true, eqb-false}
use Rattle.spec.specs.declared.Size.{Size}
use Rattle.spec.specs.Basics.{if}
use Rattle.spec.specs.Sizes.{pixels}
use Rattle.sprite.specs.Frames.{Shade, background}
use Rattle.sprite.specs.Symbols.{upon, overlay}
use Rattle.sprite.specs.Strips.{origin, along, strip, sheet}
use Rattle.sprite.proofs.Splits.{split, split_at}
use Rattle.sprite.proofs.Overlays.{at, overlay-same, overlay-none, overlay-over}

-- an element of equal ones
get_d_default : {A : Type 0} (d : A) (n i : ℕ) → get_or (replicate n d) i d ≡ d
get_d_default d n i =
    split (ltb i n) (λ t. get_or-replicate n i d d (ltb-true i n t)) (λ t.
    get_or-eq_default (replicate n d) d (rw (length-replicate n d) (ltb-false i n t)))

-- `along` where it is known on which side of its beginning a column lies
pub along-before : (left : ℕ) (a : List Shade) (x : ℕ) → origin + x < left → along left a x ≡ background
unfolding along if
along-before left a x h = rw (lt-ltb (origin + x) left h)

pub along-from : (left : ℕ) (a : List Shade) (x : ℕ) → left ≤ origin + x → along left a x ≡ get_or a (origin + x - left) background
unfolding along if
along-from left a x h = rw (le-ltb (origin + x) left h)

pub along-past : (left : ℕ) (a : List Shade) (x : ℕ) → left + length a ≤ origin + x → along left a x ≡ background
along-past left a x h = along-from left a x (omega arith) ∙ get_or-eq_default a background (omega arith)

-- shades behind others
along-more : (left : ℕ) (a b : List Shade) (x old : ℕ) → upon (along (left + length a) b x) (upon (along left a x) old) ≡ upon (along left (a ++ b) x) old
along-more left a b x old =
    let i = origin + x in
    split_at i left (left + length a)
    (λ h. rw (along-before (left + length a) b x (omega arith), along-before left a x h, along-before left (a ++ b) x h))
    (λ h g.
    let l : i - left < length a = omega arith in
    rw (along-before (left + length a) b x g, along-from left a x h, along-from left (a ++ b) x h, get_or-append a b background (i - left) l))
    (λ h.
    let e : i - left - length a ≡ i - (left + length a) = omega arith in
    let l : length a ≤ i - left = omega arith in
    let n : left ≤ i = omega arith in
    rw (along-past left a x h, along-from (left + length a) b x h, along-from left (a ++ b) x n, get_or-append_right a b (i - left) background l, e))

along-clear : (left n x : ℕ) → along left (replicate n background) x ≡ background
along-clear left n x =
    split (ltb (origin + x) left)
    (λ t. along-before left (replicate n background) x (ltb-true (origin + x) left t))
    (λ t. along-from left (replicate n background) x (ltb-false (origin + x) left t) ∙ get_d_default background n (origin + x - left))

-- a picture with a pixel has columns, and the pixel lies in one of its rows
pub some-width : (z : Size) (p : ℕ) → p < pixels z → 0 < z.width
some-width z p h = by z.width refl
  where
    by : (w : ℕ) → z.width ≡ w → 0 < z.width
    by zero e = let none : pixels z ≡ 0 = rw e (zero-mul z.height) in absurd (omega arith)
    by (suc w) e = omega arith

row_below : (z : Size) (p : ℕ) → p < pixels z → p / z.width < z.height
row_below z p h = (div-lt_iff_lt-mul {k = z.width} (some-width z p h)).1 (rw (mul_comm z.height z.width) h)

module _ (z : Size) (left : ℕ) where
  pub strip-more : (line : ℕ) (a b : List Shade) (pic : List ℕ)
      → overlay z (strip (left + length a) line b) (overlay z (strip left line a) pic) ≡ overlay z (strip left line (a ++ b)) pic
  unfolding strip if
  strip-more line a b pic =
      overlay-over z (strip (left + length a) line b) (strip left line a) (strip left line (a ++ b)) pic (λ p old h.
      split (eqb (origin + p / z.width) line)
      (λ t. rw t (along-more left a b (p % z.width) old))
      (λ t. rw t))

  -- a strip that shows nothing
  module _ (line : ℕ) (shades : List Shade) (pic : List ℕ) (l : length pic ≡ pixels z) where
    nothing : ((x : ℕ) → along left shades x ≡ background) → (p : ℕ) → at z (strip left line shades) p ≡ background
    unfolding strip if
    nothing h p = split (eqb (origin + p / z.width) line) (λ t. rw t (h (p % z.width))) (λ t. rw t)

    strip-none : ((x : ℕ) → along left shades x ≡ background) → pic ≡ overlay z (strip left line shades) pic
    strip-none h = overlay-none z (strip left line shades) pic l (λ p b. nothing h p)

    -- in a row that is not the picture's
    apart : ((y : ℕ) → y < z.height → origin + y ≢ line) → (p : ℕ) → p < pixels z → at z (strip left line shades) p ≡ background
    unfolding strip if
    apart h p b = rw (ne_eqb (origin + p / z.width) line (h (p / z.width) (row_below z p b)))

    pub strip-off : ((y : ℕ) → y < z.height → origin + y ≢ line) → pic ≡ overlay z (strip left line shades) pic
    strip-off h = overlay-none z (strip left line shades) pic l (apart h)

  pub strip-clear : (line n : ℕ) (pic : List ℕ) → length pic ≡ pixels z → pic ≡ overlay z (strip left line (replicate n background)) pic
  strip-clear line n pic l = strip-none line (replicate n background) pic l (along-clear left n)

  module _ (top : ℕ) (rows : List (List Shade)) where
    -- below rows comes a row
    sheet-at : (sh : List Shade) (x y old : ℕ)
        → upon (strip left (top + length rows) sh x y) (upon (sheet left top rows x y) old) ≡ upon (sheet left top (rows ++ sh ∷ []) x y) old
    unfolding strip sheet if
    sheet-at sh x y old =
        let i = origin + y in
        let line = top + length rows in
        split_at i top line
        (λ h. let n : i ≢ line = λ e. omega (arith, e) in rw (lt-ltb i top h, ne_eqb i line n))
        (λ h g.
        let n : i ≢ line = λ e. omega (arith, e) in
        let m : i - top < length rows = omega arith in
        rw (le-ltb i top h, ne_eqb i line n, get_or-append rows (sh ∷ []) [] (i - top) m))
        (λ h.
        let t : top ≤ i = omega arith in
        let m : length rows ≤ i - top = omega arith in
        rw (le-ltb i top t, get_or-append_right rows (sh ∷ []) (i - top) [] m, get_or-eq_default rows [] m) (below i h))
      where
        below : (i : ℕ) → top + length rows ≤ i
            → upon (if (eqb i (top + length rows)) (along left sh x) background) (upon (along left [] x) old)
            ≡ upon (along left (get_or (sh ∷ []) (i - top - length rows) []) x) old
        below i h =
            split (eqb i (top + length rows))
            (λ t.
            let q = eqb-true i (top + length rows) t in
            let e : i - top - length rows ≡ 0 = omega arith in
            rw (t, e, along-clear left 0 x))
            (λ t.
            let q = eqb-false i (top + length rows) t in
            let m : 1 ≤ i - top - length rows = omega arith in
            rw (t, get_or-eq_default (sh ∷ []) [] m, along-clear left 0 x))

    pub sheet-row : (sh : List Shade) (pic : List ℕ)
        → overlay z (strip left (top + length rows) sh) (overlay z (sheet left top rows) pic) ≡ overlay z (sheet left top (rows ++ sh ∷ [])) pic
    sheet-row sh pic =
        overlay-over z (strip left (top + length rows) sh) (sheet left top rows) (sheet left top (rows ++ sh ∷ [])) pic (λ p old h.
        sheet-at sh (p % z.width) (p / z.width) old)

    -- and rows of background are as none
    blank-at : (n x y : ℕ) → sheet left top rows x y ≡ sheet left top (rows ++ replicate n []) x y
    unfolding sheet if
    blank-at n x y =
        let i = origin + y in
        split_at i top (top + length rows)
        (λ h. rw (lt-ltb i top h))
        (λ h g.
        let m : i - top < length rows = omega arith in
        rw (le-ltb i top h, get_or-append rows (replicate n []) [] (i - top) m))
        (λ h.
        let t : top ≤ i = omega arith in
        let m : length rows ≤ i - top = omega arith in
        let none = get_d_default {A = List Shade} [] n (i - top - length rows) in
        rw (le-ltb i top t, get_or-append_right rows (replicate n []) (i - top) [] m, get_or-eq_default rows [] m, none))

    pub sheet-blank : (n : ℕ) (pic : List ℕ) → overlay z (sheet left top rows) pic ≡ overlay z (sheet left top (rows ++ replicate n [])) pic
    sheet-blank n pic = overlay-same z (sheet left top rows) (sheet left top (rows ++ replicate n [])) pic (λ p h. blank-at n (p % z.width) (p / z.width))

  pub sheet-none : (top : ℕ) (pic : List ℕ) → length pic ≡ pixels z → pic ≡ overlay z (sheet left top []) pic
  sheet-none top pic l = overlay-none z (sheet left top []) pic l (λ p h. none (p % z.width) (p / z.width))
    where
      none : (x y : ℕ) → sheet left top [] x y ≡ background
      none x y = unfold sheet in unfold if in split (ltb (origin + y) top) (λ t. rw t) (λ t. rw (t, along-clear left 0 x))
