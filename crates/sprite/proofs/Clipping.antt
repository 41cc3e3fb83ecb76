-- What the stores of a segment's seen pixels make of a picture. Assumes nothing.
use Prim.Native.Nat.{ℕ, ◌+◌, ◌-◌, ◌*◌, ◌/◌, ◌%◌, ◌<◌, ◌≤◌, min}
use mathlib.Core.Path.{◌≡◌, refl, sym, ap, ◌∙◌}
use mathlib.Core.Logic.{◌≢◌}
use mathlib.Core.List.{List, map}
use native.Mathlib.Nat.{mul_comm, mod-lt, div-add-mod', min-le_left, min-le_right}
use native.Mathlib.Omega.{arith}
use lib.Arith.{digits_lt, digits_div, digits_mod}
use lib.Dec.{ltb, eqb}
use lib.ListN.{length, get_or, length-map}
use lib.Seq.{sets, length-sets}
use borrow.Author.Tests.{eq-eqb, eqb-true, ltb-true, ltb-false}
use Rattle.spec.specs.declared.Size.{Size}
use Rattle.spec.specs.Basics.{if, part}
use Rattle.spec.specs.Sizes.{pixels}
use Rattle.spec.proofs.Lists.{get_d_map}
use Rattle.spec.proofs.Parts.{part_at, length_part, sets-in, sets-out}
use Rattle.sprite.specs.Frames.{Shade, background, colour}
use Rattle.sprite.specs.Symbols.{upon, overlay}
use Rattle.sprite.specs.Strips.{origin, along, strip, hidden, column, seen}
use Rattle.sprite.proofs.Splits.{split, split_at}
use Rattle.sprite.proofs.Overlays.{at, is-overlay, overlay-none}
use Rattle.sprite.proofs.Laying.{along-before, along-from, along-past, some-width}

-- what is used of the lesser of two
record Least (a b n : ℕ) : Type 0 where
  first : n ≤ a
  second : n ≤ b
  one : n < b → n ≡ a

least : (a b : ℕ) → Least a b (min a b)
least a b = record { first = min-le_left a b; second = min-le_right a b; one = λ l. omega (arith, l) }

module _ (z : Size) (left line : ℕ) (shades : List Shade) where
  -- of the picture's columns those at which none of the shades lies
  unseen-along : (n : ℕ) → Least (length shades - hidden left) (z.width - column left) n → (x : ℕ) → x < z.width
      → (x < column left → along left shades x ≡ background) × (column left + n ≤ x → along left shades x ≡ background)
  unseen-along n k x w = (
    λ h. along-before left shades x (omega arith),
    λ h.
        let e = k.one (omega arith) in
        along-past left shades x (omega arith),
  )

  -- and of its places: other rows, and such columns
  unseen : (p : ℕ) → p < pixels z → ((x : ℕ) → x < z.width → p ≡ line * z.width + x → along left shades x ≡ background)
      → at z (strip left (origin + line) shades) p ≡ background
  unfolding strip if
  unseen p b h =
      split (eqb (origin + p / z.width) (origin + line))
      (λ t.
      let q = eqb-true (origin + p / z.width) (origin + line) t in
      let e : p / z.width ≡ line = omega arith in
      rw t (h (p % z.width) (mod-lt p (some-width z p b)) (sym (div-add-mod' p z.width) ∙ ap (λ (y : ℕ). y * z.width + p % z.width) e)))
      (λ t. rw t)

  pub strip-unseen : (pic : List ℕ) → length pic ≡ pixels z → seen z.width left (length shades) ≡ 0 → pic ≡ overlay z (strip left (origin + line) shades) pic
  strip-unseen pic exact none =
      let k = least (length shades - hidden left) (z.width - column left) in
      overlay-none z (strip left (origin + line) shades) pic exact (λ p b.
      unseen p b (λ x w e.
      split (ltb x (column left))
      (λ t. (unseen-along _ k x w).0 (ltb-true x (column left) t))
      (λ t. let h = ltb-false x (column left) t in (unseen-along _ k x w).1 (omega arith))))

-- colours, of which one or more are seen
module _ (z : Size) (left line : ℕ) (cs pic : List ℕ) (low : line < z.height) (exact : length pic ≡ pixels z) where
  abbrev n : ℕ
  n = seen z.width left (length cs)

  abbrev start : ℕ
  start = line * z.width + column left

  abbrev shades : List Shade
  shades = map colour cs

  many : Least (length shades - hidden left) (z.width - column left) n
  many = rw (length-map cs colour) (least (length cs - hidden left) (z.width - column left))

  -- where one lies
  there : (j : ℕ) → j < n → at z (strip left (origin + line) shades) (start + j) ≡ colour (get_or cs (hidden left + j) 0)
  unfolding strip if
  there j h =
      let k = least (length cs - hidden left) (z.width - column left) in
      let f = k.first in
      let g = k.second in
      let in_row : column left + j < z.width = omega arith in
      let e : start + j ≡ line * z.width + (column left + j) = omega arith in
      let y : (start + j) / z.width ≡ line = rw e (digits_div line in_row) in
      let x : (start + j) % z.width ≡ column left + j = rw e (digits_mod line in_row) in
      let i : origin + (column left + j) - left ≡ hidden left + j = omega arith in
      let on : left ≤ origin + (column left + j) = omega arith in
      let inside : hidden left + j < length cs = omega arith in
      rw (y, x, eq-eqb (origin + line) (origin + line) refl)
      (along-from left shades (column left + j) on ∙ ap (λ (m : ℕ). get_or shades m background) i ∙ get_d_map colour cs (hidden left + j) background 0 inside)

  module _ (some : 0 < n) where
    abbrev stored : List ℕ
    stored = part cs (hidden left) n

    as_many : length stored ≡ n
    as_many =
        let f = (least (length cs - hidden left) (z.width - column left)).first in
        length_part cs (hidden left) n (omega arith)

    wide : column left + n ≤ z.width
    wide = let g = (least (length cs - hidden left) (z.width - column left)).second in omega arith

    pub strip-room : start + n ≤ length pic
    strip-room =
        let w = wide in
        let last : column left + n - 1 < z.width = omega arith in
        let l = digits_lt low last in
        let e : pixels z ≡ z.height * z.width = mul_comm z.width z.height in
        omega arith

    inside : (j : ℕ) → j < n → get_or (sets pic start stored) (start + j) 0 ≡ upon (at z (strip left (origin + line) shades) (start + j)) (get_or pic (start + j) 0)
    inside j h =
        sets-in pic start stored j 0 (rw as_many h) (rw as_many strip-room)
        ∙ part_at cs (hidden left) n j 0 h
        ∙ sym (ap (λ (s : Shade). upon s (get_or pic (start + j) 0)) (there j h))

    outside : (p : ℕ) → p < pixels z → ((j : ℕ) → j < n → p ≢ start + j) → at z (strip left (origin + line) shades) p ≡ background
        → get_or (sets pic start stored) p 0 ≡ upon (at z (strip left (origin + line) shades) p) (get_or pic p 0)
    outside p b h e =
        sets-out pic start stored p 0 (λ j g. h j (rw as_many at g))
        ∙ sym (ap (λ (s : Shade). upon s (get_or pic p 0)) e)

    each : (p : ℕ) → p < pixels z → get_or (sets pic start stored) p 0 ≡ upon (at z (strip left (origin + line) shades) p) (get_or pic p 0)
    each p b =
        let w = wide in
        split_at p start (start + n)
        (λ h. outside p b (λ j g e. omega (arith, e)) (unseen z left line shades p b (λ x l e. (unseen-along z left line shades n many x l).0 (omega arith))))
        (λ h g.
        let e : p ≡ start + (p - start) = omega arith in
        rw e (inside (p - start) (omega arith)))
        (λ h. outside p b (λ j g e. omega (arith, e)) (unseen z left line shades p b (λ x l e. (unseen-along z left line shades n many x l).1 (omega arith))))

    pub strip-stored : sets pic start stored ≡ overlay z (strip left (origin + line) shades) pic
    strip-stored = is-overlay z (strip left (origin + line) shades) pic (sets pic start stored) (length-sets pic start stored ∙ exact) each
