-- What an allowed size is good for, and the checks that come first. Assumes nothing.
use Prim.Native.Nat.{ℕ, ◌*◌, ◌/◌, ◌%◌, ◌<◌, ◌≤◌}
use mathlib.Core.Path.{◌≡◌, refl, sym}
use mathlib.Core.Logic.{◌≢◌}
use mathlib.Core.Bool.{Bool, true, false, ◌&&◌, and-eq-true_iff, true≢false}
use native.Mathlib.Nat.{mul-le-mul, mul-pos}
use native.Mathlib.Omega.{arith}
use lib.Dec.{eqb, leb}
use lib.ListN.{length}
use borrow.Author.Tests.{eq-eqb, eqb-true, leb-true}
use Rattle.spec.specs.declared.Size.{Size}
use Rattle.spec.specs.Basics.{if}
use Rattle.spec.specs.Answers.{ok, bad_size, bad_length}
use Rattle.spec.specs.Sizes.{side, max_width, max_height, max_columns, max_lines, max_blocks, max_pixels, allowed, pixels, columns, lines, blocks}
use Rattle.spec.specs.Sizes.{same_size, fault}
use Rattle.spec.specs.Maps.{settled}
use Rattle.spec.specs.Boards.{Board, Exact, exact}

record Side (most x : ℕ) : Type 0 where
  whole : 4 * (x / 4) ≡ x
  some : 0 < x / 4
  within : x ≤ most

side-of : (most x : ℕ) → side most x ≡ true → Side most x
unfolding side
side-of most x e =
    let a = (and-eq-true_iff (eqb (x % 4) 0 && leb 4 x) (leb x most)).0 e in
    let b = (and-eq-true_iff (eqb (x % 4) 0) (leb 4 x)).0 a.0 in
    let f = eqb-true (x % 4) 0 b.0 in
    let g = leb-true 4 x b.1 in
    record { whole = omega arith; some = omega arith; within = leb-true x most a.1 }

pub record Allowed (z : Size) : Type 0 where
  pub width : 4 * columns z ≡ z.width
  pub height : 4 * lines z ≡ z.height
  pub wide : 0 < columns z
  pub narrow : columns z ≤ max_columns
  pub low : lines z ≤ max_lines
  pub some : 0 < blocks z
  pub few : blocks z ≤ max_blocks
  pub small : pixels z ≤ max_pixels

-- as many blocks as the limits allow
pub blocks-most : (c r : ℕ) → c ≤ max_columns → r ≤ max_lines → c * r ≤ max_blocks
blocks-most c r a b = mul-le-mul {n₂ = max_columns} {m₂ = max_lines} a b

pub allowed-size : (z : Size) → allowed z ≡ true → Allowed z
allowed-size z e =
    let both = (and-eq-true_iff (side max_width z.width) (side max_height z.height)).0 e in
    let a = side-of max_width z.width both.0 in
    let b = side-of max_height z.height both.1 in
    let w = a.within in
    let h = b.within in
    record {
      width = a.whole;
      height = b.whole;
      wide = a.some;
      narrow = omega arith;
      low = omega arith;
      some = mul-pos a.some b.some;
      few = blocks-most (columns z) (lines z) (omega arith) (omega arith);
      small = mul-le-mul {n₂ = max_width} {m₂ = max_height} w h;
    }

-- no block's number is the mark
pub blocks-below-mark : (z : Size) → allowed z ≡ true → blocks z < settled
blocks-below-mark z e = let few = (allowed-size z e).few in omega arith

-- the pixels of a picture, by its blocks
pub area : (z : Size) → allowed z ≡ true → 4 * columns z * (4 * lines z) ≡ pixels z
area z e = let s = allowed-size z e in rw (s.width, s.height)

pub exact-true : (z : Size) (b : Board) → Exact z b → exact z b ≡ true
exact-true z b e = rw (eq-eqb (length b.picture) (pixels z) e.picture, eq-eqb (length b.map) (blocks z) e.map)

pub exact-known : (z : Size) (b : Board) → exact z b ≡ true → Exact z b
exact-known z b t =
    let both = (and-eq-true_iff (eqb (length b.picture) (pixels z)) (eqb (length b.map) (blocks z))).0 t in
    record { picture = eqb-true _ _ both.0; map = eqb-true _ _ both.1 }

-- 1 and 2, and where the size is allowed and the lengths are right, neither
pub fault-size : (z : Size) (t : Bool) → allowed z ≡ false → fault z t ≡ bad_size
unfolding fault if
fault-size z t a = rw a

pub fault-length : (z : Size) (t : Bool) → allowed z ≡ true → t ≡ false → fault z t ≡ bad_length
unfolding fault if
fault-length z t a e = rw (a, e)

pub fault-none : (z : Size) (t : Bool) → allowed z ≡ true → t ≡ true → fault z t ≡ ok
unfolding fault if
fault-none z t a e = rw (a, e)

-- where one of them is given
pub by-fault : (P : ℕ → Type 0) (z : Size) (t : Bool) → fault z t ≢ ok → P bad_size → P bad_length → P (fault z t)
unfolding fault if
by-fault P z t = by (allowed z) t
  where
    by : (a t : Bool) → let e = if a (if t ok bad_length) bad_size in e ≢ ok → P bad_size → P bad_length → P e
    by true true h p q = absurd (h refl)
    by true false h p q = q
    by false t h p q = p

-- the other way round
pub no-fault-both : (z : Size) (t : Bool) → fault z t ≡ ok → (allowed z ≡ true) × (t ≡ true)
unfolding fault
no-fault-both z t e = by (allowed z) t e
  where
    by : (a b : Bool) → if a (if b ok bad_length) bad_size ≡ ok → (a ≡ true) × (b ≡ true)
    by true true e = (refl, refl)
    by true false e = unfold if in absurd (omega (arith, e))
    by false b e = unfold if in absurd (omega (arith, e))

-- where two lengths were looked at
pub no-fault-lengths : (z : Size) (a b p q : ℕ) → fault z (eqb a p && eqb b q) ≡ ok → (allowed z ≡ true) × ((a ≡ p) × (b ≡ q))
no-fault-lengths z a b p q e =
    let f = no-fault-both z (eqb a p && eqb b q) e in
    let both = (and-eq-true_iff (eqb a p) (eqb b q)).0 f.1 in
    (f.0, (eqb-true a p both.0, eqb-true b q both.1))

-- where the size is allowed, it is the lengths alone
pub fault-allowed : (z : Size) (t : Bool) → allowed z ≡ true → fault z t ≡ if t ok bad_length
unfolding fault if
fault-allowed z t a = rw a

-- of two tests the first that fails decides, and the second where the first is met
pub fault-first : (z : Size) (a b : Bool) → fault z a ≢ ok → fault z (a && b) ≡ fault z a
unfolding fault
fault-first z a b = by (allowed z) a b
  where
    by : (l a b : Bool) → if l (if a ok bad_length) bad_size ≢ ok → if l (if (a && b) ok bad_length) bad_size ≡ if l (if a ok bad_length) bad_size
    by true true b h = unfold if in absurd (h refl)
    by true false b h = unfold if in refl
    by false a b h = unfold if in refl

pub fault-second : (z : Size) (a b : Bool) → fault z a ≡ ok → fault z (a && b) ≡ fault z b
fault-second z a b e = rw (no-fault-both z a e).1

-- two sizes that the test finds the same are one
pub same_size_lem : (y z : Size) → same_size y z ≡ true → y ≡ z
same_size_lem y z t =
    let both = (and-eq-true_iff (eqb y.width z.width) (eqb y.height z.height)).0 t in
    let w = eqb-true y.width z.width both.0 in
    let h = eqb-true y.height z.height both.1 in
    λ i. record { width = w i; height = h i }

-- where something is not right, 1 or 2 is given
pub fault-somehow : (z : Size) → fault z false ≢ ok
fault-somehow z e = true≢false (sym (no-fault-both z false e).1)

pub size-itself : (z : Size) → same_size z z ≡ true
size-itself z = rw (eq-eqb z.width z.width refl, eq-eqb z.height z.height refl)
