-- Pixel i of block k stands at one place of the picture, and that place is pixel i of block k. Assumes nothing.
use Prim.Native.Nat.{ℕ, ◌+◌, ◌*◌, ◌/◌, ◌%◌, ◌<◌}
use mathlib.Core.Path.{◌≡◌}
use native.Mathlib.Nat.{mod-lt, div-add-mod', div-lt_iff_lt-mul, mul_comm}
use native.Mathlib.Omega.{arith}
use lib.Arith.{digits_lt, digits_div, digits_mod}
use Rattle.spec.specs.Pictures.{place, block_of, pixel_of}

module _ (c r : ℕ) (wide : 0 < c) where
  module _ (k i : ℕ) (hk : k < c * r) (hi : i < 16) where
    low : 4 * (k % c) + i % 4 < 4 * c
    low = omega (arith, mod-lt k {m = c} wide)

    row : place c k i / (4 * c) ≡ 4 * (k / c) + i / 4
    unfolding place
    row = digits_div (4 * (k / c) + i / 4) low

    column : place c k i % (4 * c) ≡ 4 * (k % c) + i % 4
    unfolding place
    column = digits_mod (4 * (k / c) + i / 4) low

    pub block-of-place : block_of c (place c k i) ≡ k
    unfolding block_of
    block-of-place =
        let y : (4 * (k / c) + i / 4) / 4 ≡ k / c = omega arith in
        let x : (4 * (k % c) + i % 4) / 4 ≡ k % c = omega arith in
        rw (row, column, y, x) (div-add-mod' k c)

    pub pixel-of-place : pixel_of c (place c k i) ≡ i
    unfolding pixel_of
    pixel-of-place = rw (row, column) (omega arith)

    pub place-below : place c k i < 4 * c * (4 * r)
    unfolding place
    place-below =
        let h : k / c < r = (div-lt_iff_lt-mul wide).1 (rw (mul_comm r c) hk) in
        rw (mul_comm (4 * c) (4 * r)) (digits_lt {m = 4 * r} (omega arith) low)

  -- the other way round
  module _ (p : ℕ) (hp : p < 4 * c * (4 * r)) where
    in_row : p % (4 * c) < 4 * c
    in_row = mod-lt p {m = 4 * c} (omega arith)

    pub pixel-below : pixel_of c p < 16
    unfolding pixel_of
    pixel-below = omega arith

    pub block-below : block_of c p < c * r
    unfolding block_of
    block-below =
        let h : p / (4 * c) < 4 * r = (div-lt_iff_lt-mul {k = 4 * c} (omega arith)).1 (rw (mul_comm (4 * r) (4 * c)) hp) in
        let g = in_row in
        rw (mul_comm c r) (digits_lt {m = r} (omega arith) (omega arith))

    pub place_of : place c (block_of c p) (pixel_of c p) ≡ p
    unfolding place block_of pixel_of
    place_of =
        let g = in_row in
        let s : p % (4 * c) / 4 < c = omega arith in
        let a = digits_div (p / (4 * c) / 4) s in
        let b = digits_mod (p / (4 * c) / 4) s in
        let y : 4 * (p / (4 * c) / 4) + (4 * (p / (4 * c) % 4) + p % (4 * c) % 4) / 4 ≡ p / (4 * c) = omega arith in
        let x : 4 * (p % (4 * c) / 4) + (4 * (p / (4 * c) % 4) + p % (4 * c) % 4) % 4 ≡ p % (4 * c) = omega arith in
        rw (a, b, y, x) (div-add-mod' p (4 * c))
