-- A picture and a map painted as far as `made` goes, and one block more: what a loop that paints in place goes by. Assumes nothing.
use Prim.Native.Nat.{ℕ, zero, suc, ◌-◌, ◌*◌, ◌<◌, ◌≤◌}
use mathlib.Core.Path.{◌≡◌, refl, sym, ap, ◌∙◌}
use mathlib.Core.List.{List, [], ◌∷◌, ◌++◌, map, append_assoc, append-nil}
use native.Mathlib.Omega.{arith}
use lib.ListN.{length, get_or, set, length-append, length-map, get_or-append}
use lib.Seq.{set_at}
use Rattle.spec.specs.Basics.{from}
use Rattle.spec.specs.Pictures.{Origin, given, held, shown, block_at, paint, put_pixels, put_block}
use Rattle.spec.specs.Maps.{settled, entry, remap, unchanged}
use Rattle.spec.proofs.Lists.{length_from, map-set}
use Rattle.spec.proofs.Blocks.{shown-at, painted, paint-unchanged, put-painted}
use Rattle.spec.proofs.Origins.{remap-at, remap-unchanged}

-- what has been made, and every later block held
unfoldable pub so_far : ℕ → List Origin → List Origin
so_far n made = made ++ map held (from (length made) (n - length made))

pub length-so_far : (n : ℕ) (made : List Origin) → length made ≤ n → length (so_far n made) ≡ n
unfolding so_far
length-so_far n made h = simp (length-append, length-map, length_from) (omega arith)

-- nothing made, and all made
pub so_far-none : (n : ℕ) → so_far n [] ≡ unchanged n
unfolding so_far
so_far-none n =
    let e : n - 0 ≡ n = omega arith in
    rw e

pub so_far-all : (n : ℕ) (made : List Origin) → length made ≡ n → so_far n made ≡ made
unfolding so_far
so_far-all n made e =
    let z : n - length made ≡ 0 = omega arith in
    rw z (append-nil made)

-- the first later block is the held one
later : (n : ℕ) (made : List Origin) → length made < n
    → map held (from (length made) (n - length made)) ≡ held (length made) ∷ map held (from (suc (length made)) (n - suc (length made)))
later n made h =
    let e : n - length made ≡ suc (n - suc (length made)) = omega arith in
    rw e

so_far-one : (n : ℕ) (made : List Origin) (o : Origin)
    → so_far n (made ++ o ∷ []) ≡ made ++ o ∷ map held (from (suc (length made)) (n - suc (length made)))
unfolding so_far
so_far-one n made o =
    let e : length (made ++ o ∷ []) ≡ suc (length made) = length-append made (o ∷ []) ∙ omega arith in
    rw e (append_assoc made (o ∷ []) _)

-- one more origin is one entry set; one more block that is skipped is nothing
pub so_far-more : (n : ℕ) (made : List Origin) (o : Origin) → length made < n → set (so_far n made) (length made) o ≡ so_far n (made ++ o ∷ [])
unfolding so_far
so_far-more n made o h = rw (later n made h) (set_at made (held (length made)) _ o (length made) refl) ∙ sym (so_far-one n made o)

pub so_far-skip : (n : ℕ) (made : List Origin) → length made < n → so_far n (made ++ held (length made) ∷ []) ≡ so_far n made
unfolding so_far
so_far-skip n made h = so_far-one n made (held (length made)) ∙ rw (later n made h)

-- a block made earlier
pub so_far-made : (n : ℕ) (made : List Origin) (j : ℕ) → j < length made → get_or (so_far n made) j (held 0) ≡ get_or made j (held 0)
unfolding so_far
so_far-made n made j h = get_or-append made _ (held 0) j h

put_pixels-same : (c k : ℕ) (px px' : List ℕ) (m : ℕ) (pic : List ℕ) → ((i : ℕ) → i < m → get_or px i 0 ≡ get_or px' i 0)
    → put_pixels c k px m pic ≡ put_pixels c k px' m pic
unfolding put_pixels
put_pixels-same c k px px' zero pic h = refl
put_pixels-same c k px px' (suc i) pic h = rw (put_pixels-same c k px px' i pic (λ j l. h j (omega arith)), h i (omega arith))

-- the picture on the way: at the start, with one block given, and with one copied
module _ (c r : ℕ) (wide : 0 < c) (pic : List ℕ) where
  pub paint-none : length pic ≡ 4 * c * (4 * r) → paint c r (so_far (c * r) []) pic ≡ pic
  paint-none e = rw (so_far-none (c * r)) (paint-unchanged c r wide pic e)

  module _ (made : List Origin) (h : length made < c * r) where
    put_one : (o : Origin) → put_block c (length made) (shown c pic o) (paint c r (so_far (c * r) made) pic)
        ≡ paint c r (so_far (c * r) (made ++ o ∷ [])) pic
    put_one o =
        put-painted c r wide (length made) h (so_far (c * r) made) pic o (length-so_far (c * r) made (omega arith))
        ∙ rw (so_far-more (c * r) made o h)

    pub put-given : (px : List ℕ) → put_block c (length made) px (paint c r (so_far (c * r) made) pic) ≡ paint c r (so_far (c * r) (made ++ given px ∷ [])) pic
    put-given px =
        put_pixels-same c (length made) px (shown c pic (given px)) 16 _ (λ i l. sym (shown-at c pic (given px) i l))
        ∙ put_one (given px)

    -- a block made earlier shows its origin, so to copy it is to put that origin once more
    pub put_copy : (j : ℕ) → j < length made
        → put_block c (length made) (block_at c (paint c r (so_far (c * r) made) pic) j) (paint c r (so_far (c * r) made) pic)
        ≡ paint c r (so_far (c * r) (made ++ get_or made j (held 0) ∷ [])) pic
    put_copy j l =
        let e = painted c r wide (so_far (c * r) made) pic j (omega arith) ∙ ap (shown c pic) (so_far-made (c * r) made j l) in
        rw e (put_one (get_or made j (held 0)))

-- the map on the way: the same
module _ (n : ℕ) (m : List ℕ) where
  pub remap-none : length m ≡ n → remap (so_far n []) m ≡ m
  remap-none e = rw (so_far-none n) (remap-unchanged n m e)

  module _ (made : List Origin) (h : length made < n) where
    mark-one : (o : Origin) → set (remap (so_far n made) m) (length made) (entry m o) ≡ remap (so_far n (made ++ o ∷ [])) m
    unfolding remap
    mark-one o = sym (map-set (entry m) (so_far n made) (length made) o) ∙ rw (so_far-more n made o h)

    pub mark-given : (px : List ℕ) → set (remap (so_far n made) m) (length made) settled ≡ remap (so_far n (made ++ given px ∷ [])) m
    mark-given px = mark-one (given px)

    pub mark-copy : (j : ℕ) → j < length made
        → set (remap (so_far n made) m) (length made) (get_or (remap (so_far n made) m) j 0) ≡ remap (so_far n (made ++ get_or made j (held 0) ∷ [])) m
    mark-copy j l =
        let e = remap-at (so_far n made) m j (rw (length-so_far n made (omega arith)) (omega arith)) ∙ ap (entry m) (so_far-made n made j l) in
        rw e (mark-one (get_or made j (held 0)))
