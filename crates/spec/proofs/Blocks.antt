-- What everything above goes by instead of pixels' places: get after put, lengths, equality by blocks, and what a painted picture shows.
-- Assumes nothing.
use Prim.Native.Nat.{ℕ, zero, suc, ◌*◌, ◌<◌, ◌≤◌}
use mathlib.Core.Path.{◌≡◌, refl, sym, ap, ◌∙◌}
use mathlib.Core.Logic.{◌≢◌}
use mathlib.Core.List.{List}
use native.Mathlib.Decide.{ℕ_discrete}
use native.Mathlib.Omega.{arith}
use lib.ListN.{length, get_or, set, replicate, length-map, length-set, get_or-replicate}
use lib.Seq.{get_or-set_same, get_or-set_other, ext_get_or}
use Rattle.spec.specs.Pictures.{Origin, given, held, place, block_of, pixel_of, pixel, shown, block_at, paint, put_pixels, put_block}
use Rattle.spec.specs.Maps.{unchanged}
use Rattle.spec.proofs.Lists.{get_or-rule, map-congr, length_from, every-from, every-weaken}
use Rattle.spec.proofs.Places.{block-of-place, pixel-of-place, place-below, pixel-below, block-below, place_of}

-- an origin shows sixteen pixels, and two that agree on each show the same
pub length-shown : (c : ℕ) (pic : List ℕ) (o : Origin) → length (shown c pic o) ≡ 16
unfolding shown
length-shown c pic o = simp (length-map, length_from)

pub shown-at : (c : ℕ) (pic : List ℕ) (o : Origin) (i : ℕ) → i < 16 → get_or (shown c pic o) i 0 ≡ pixel c pic o i
unfolding shown
shown-at c pic o i h = get_or-rule (pixel c pic o) 16 i 0 h

pub shown-same : (c : ℕ) (pic pic' : List ℕ) (o o' : Origin) → ((i : ℕ) → i < 16 → pixel c pic o i ≡ pixel c pic' o' i) → shown c pic o ≡ shown c pic' o'
unfolding shown
shown-same c pic pic' o o' h = map-congr (every-weaken h (every-from 0 16 16 (omega arith)))

pub length-paint : (c r : ℕ) (os : List Origin) (pic : List ℕ) → length (paint c r os pic) ≡ 4 * c * (4 * r)
unfolding paint
length-paint c r os pic = simp (length-map, length_from)

module _ (c r : ℕ) (wide : 0 < c) where
  pub paint-at : (os : List Origin) (pic : List ℕ) (p : ℕ) → p < 4 * c * (4 * r)
      → get_or (paint c r os pic) p 0 ≡ pixel c pic (get_or os (block_of c p) (held 0)) (pixel_of c p)
  unfolding paint
  paint-at os pic p hp = get_or-rule _ (4 * c * (4 * r)) p 0 hp

  -- a painted picture shows each origin in its block
  pub painted : (os : List Origin) (pic : List ℕ) (k : ℕ) → k < c * r → block_at c (paint c r os pic) k ≡ shown c pic (get_or os k (held 0))
  painted os pic k hk =
      shown-same c (paint c r os pic) pic (held k) (get_or os k (held 0)) (λ i hi.
      paint-at os pic (place c k i) (place-below c r wide k i hk hi) ∙ rw (block-of-place c r wide k i hk hi, pixel-of-place c r wide k i hk hi))

  -- two pictures whose blocks are all equal are equal
  pub equal-by-blocks : (p q : List ℕ) → length p ≡ 4 * c * (4 * r) → length q ≡ 4 * c * (4 * r)
      → ((k : ℕ) → k < c * r → block_at c p k ≡ block_at c q k) → p ≡ q
  equal-by-blocks p q ep eq h =
      ext_get_or 0 p q (ep ∙ sym eq) (λ i hi.
      let b : i < 4 * c * (4 * r) = rw ep at hi in
      let j = pixel_of c i in
      let hj = pixel-below c r wide i b in
      let at = place_of c r wide i b in
      ap (λ (x : ℕ). get_or p x 0) (sym at)
      ∙ sym (shown-at c p (held (block_of c i)) j hj)
      ∙ ap (λ (l : List ℕ). get_or l j 0) (h (block_of c i) (block-below c r wide i b))
      ∙ shown-at c q (held (block_of c i)) j hj
      ∙ ap (λ (x : ℕ). get_or q x 0) at)

  -- a picture of one colour shows it in every block
  pub shown-plain : (x k i : ℕ) → k < c * r → i < 16 → get_or (block_at c (replicate (4 * c * (4 * r)) x) k) i 0 ≡ x
  shown-plain x k i hk hi =
      shown-at c (replicate (4 * c * (4 * r)) x) (held k) i hi
      ∙ get_or-replicate {A = ℕ} (4 * c * (4 * r)) (place c k i) x 0 (place-below c r wide k i hk hi)

  -- nothing painted
  pub paint-unchanged : (pic : List ℕ) → length pic ≡ 4 * c * (4 * r) → paint c r (unchanged (c * r)) pic ≡ pic
  paint-unchanged pic e =
      equal-by-blocks (paint c r (unchanged (c * r)) pic) pic (length-paint c r (unchanged (c * r)) pic) e (λ k hk.
      painted (unchanged (c * r)) pic k hk ∙ ap (shown c pic) (get_or-rule held (c * r) k (held 0) hk))

pub length-put_pixels : (c k : ℕ) (px : List ℕ) (m : ℕ) (pic : List ℕ) → length (put_pixels c k px m pic) ≡ length pic
unfolding put_pixels
length-put_pixels c k px zero pic = refl
length-put_pixels c k px (suc i) pic = length-set (put_pixels c k px i pic) (place c k i) (get_or px i 0) ∙ length-put_pixels c k px i pic

module _ (c r : ℕ) (wide : 0 < c) (k : ℕ) (hk : k < c * r) where
  -- a pixel outside block k, and one of those put
  put-out : (px pic : List ℕ) (m p : ℕ) → m ≤ 16 → block_of c p ≢ k → get_or (put_pixels c k px m pic) p 0 ≡ get_or pic p 0
  unfolding put_pixels
  put-out px pic zero p l ne = refl
  put-out px pic (suc i) p l ne =
      get_or-set_other (put_pixels c k px i pic) (place c k i) p (get_or px i 0) 0
      (λ e. ne (ap (block_of c) e ∙ block-of-place c r wide k i hk (omega arith)))
      ∙ put-out px pic i p (omega arith) ne

  put_in : (px pic : List ℕ) (m i : ℕ) → m ≤ 16 → i < m → length pic ≡ 4 * c * (4 * r) → get_or (put_pixels c k px m pic) (place c k i) 0 ≡ get_or px i 0
  unfolding put_pixels
  put_in px pic zero i l h e = absurd (omega arith)
  put_in px pic (suc m) i l h e = by (ℕ_discrete i m) (λ g. put_in px pic m i (omega arith) g e)
    where
      here : (j : ℕ) → j < 16 → place c k j < length (put_pixels c k px m pic)
      here j hj = rw (length-put_pixels, e) (place-below c r wide k j hk hj)

      by : Dec (i ≡ m) → (i < m → get_or (put_pixels c k px m pic) (place c k i) 0 ≡ get_or px i 0)
          → get_or (set (put_pixels c k px m pic) (place c k m) (get_or px m 0)) (place c k i) 0 ≡ get_or px i 0
      by (yes q) ih = rw q (get_or-set_same (put_pixels c k px m pic) (place c k m) (get_or px m 0) 0 (here m (omega arith)))
      by (no q) ih =
          get_or-set_other (put_pixels c k px m pic) (place c k m) (place c k i) (get_or px m 0) 0
          (λ a. q (sym (pixel-of-place c r wide k i hk (omega arith)) ∙ ap (pixel_of c) a ∙ pixel-of-place c r wide k m hk (omega arith)))
          ∙ ih (omega arith)

  -- get after put: the same block, and another
  pub get-put-same : (px pic : List ℕ) → length pic ≡ 4 * c * (4 * r) → block_at c (put_block c k px pic) k ≡ shown c pic (given px)
  get-put-same px pic e = shown-same c (put_block c k px pic) pic (held k) (given px) (λ i hi. put_in px pic 16 i (omega arith) hi e)

  pub get-put-other : (px pic : List ℕ) (j : ℕ) → j < c * r → j ≢ k → block_at c (put_block c k px pic) j ≡ block_at c pic j
  get-put-other px pic j hj ne =
      shown-same c (put_block c k px pic) pic (held j) (held j) (λ i hi.
      put-out px pic 16 (place c j i) (omega arith) (λ e. ne (sym (block-of-place c r wide j i hj hi) ∙ e)))

  -- a block put into a painted picture is one more origin painted
  pub put-painted : (os : List Origin) (pic : List ℕ) (o : Origin) → length os ≡ c * r
      → put_block c k (shown c pic o) (paint c r os pic) ≡ paint c r (set os k o) pic
  put-painted os pic o e =
      equal-by-blocks c r wide _ _ (length-put_pixels c k (shown c pic o) 16 (paint c r os pic) ∙ length-paint c r os pic)
      (length-paint c r (set os k o) pic) (λ j hj. by j hj (ℕ_discrete j k))
    where
      by : (j : ℕ) → j < c * r → Dec (j ≡ k) → block_at c (put_block c k (shown c pic o) (paint c r os pic)) j ≡ block_at c (paint c r (set os k o) pic) j
      by j hj (yes q) =
          rw q (get-put-same (shown c pic o) (paint c r os pic) (length-paint c r os pic)
          ∙ shown-same c (paint c r os pic) pic (given (shown c pic o)) o (λ i hi. shown-at c pic o i hi)
          ∙ sym (painted c r wide (set os k o) pic k hk ∙ rw (get_or-set_same os k o (held 0) (rw e hk))))
      by j hj (no q) =
          get-put-other (shown c pic o) (paint c r os pic) j hj q
          ∙ painted c r wide os pic j hj
          ∙ sym (painted c r wide (set os k o) pic j hj ∙ rw (get_or-set_other os k j o (held 0) q))
