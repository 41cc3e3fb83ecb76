-- What painting a segment makes of a picture. Assumes nothing.
use Prim.Native.Nat.{ℕ, ◌+◌, ◌-◌, ◌*◌, ◌<◌, ◌≤◌}
use mathlib.Core.Path.{◌≡◌, refl, sym, ap, ◌∙◌}
use mathlib.Core.Logic.{◌≢◌}
use mathlib.Core.List.{List, map}
use native.Mathlib.Nat.{min-le_left, pos_of_ne-zero}
use native.Mathlib.Omega.{arith}
use lib.ListN.{length, replicate, length-map, length-replicate}
use lib.LanesLaws.{map-replicate}
use lib.Seq.{sets, take-length}
use Rattle.std.proofs.lemmas.List.{take-replicate, drop-replicate}
use borrow.Rule.Slice.PartMut.{put_mid}
use Rattle.std.proofs.lemmas.List.Edits.{sets-eq}
use Rattle.std.proofs.lemmas.Slice.{put_mid-paste}
use Rattle.spec.specs.declared.Size.{Size}
use Rattle.spec.specs.Basics.{part}
use Rattle.spec.specs.Sizes.{pixels}
use Rattle.spec.proofs.Parts.{length_part}
use Rattle.sprite.specs.Frames.{Shade, colour}
use Rattle.sprite.specs.Symbols.{overlay}
use Rattle.sprite.specs.Strips.{origin, strip, hidden, column, seen, Clipped}
use Rattle.sprite.proofs.Clipping.{strip-unseen, strip-stored, strip-room}

-- a part of equal numbers
part-replicate : (n c a w : ℕ) → a + w ≤ n → part (replicate n c) a w ≡ replicate w c
part-replicate n c a w h = rw (drop-replicate a n c, take-replicate w (n - a) c (omega arith))

-- a part lent, and filled with other bytes
stored-mid : (pic vs : List ℕ) (start n : ℕ) → length vs ≡ n → start + length vs ≤ length pic → put_mid start n pic vs ≡ sets pic start vs
stored-mid pic vs start n l h =
    put_mid-paste start n pic vs vs n refl refl (sym l)
    ∙ rw (← l, take-length vs) refl
    ∙ sym (sets-eq vs pic start h)

-- what the code makes of a picture, by the numbers that it holds
module _ {z : Size} {count left y hd col sn : ℕ} (pic : List ℕ) (low : y < z.height) (exact : length pic ≡ pixels z)
    (e : Clipped z.width left count hd col sn) where
  abbrev painted : List Shade → List ℕ
  painted sh = overlay z (strip left (origin + y) sh) pic

  pub unseen-kept : (sh : List Shade) → count ≡ length sh → sn ≡ 0 → pic ≡ painted sh
  unseen-kept sh l q = strip-unseen z left y sh pic exact (ap (seen z.width left) (sym l) ∙ sym e.seen ∙ q)

  -- where some are seen, they are among those that it counts
  module _ (h : sn ≢ 0) where
    some : 0 < seen z.width left count
    some = pos_of_ne-zero (λ q. h (e.seen ∙ q))

    among : hidden left + seen z.width left count ≤ count
    among = let q = some in omega (arith, min-le_left (count - hidden left) (z.width - column left))

    pub seen-among : hd + sn ≤ count
    seen-among = rw (e.hidden, e.seen) among

    -- the stores of as many colours as it counts
    stores : (cs : List ℕ) → length cs ≡ count → sets pic (y * z.width + col) (part cs hd sn) ≡ painted (map colour cs)
    stores cs l =
        let n : sn ≡ seen z.width left (length cs) = e.seen ∙ ap (seen z.width left) (sym l) in
        rw (e.hidden, e.column, n) (strip-stored z left y cs pic low exact (rw l some))

    pub stores-within : y * z.width + col + sn ≤ length pic
    stores-within =
        let l = length-replicate {A = ℕ} count 0 in
        let g = strip-room z left y (replicate count 0) pic low exact (rw l some) in
        rw (e.column, e.seen) (rw l at g)

    -- what is put over the part that is lent, which is as long as the code has it
    module _ (w : ℕ) (f : w ≡ sn) where
      filled : (cs : List ℕ) → length cs ≡ count → put_mid (y * z.width + col) w pic (part cs hd sn) ≡ painted (map colour cs)
      filled cs l =
          let p : length (part cs hd sn) ≡ sn = length_part cs hd sn (rw l seen-among) in
          stored-mid pic (part cs hd sn) (y * z.width + col) w (p ∙ sym f) (rw p stores-within) ∙ stores cs l

      pub run-painted : (c n : ℕ) {vs : List ℕ} → count ≡ length (replicate n (colour c)) → vs ≡ replicate (length (part pic (y * z.width + col) w)) c
          → put_mid (y * z.width + col) w pic vs ≡ painted (replicate n (colour c))
      run-painted c n q g =
          let m : n ≡ count = sym (q ∙ length-replicate n (colour c)) in
          let p = length_part pic (y * z.width + col) sn stores-within in
          let k = rw f at filled (replicate count c) (length-replicate count c) in
          rw (g, m, f, p, ← part-replicate count c hd sn seen-among, ← map-replicate colour count c) k

      pub copy-painted : (cs : List ℕ) {vs : List ℕ} → count ≡ length (map colour cs) → vs ≡ part cs hd (hd + sn - hd)
          → put_mid (y * z.width + col) w pic vs ≡ painted (map colour cs)
      copy-painted cs q g =
          let d : hd + sn - hd ≡ sn = omega arith in
          rw (g, d) (filled cs (sym (q ∙ length-map cs colour)))
