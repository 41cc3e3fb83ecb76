-- How far a row, and a frame, has been read: what the loops of both passes go by. Assumes nothing. Here s are the file's bytes.
use Prim.Native.Nat.{ℕ, ◌+◌, ◌-◌, ◌<◌, ◌≤◌}
use mathlib.Core.Path.{◌≡◌, refl, sym, ◌∙◌}
use mathlib.Core.Logic.{◌≢◌}
use mathlib.Core.List.{List, [], ◌∷◌, ◌++◌}
use native.Mathlib.Omega.{arith}
use lib.ListN.{length, replicate, length-append, length-replicate}
use Rattle.spec.specs.Answers.{ok, bad_row, bad_segment}
use Rattle.sprite.specs.Frames.{Segment, RowHead, Shade, reading, ended, segment_at, shades, row_from, row, row_at, marker, rows_from, rows}
use Rattle.sprite.proofs.Segments.{stands, shades-count, row_done, row-bad, row_more}
use Rattle.sprite.proofs.RowHeads.{is-blank, is-data, rows-done, rows-bad, rows-blank, rows-data, rows-refused}

-- the x pixels that have been made of a row that starts at `first`, and the place of the next segment
pub record InRow (s : List ℕ) (width first end x next : ℕ) (made : List Shade) : Type 0 where
  pub size : length made ≡ x
  pub fits : x ≤ width
  pub place : next ≤ end
  pub same : row s width first end ≡ row_from s width end (reading next made)

module _ {s : List ℕ} {width first end : ℕ} where
  pub row-begins : first ≤ end → InRow s width first end 0 first []
  row-begins h = record { size = refl; fits = omega arith; place = h; same = refl }

  module _ {x next : ℕ} {made : List Shade} (h : end ≤ length s) (k : InRow s width first end x next made) where
    pub row-goes-on : {n after : ℕ} → next < end → Segment.Pixels n after ≡ segment_at s end (width - x) next → InRow s width first end (x + n) after (made ++ shades s next)
    row-goes-on {n} {after} l e =
        let g = stands s end (width - x) next n after e in
        let fits = g.fits in
        let wide = k.fits in
        let a = g.after in
        let w = g.within in
        let room : segment_at s end (width - length made) next ≡ Segment.Pixels n after = rw k.size (sym e) in
        record {
          size = length-append made (shades s next) ∙ rw (k.size, shades-count s next (omega arith), g.count);
          fits = omega arith;
          place = g.within;
          same = k.same ∙ row_more s width end h next made n after l room;
        }

    pub row-ends-bad : next < end → Segment.Bad ≡ segment_at s end (width - x) next → row s width first end ≡ ended bad_segment made
    row-ends-bad l e = k.same ∙ row-bad s width end h next made l (rw k.size (sym e))

    pub row_ends : end ≤ next → row s width first end ≡ ended ok made
    row_ends l = k.same ∙ row_done s width end h next made l

-- the y rows that have been made of a frame whose rows start at `first`, and the place of the next row's head
pub record InFrame (s : List ℕ) (height width first y at : ℕ) (made : List (List Shade)) : Type 0 where
  pub size : length made ≡ y
  pub fits : y ≤ height
  pub place : at ≤ length s
  pub same : rows s height width first ≡ rows_from s height width (reading at made)

module _ {s : List ℕ} {height width first : ℕ} where
  pub frame-begins : first ≤ length s → InFrame s height width first 0 first []
  frame-begins h = record { size = refl; fits = omega arith; place = h; same = refl }

  module _ {y at : ℕ} {made : List (List Shade)} (k : InFrame s height width first y at made) where
    pub frame-ends : height ≤ y → rows s height width first ≡ ended (marker s at) made
    frame-ends l = k.same ∙ rows-done s height width at made (rw k.size l)

    module _ (l : y < height) where
      more : length made < height
      more = rw k.size l

      pub frame-bad-row : RowHead.Bad ≡ row_at s (height - y) at → rows s height width first ≡ ended bad_row made
      frame-bad-row e = k.same ∙ rows-bad s height width at made more (rw k.size (sym e))

      pub frame-blank : {n : ℕ} → RowHead.Blank n ≡ row_at s (height - y) at → InFrame s height width first (y + n) (at + 2) (made ++ replicate n [])
      frame-blank {n} e =
          let g = is-blank s (height - y) at n e in
          let fits = g.fits in
          let none : List Shade = [] in
          record {
            size = length-append made (replicate n none) ∙ rw (k.size, length-replicate n none);
            fits = omega arith;
            place = g.head;
            same = k.same ∙ rows-blank s height width at made more n (rw k.size (sym e));
          }

      module _ {end : ℕ} (e : RowHead.Data end ≡ row_at s (height - y) at) where
        there : row_at s (height - length made) at ≡ RowHead.Data end
        there = rw k.size (sym e)

        pub frame-data : (row s width (at + 2) end).number ≡ ok → InFrame s height width first (y + 1) end (made ++ (row s width (at + 2) end).made ∷ [])
        frame-data o =
            record {
              size = length-append made ((row s width (at + 2) end).made ∷ []) ∙ rw k.size;
              fits = omega arith;
              place = (is-data s (height - y) at end e).within;
              same = k.same ∙ rows-data s height width at made more end there o;
            }

        pub frame-bad-segment : (row s width (at + 2) end).number ≢ ok → rows s height width first ≡ ended (row s width (at + 2) end).number made
        frame-bad-segment o = k.same ∙ rows-refused s height width at made more end there o
