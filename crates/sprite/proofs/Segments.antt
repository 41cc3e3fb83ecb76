-- What holds of a segment, and the equations of a row. Assumes nothing. Here s are the file's bytes.
use Prim.Native.Nat.{ℕ, ◌+◌, ◌-◌, ◌<◌, ◌≤◌}
use mathlib.Core.Path.{◌≡◌, refl, sym, ap, ◌∙◌, subst}
use mathlib.Core.Logic.{◌≢◌}
use mathlib.Core.List.{List, ◌++◌}
use native.Mathlib.Omega.{arith}
use lib.Dec.{ltb, eqb}
use lib.ListN.{length, get_or, length-map, length-replicate}
use borrow.Author.Tests.{lt-ltb, le-ltb, ltb-false, eqb-true, eqb-false, ne_eqb}
use Rattle.spec.specs.Basics.{if, part}
use Rattle.spec.specs.Answers.{ok, bad_segment}
use Rattle.spec.proofs.Lists.{by-test}
use Rattle.spec.proofs.Parts.{length_part}
use Rattle.spec.specs.declared.Refusal.{Refusal}
use Rattle.spec.specs.Answers.{refusal_number}
use Rattle.std.specs.Prelude.{Ok, Err}
use Rattle.sprite.specs.declared.heads.Segment as Code
use Rattle.sprite.specs.declared.heads.SegmentCode.{SegmentCode}
use Rattle.sprite.specs.declared.heads.SegmentCode.TheVariants as Of
use Rattle.sprite.specs.Read.{segment_code, shown, segment_result}
use Rattle.sprite.specs.Frames.{Segment, Shade, colour, Reading, reading, ended, follow, code_at, count_at, run_code, copy_code}
use Rattle.sprite.specs.Frames.{segment_bytes, segment_at, segment_says, shades, segment_turn, row_from}
use Rattle.sprite.proofs.Gathering.{Onward, stops, goes, gather-end, gather-turn}

-- segments that say the same are the same
pub segment-same : (x y : Segment) → segment_says x ≡ segment_says y → x ≡ y
segment-same Segment.Bad Segment.Bad h = refl
segment-same Segment.Bad (Segment.Pixels n p) h = absurd (omega (arith, ap length h))
segment-same (Segment.Pixels n p) Segment.Bad h = absurd (omega (arith, ap length h))
segment-same (Segment.Pixels n p) (Segment.Pixels m q) h = ap (λ (l : List ℕ). Segment.Pixels (get_or l 1 0) (get_or l 2 0)) h

-- of a segment that code was given, and of a refusal
pub segment-told : (x : Code.Segment × ℕ) {y : Segment} → segment_result (Ok x) ≡ segment_says y → Segment.Pixels (length (shown x.0)) x.1 ≡ y
segment-told x {y} e = segment-same (Segment.Pixels (length (shown x.0)) x.1) y e

pub segment-refused : (why : Refusal) (y : Segment) → segment_result (Err why) ≡ segment_says y → (Segment.Bad ≡ y) × (refusal_number why ≡ bad_segment)
segment-refused why Segment.Bad e = (refl, ap (λ (l : List ℕ). get_or l 0 0) e)
segment-refused why (Segment.Pixels n p) e = absurd (omega (arith, ap length e))

-- the bytes that a copy needs, and a run
pub bytes-copy : (code n : ℕ) → code ≡ copy_code → 2 + n ≤ segment_bytes code n
unfolding segment_bytes if
bytes-copy code n e = rw e (omega arith)

pub bytes_run : (code n : ℕ) → code ≡ run_code → segment_bytes code n ≡ 4
unfolding segment_bytes if
bytes_run code n e = rw e

-- a segment's code and count take two bytes, and none of the codes has none
pub some-bytes : (x : SegmentCode) (n : ℕ) → 2 ≤ segment_bytes (segment_code x) n
unfolding segment_bytes if
some-bytes Of.Clear n = omega arith
some-bytes Of.Run n = omega arith
some-bytes Of.Copy n = omega arith

pub no-bytes : (code n : ℕ) → ((x : SegmentCode) → ¬ (segment_code x ≡ code)) → segment_bytes code n ≡ 0
unfolding segment_bytes if
no-bytes code n h =
    rw (ne_eqb _ _ (λ e. h Of.Clear (sym e)), ne_eqb _ _ (λ e. h Of.Run (sym e)), ne_eqb _ _ (λ e. h Of.Copy (sym e)))

module _ (s : List ℕ) where
  -- the segment at a place is whole within its row
  pub record Stands (end room at n next : ℕ) : Type 0 where
    pub head : at + 2 ≤ end
    pub count : n ≡ count_at s at
    pub fits : n ≤ room
    pub after : next ≡ at + segment_bytes (code_at s at) (count_at s at)
    pub onward : at < next
    pub within : next ≤ end

  -- and, where all that is known, it is that segment
  pub pixels-at : (end room at n size : ℕ) → at + 2 ≤ end → count_at s at ≡ n → segment_bytes (code_at s at) n ≡ size → size ≢ 0 → at + size ≤ end → n ≤ room
      → segment_at s end room at ≡ Segment.Pixels n (at + size)
  unfolding segment_at if
  pixels-at end room at n size a b d f g k = rw (b, d, le-ltb _ _ a, ne_eqb _ _ f, le-ltb _ _ g, le-ltb _ _ k)

  abbrev Stood : (end room at : ℕ) → Segment → Type 0
  Stood end room at Segment.Bad = Unit {0}
  Stood end room at (Segment.Pixels n next) = Stands end room at n next

  stood : (end room at : ℕ) → Stood end room at (segment_at s end room at)
  unfolding segment_at
  stood end room at =
      let size = segment_bytes (code_at s at) (count_at s at) in
      by-test (Stood end room at) (ltb end (at + 2)) (λ t. tt) (λ a.
      by-test (Stood end room at) (eqb size 0) (λ t. tt) (λ b.
      by-test (Stood end room at) (ltb end (at + size)) (λ t. tt) (λ d.
      by-test (Stood end room at) (ltb room (count_at s at)) (λ t. tt) (λ e.
      let h = ltb-false end (at + 2) a in
      let g = ltb-false end (at + size) d in
      let n = eqb-false size 0 b in
      let l : at < at + size = omega arith in
      record { head = h; count = refl; fits = ltb-false room (count_at s at) e; after = refl; onward = l; within = g }))))

  pub stands : (end room at n next : ℕ) → Segment.Pixels n next ≡ segment_at s end room at → Stands end room at n next
  stands end room at n next e = subst (Stood end room at) (sym e) (stood end room at)

  -- as many shades as it counts pixels
  pub shades-count : (at : ℕ) → at + segment_bytes (code_at s at) (count_at s at) ≤ length s → length (shades s at) ≡ count_at s at
  unfolding shades
  shades-count at h =
      let P : List Shade → Type 0 = λ l. length l ≡ count_at s at in
      by-test P (eqb (code_at s at) run_code) (λ t. length-replicate _ _) (λ a.
      by-test P (eqb (code_at s at) copy_code)
      (λ t. let b = bytes-copy (code_at s at) (count_at s at) (eqb-true _ _ t) in
      length-map (part s (at + 2) (count_at s at)) colour ∙ length_part s (at + 2) (count_at s at) (omega arith))
      (λ t. length-replicate _ _))

  module _ (width end : ℕ) (h : end ≤ length s) where
    onward : (st : Reading Shade) → Onward (length s) st.at (segment_turn s st.at (segment_at s end (width - length st.made) st.at))
    onward st = by (segment_at s end (width - length st.made) st.at) (stood end (width - length st.made) st.at)
      where
        by : (x : Segment) → Stood end (width - length st.made) st.at x → Onward (length s) st.at (segment_turn s st.at x)
        by Segment.Bad k = stops
        by (Segment.Pixels n next) k = let w = k.within in goes k.onward (omega arith)

    pub row_done : (at : ℕ) (made : List Shade) → end ≤ at → row_from s width end (reading at made) ≡ ended ok made
    unfolding row_from
    row_done at made g = gather-end _ _ _ _ (reading at made) (le-ltb at end g)

    turned : (at : ℕ) (made : List Shade) → at < end
        → row_from s width end (reading at made) ≡ follow (row_from s width end) made (segment_turn s at (segment_at s end (width - length made) at))
    unfolding row_from
    turned at made g = gather-turn _ _ _ _ onward (reading at made) (lt-ltb at end g)

    pub row-bad : (at : ℕ) (made : List Shade) → at < end → segment_at s end (width - length made) at ≡ Segment.Bad
        → row_from s width end (reading at made) ≡ ended bad_segment made
    row-bad at made g e = turned at made g ∙ rw e

    pub row_more : (at : ℕ) (made : List Shade) (n next : ℕ) → at < end → segment_at s end (width - length made) at ≡ Segment.Pixels n next
        → row_from s width end (reading at made) ≡ row_from s width end (reading next (made ++ shades s at))
    row_more at made n next g e = turned at made g ∙ rw e
