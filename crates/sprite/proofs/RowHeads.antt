-- What holds of a row's head, and the equations of a frame's rows. Assumes nothing. Here s are the file's bytes.
use Prim.Native.Nat.{ℕ, suc, ◌+◌, ◌-◌, ◌<◌, ◌≤◌}
use mathlib.Core.Path.{◌≡◌, refl, sym, ap, ◌∙◌, subst}
use mathlib.Core.Logic.{◌≢◌}
use mathlib.Core.List.{List, [], ◌∷◌, ◌++◌}
use mathlib.Core.Bool.{◌&&◌, and-eq-true_iff}
use native.Mathlib.Numerals.{add-one}
use native.Mathlib.Omega.{arith}
use lib.Dec.{leb, ltb, eqb}
use lib.ListN.{length, get_or, drop, replicate, length-drop}
use lib.Seq.{drop-cons}
use borrow.Author.Tests.{lt-ltb, le-ltb, le-leb, leb-true, ltb-false, eqb-true, ne_eqb}
use Rattle.spec.specs.Basics.{if}
use Rattle.spec.specs.Answers.{ok, bad_row, no_end_marker}
use Rattle.spec.proofs.Lists.{by-test}
use Rattle.spec.specs.declared.Refusal.{Refusal}
use Rattle.spec.specs.Answers.{refusal_number}
use Rattle.std.specs.Prelude.{Ok, Err}
use Rattle.sprite.specs.declared.heads.RowHead as Read
use Rattle.sprite.specs.declared.heads.RowHead.TheVariants as Code
use Rattle.sprite.specs.declared.files.Row.{Row}
use Rattle.sprite.specs.Held.{row_of}
use Rattle.sprite.specs.Read.{row_head_result, RowRead}
use Rattle.sprite.specs.Frames.{RowHead, Shade, Reading, reading, Ended, ended, follow, code_at, count_at, blank_code, data_code, end_code}
use Rattle.sprite.specs.Frames.{row_at, row_head_says, row, data_turn, row_turn, marker, rows_from}
use Rattle.sprite.proofs.Gathering.{Onward, stops, goes, gather-end, gather-turn}

-- heads that say the same are the same
pub row-head-same : (x y : RowHead) → row_head_says x ≡ row_head_says y → x ≡ y
row-head-same RowHead.Bad RowHead.Bad h = refl
row-head-same RowHead.Bad (RowHead.Blank n) h = absurd (omega (arith, ap length h))
row-head-same RowHead.Bad (RowHead.Data end) h = absurd (omega (arith, ap length h))
row-head-same (RowHead.Blank n) RowHead.Bad h = absurd (omega (arith, ap length h))
row-head-same (RowHead.Blank n) (RowHead.Blank m) h = ap (λ (l : List ℕ). RowHead.Blank (get_or l 2 0)) h
row-head-same (RowHead.Blank n) (RowHead.Data end) h = absurd (omega (arith, ap (λ (l : List ℕ). get_or l 1 0) h))
row-head-same (RowHead.Data end) RowHead.Bad h = absurd (omega (arith, ap length h))
row-head-same (RowHead.Data end) (RowHead.Blank n) h = absurd (omega (arith, ap (λ (l : List ℕ). get_or l 1 0) h))
row-head-same (RowHead.Data end) (RowHead.Data last) h = ap (λ (l : List ℕ). RowHead.Data (get_or l 2 0)) h

-- of a head that code was given, and of a refusal
pub blank-told : {x : Read.RowHead} {n : ℕ} {y : RowHead} → x ≡ Code.Blank n → row_head_result (Ok x) ≡ row_head_says y → RowHead.Blank n ≡ y
blank-told {x} {n} {y} g e = row-head-same (RowHead.Blank n) y (rw g at e)

pub data-told : {x : Read.RowHead} {r : Row} {y : RowHead} → x ≡ Code.Data r → row_head_result (Ok x) ≡ row_head_says y → RowHead.Data r.end ≡ y
data-told {x} {r} {y} g e = row-head-same (RowHead.Data r.end) y (rw g at e)

pub data-row : (s : List ℕ) (width at : ℕ) {x : Read.RowHead} {r : Row} → x ≡ Code.Data r → RowRead s width at x → row_of r ≡ row s width (at + 2) r.end
data-row s width at g e = rw g at e

pub row-head-refused : (why : Refusal) (y : RowHead) → row_head_result (Err why) ≡ row_head_says y → (RowHead.Bad ≡ y) × (refusal_number why ≡ bad_row)
row-head-refused why RowHead.Bad e = (refl, ap (λ (l : List ℕ). get_or l 0 0) e)
row-head-refused why (RowHead.Blank n) e = absurd (omega (arith, ap length e))
row-head-refused why (RowHead.Data n) e = absurd (omega (arith, ap length e))

-- the marker after the rows, by what stands from a place on
module _ (s : List ℕ) (at : ℕ) where
  second : at + 2 ≤ length s → drop at s ≡ code_at s at ∷ count_at s at ∷ drop (suc (suc at)) s
  second h =
      drop-cons s at 0 (omega arith)
      ∙ ap (λ (t : List ℕ). code_at s at ∷ t) (drop-cons s (suc at) 0 (omega arith) ∙ rw add-one)

  pub marker-ends : (rest : List ℕ) → drop at s ≡ end_code ∷ 0 ∷ rest → marker s at ≡ ok
  unfolding marker if
  marker-ends rest e =
      let l = ap length e in
      let d = length-drop at s in
      let h : at + 2 ≤ length s = omega arith in
      let p = second h in
      let a : code_at s at ≡ end_code = cc in
      let b : count_at s at ≡ 0 = cc in
      rw (le-leb _ _ h, a, b)

  pub marker-else : ((rest : List ℕ) → ¬ (drop at s ≡ end_code ∷ 0 ∷ rest)) → marker s at ≡ no_end_marker
  unfolding marker
  marker-else k =
      let rest = leb (at + 2) (length s) in
      by-test (λ (n : ℕ). n ≡ no_end_marker) (rest && (eqb (code_at s at) end_code && eqb (count_at s at) 0))
      (λ t.
      let both = (and-eq-true_iff rest (eqb (code_at s at) end_code && eqb (count_at s at) 0)).0 t in
      let two = (and-eq-true_iff (eqb (code_at s at) end_code) (eqb (count_at s at) 0)).0 both.1 in
      let a = eqb-true (code_at s at) end_code two.0 in
      let b = eqb-true (count_at s at) 0 two.1 in
      let p = second (leb-true _ _ both.0) in
      absurd (k (drop (suc (suc at)) s) (p ∙ rw (a, b))))
      (λ t. refl)

module _ (s : List ℕ) where
  -- rows of background, and a row with data, whose heads are whole
  pub record IsBlank (room at n : ℕ) : Type 0 where
    pub head : at + 2 ≤ length s
    pub fits : n ≤ room

  pub record IsData (at end : ℕ) : Type 0 where
    pub head : at + 4 ≤ end
    pub within : end ≤ length s

  abbrev Headed : (room at : ℕ) → RowHead → Type 0
  Headed room at RowHead.Bad = Unit {0}
  Headed room at (RowHead.Blank n) = IsBlank room at n
  Headed room at (RowHead.Data end) = IsData at end

  headed : (room at : ℕ) → Headed room at (row_at s room at)
  unfolding row_at
  headed room at =
      let n = count_at s at in
      by-test (Headed room at) (ltb (length s) (at + 2)) (λ t. tt) (λ a.
      by-test (Headed room at) (eqb (code_at s at) blank_code)
      (λ t. by-test (Headed room at) (ltb room n) (λ t. tt) (λ b. record { head = ltb-false _ _ a; fits = ltb-false _ _ b }))
      (λ t. by-test (Headed room at) (eqb (code_at s at) data_code)
      (λ t. by-test (Headed room at) (ltb n 4) (λ t. tt) (λ b.
      by-test (Headed room at) (ltb (length s) (at + n)) (λ t. tt) (λ d.
      let few = ltb-false n 4 b in
      let h : at + 4 ≤ at + n = omega arith in
      record { head = h; within = ltb-false _ _ d })))
      (λ t. tt)))

  pub is-blank : (room at n : ℕ) → RowHead.Blank n ≡ row_at s room at → IsBlank room at n
  is-blank room at n e = subst (Headed room at) (sym e) (headed room at)

  pub is-data : (room at end : ℕ) → RowHead.Data end ≡ row_at s room at → IsData at end
  is-data room at end e = subst (Headed room at) (sym e) (headed room at)

  module _ (height width : ℕ) where
    onward-data : (at end : ℕ) (r : Ended Shade) → at < end → end ≤ length s → Onward (length s) at (data_turn end r)
    onward-data at end r h g = by-test (Onward (length s) at) (eqb r.number ok) (λ t. goes h g) (λ t. stops)

    onward : (st : Reading (List Shade)) → Onward (length s) st.at (row_turn s width st.at (row_at s (height - length st.made) st.at))
    onward st = by (row_at s (height - length st.made) st.at) (headed (height - length st.made) st.at)
      where
        by : (x : RowHead) → Headed (height - length st.made) st.at x → Onward (length s) st.at (row_turn s width st.at x)
        by RowHead.Bad k = stops
        by (RowHead.Blank n) k = let l : st.at < st.at + 2 = omega arith in goes l k.head
        by (RowHead.Data end) k = let h = k.head in onward-data st.at end (row s width (st.at + 2) end) (omega arith) k.within

    pub rows-done : (at : ℕ) (made : List (List Shade)) → height ≤ length made → rows_from s height width (reading at made) ≡ ended (marker s at) made
    unfolding rows_from
    rows-done at made g = gather-end _ _ _ _ (reading at made) (le-ltb (length made) height g)

    turned : (at : ℕ) (made : List (List Shade)) → length made < height
        → rows_from s height width (reading at made) ≡ follow (rows_from s height width) made (row_turn s width at (row_at s (height - length made) at))
    unfolding rows_from
    turned at made g = gather-turn _ _ _ _ onward (reading at made) (lt-ltb (length made) height g)

    module _ (at : ℕ) (made : List (List Shade)) (g : length made < height) where
      pub rows-bad : row_at s (height - length made) at ≡ RowHead.Bad → rows_from s height width (reading at made) ≡ ended bad_row made
      rows-bad e = turned at made g ∙ rw e

      pub rows-blank : (n : ℕ) → row_at s (height - length made) at ≡ RowHead.Blank n
          → rows_from s height width (reading at made) ≡ rows_from s height width (reading (at + 2) (made ++ replicate n []))
      rows-blank n e = turned at made g ∙ rw e

      module _ (end : ℕ) (e : row_at s (height - length made) at ≡ RowHead.Data end) where
        pub rows-data : (row s width (at + 2) end).number ≡ ok
            → rows_from s height width (reading at made) ≡ rows_from s height width (reading end (made ++ (row s width (at + 2) end).made ∷ []))
        unfolding if
        rows-data o = turned at made g ∙ rw (e, o)

        pub rows-refused : (row s width (at + 2) end).number ≢ ok
            → rows_from s height width (reading at made) ≡ ended (row s width (at + 2) end).number made
        unfolding if
        rows-refused o = turned at made g ∙ rw (e, ne_eqb _ _ o)
