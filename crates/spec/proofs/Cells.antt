-- A colour table held as one run of bytes, w to an entry: an entry stored is an entry set, or one more. Over the width, once. Assumes nothing.
use Prim.Native.Nat.{ℕ, suc, ◌+◌, ◌*◌, ◌<◌, ◌≤◌, ◌%◌}
use mathlib.Core.Path.{◌≡◌, sym, ◌∙◌}
use mathlib.Core.Logic.{◌≢◌}
use mathlib.Core.List.{List, [], ◌∷◌, ◌++◌, map}
use native.Mathlib.Nat.{mul-le-mul_left, mul-suc}
use native.Mathlib.Decide.{ℕ_discrete, dec_lt}
use native.Mathlib.Numerals.{add-one}
use native.Mathlib.Omega.{arith}
use borrow.Author.Tests.{lt-ltb, le-ltb}
use lib.ListN.{length, get_or, set, length-map, length-set}
use lib.Seq.{sets, get_or-set_same, get_or-set_other, ext_get_or}
use Rattle.spec.specs.Basics.{if, from, part}
use Rattle.spec.specs.Chunks.{capacity, Table, put}
use Rattle.spec.proofs.Lists.{get_or-rule, length_from, map-congr, every-from, every-weaken, rule-more}
use Rattle.spec.proofs.Parts.{part-sets, part-sets-apart}

-- the first f entries of a run of bytes, w bytes each; and a table by them, with the number of the next
unfoldable pub cells_of : ℕ → List ℕ → ℕ → List (List ℕ)
cells_of w l f = map (λ e. part l (w * e) w) (from 0 f)

abbrev pub table_of : ℕ → List ℕ → ℕ → ℕ → Table
table_of w l filled next = record { cells = cells_of w l filled; next = next }

pub length-cells : (w : ℕ) (l : List ℕ) (f : ℕ) → length (cells_of w l f) ≡ f
unfolding cells_of
length-cells w l f = simp (length-map, length_from)

pub cell_at : (w : ℕ) (l : List ℕ) (f e : ℕ) → e < f → get_or (cells_of w l f) e [] ≡ part l (w * e) w
unfolding cells_of
cell_at w l f e h = get_or-rule (λ i. part l (w * i) w) f e [] h

-- an entry ends before a later one starts
pub entry-room : (w e n : ℕ) → e < n → w * e + w ≤ w * n
entry-room w e n h = omega (arith, mul-le-mul_left w h, mul-suc w e)

module _ (w : ℕ) (l vs : List ℕ) (n : ℕ) (ev : length vs ≡ w) (hn : w * n + w ≤ length l) where
  other : (e : ℕ) → e ≢ n → w * e + w ≤ length l → part (sets l (w * n) vs) (w * e) w ≡ part l (w * e) w
  other e ne he = part-sets-apart l (w * n) vs (w * e) w (λ i j hi hj q. away i j hi (omega arith) q (dec_lt e n)) he
    where
      away : (i j : ℕ) → i < w → j < w → w * e + i ≡ w * n + j → Dec (e < n) → ⊥
      away i j a b q (yes z) = omega (arith, entry-room w e n z)
      away i j a b q (no z) = omega (arith, entry-room w n e (omega arith))

  -- an entry stored among those filled
  cells-set : (f : ℕ) → n < f → w * f ≤ length l → cells_of w (sets l (w * n) vs) f ≡ set (cells_of w l f) n vs
  cells-set f hf hl =
      ext_get_or [] _ _ (length-cells w (sets l (w * n) vs) f ∙ sym (length-set (cells_of w l f) n vs ∙ length-cells w l f)) (λ e he.
      let h : e < f = rw (length-cells w (sets l (w * n) vs) f) at he in
      cell_at w (sets l (w * n) vs) f e h ∙ by e h (ℕ_discrete e n))
    where
      by : (e : ℕ) → e < f → Dec (e ≡ n) → part (sets l (w * n) vs) (w * e) w ≡ get_or (set (cells_of w l f) n vs) e []
      by e h (yes q) = rw q (part-sets l (w * n) vs w ev hn ∙ sym (get_or-set_same (cells_of w l f) n vs [] (rw (length-cells w l f) hf)))
      by e h (no q) = other e q (omega (arith, entry-room w e f h)) ∙ sym (get_or-set_other (cells_of w l f) n e vs [] q ∙ cell_at w l f e h)

  -- the next entry stored
  cells-more : cells_of w (sets l (w * n) vs) (suc n) ≡ cells_of w l n ++ vs ∷ []
  unfolding cells_of
  cells-more =
      let g : cells_of w (sets l (w * n) vs) n ≡ cells_of w l n =
      map-congr (every-weaken (λ i hi. other i (λ q. omega arith) (omega (arith, entry-room w i n hi))) (every-from 0 n n (omega arith))) in
      rule-more (λ i. part (sets l (w * n) vs) (w * i) w) n ∙ rw (g, part-sets l (w * n) vs w ev hn)

module _ (w : ℕ) (l vs : List ℕ) (f n : ℕ) (ev : length vs ≡ w) (hl : length l ≡ w * capacity) (hn : n < capacity) where
  here : w * n + w ≤ length l
  here = omega (arith, entry-room w n capacity hn)

  -- the table is full: an old entry is lost
  pub put_full : f ≡ capacity → table_of w (sets l (w * n) vs) f ((n + 1) % capacity) ≡ put (table_of w l f n) vs
  unfolding put if
  put_full e =
      let g : w * f ≤ length l = rw e (omega arith) in
      rw (length-cells w l f, lt-ltb n f (omega arith), cells-set w l vs n ev here f (omega arith) g)

  -- it is not yet full: one entry more
  pub put_next : f < capacity → n ≡ f → table_of w (sets l (w * n) vs) (f + 1) ((n + 1) % capacity) ≡ put (table_of w l f n) vs
  unfolding put if
  put_next h e = rw (length-cells w l f, le-ltb n f (omega arith), ← e, add-one, cells-more w l vs n ev here)
