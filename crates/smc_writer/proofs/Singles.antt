-- A changed block by the number of colours that were found. Assumes nothing.
use Prim.Native.Nat.{ℕ, ◌+◌, ◌*◌, ◌^◌, ◌<◌, ◌≤◌}
use mathlib.Core.Path.{◌≡◌, refl, sym, ap, ◌∙◌}
use mathlib.Core.Bool.{Bool, true, false}
use mathlib.Core.List.{List, ◌∷◌}
use native.Mathlib.Decide.{dec_le}
use native.Mathlib.Omega.{arith}
use lib.Dec.{leb}
use lib.ListN.{length}
use borrow.Author.Tests.{lt-leb, leb-true}
use Rattle.std.specs.Prelude.{Option, Some, None}
use Rattle.spec.specs.Basics.{if}
use Rattle.spec.specs.Writing.{colours, entries, tabled, single}
use Rattle.spec.proofs.Colours.{colours-some, length-entries}
use Rattle.spec.proofs.Written.{length-tabled}
use Rattle.smc_writer.specs.declared.table.Table.{Table}
use Rattle.smc_writer.specs.declared.table.Table.TheVariants as Of
use Rattle.smc_writer.specs.Tables.{bits, table_for}
use Rattle.smc_writer.specs.Colours.{Finds}

-- a block's bytes by its table, if it has one
by_table : List ℕ → Option Table → List ℕ
by_table px (Some t) = tabled (bits t) (entries (bits t) (colours px)) px
by_table px None = 0xE0 ∷ px

single-table : (px : List ℕ) → single px ≡ by_table px (table_for (length (colours px)))
unfolding single table_for if by_table
single-table px = by (leb (length (colours px)) 2) (leb (length (colours px)) 4) (leb (length (colours px)) 8)
  where
    by : (s t u : Bool) → if s (tabled 1 (entries 1 (colours px)) px) (if t (tabled 2 (entries 2 (colours px)) px)
        (if u (tabled 3 (entries 3 (colours px)) px) (0xE0 ∷ px)))
        ≡ by_table px (if s (Some Of.Pairs) (if t (Some Of.Quads) (if u (Some Of.Octets) None)))
    by true t u = refl
    by false true u = refl
    by false false true = refl
    by false false false = refl

-- a table is only found where it holds the colours
table-holds : (n : ℕ) (t : Table) → table_for n ≡ Some t → n ≤ 2 ^ bits t
unfolding table_for if
table-holds n t e = by (leb n 2) (leb n 4) (leb n 8) refl refl refl e
  where
    by : (s u v : Bool) → leb n 2 ≡ s → leb n 4 ≡ u → leb n 8 ≡ v → if s (Some Of.Pairs) (if u (Some Of.Quads) (if v (Some Of.Octets) None)) ≡ Some t
        → n ≤ 2 ^ bits t
    by true u v es eu ev e = let q : Of.Pairs ≡ t = cc in rw (← q) (leb-true n 2 es)
    by false true v es eu ev e = let q : Of.Quads ≡ t = cc in rw (← q) (leb-true n 4 eu)
    by false false true es eu ev e = let q : Of.Octets ≡ t = cc in rw (← q) (leb-true n 8 ev)
    by false false false es eu ev e = cc

table-none : (n : ℕ) → 8 < n → table_for n ≡ None
unfolding table_for if
table-none n h = rw (lt-leb n 2 (omega arith), lt-leb n 4 (omega arith), lt-leb n 8 h)

pub size-most : (t : Table) → 2 ^ bits t ≤ 8
size-most Of.Pairs = omega arith
size-most Of.Quads = omega arith
size-most Of.Octets = omega arith

module _ {px found : List ℕ} (f : Finds px found) where
  same-table : table_for (length found) ≡ table_for (length (colours px))
  same-table = by (dec_le (length found) 8)
    where
      by : Dec (length found ≤ 8) → table_for (length found) ≡ table_for (length (colours px))
      by (yes h) = ap (λ (l : List ℕ). table_for (length l)) (f.few h)
      by (no h) = table-none (length found) (omega arith) ∙ sym (table-none (length (colours px)) (f.many (omega arith)))

  -- by the table that was looked up for their number
  module _ {n : ℕ} (en : n ≡ length found) {r : Option Table} (er : r ≡ table_for n) where
    single-found : single px ≡ by_table px r
    single-found = single-table px ∙ ap (by_table px) (sym (er ∙ ap table_for en ∙ same-table))

    pub single-whole : r ≡ None → single px ≡ 0xE0 ∷ px
    unfolding by_table
    single-whole e = single-found ∙ ap (by_table px) e

    module _ {t : Table} (e : r ≡ Some t) where
      pub single-tabled : single px ≡ tabled (bits t) (entries (bits t) (colours px)) px
      unfolding by_table
      single-tabled = single-found ∙ ap (by_table px) e

      pub holds : length found ≤ 2 ^ bits t
      holds = rw en at (table-holds n t (sym er ∙ e))

      pub all-found : found ≡ colours px
      all-found = f.few (omega (arith, holds, size-most t))

      pub fits : length (colours px) ≤ 2 ^ bits t
      fits = rw all-found at holds

      pub some : length px ≡ 16 → 1 ≤ length found
      some l = rw all-found (colours-some px (omega arith))

      pub room : 1 + 2 ^ bits t + 2 * bits t ≤ length (single px)
      room =
          let es = entries (bits t) (colours px) in
          let l = length-entries (bits t) (colours px) fits in
          omega (arith, ap length single-tabled, length-tabled (bits t) es px)
