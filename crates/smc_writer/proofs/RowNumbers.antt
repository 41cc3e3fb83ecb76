-- A block's entries by four rows: each row as a number, and the bytes of four such numbers. Assumes nothing.
use Prim.Native.Nat.{ℕ, ◌+◌, ◌*◌, ◌/◌, ◌%◌, ◌^◌, ◌<◌, ◌≤◌}
use mathlib.Core.Path.{◌≡◌, refl, sym, ap, ◌∙◌}
use mathlib.Core.List.{List, [], ◌∷◌, map}
use native.Mathlib.Nat.{add-mul, mul_assoc, mul-le-mul, zero-mul, zero-add, add-zero}
use native.Mathlib.Omega.{arith}
use lib.ListN.{length, get_or, take, drop, length-drop, length-map}
use lib.Seq.{take-add, take_all, drop-drop}
use Rattle.spec.specs.Basics.{if, part, Every, none, also}
use Rattle.spec.specs.Flags.{number, digits, flag_bytes, octet_bytes}
use Rattle.spec.specs.Writing.{colours, entries, entry_of}
use Rattle.spec.proofs.Lists.{every_take, every_drop, every_map, every-weaken, map-congr}
use Rattle.spec.proofs.Parts.{length_part, part-listed, map-part}
use Rattle.spec.proofs.Numbers.{digits_number, number-below, number_append}
use Rattle.spec.proofs.Colours.{has-entries, length-entries, entry-below}
use Rattle.smc_writer.specs.declared.table.Table.{Table}
use Rattle.smc_writer.specs.declared.table.Table.TheVariants as Of
use Rattle.smc_writer.specs.Tables.{bits}
use Rattle.smc_writer.specs.Flags.{under, packed}
use Rattle.smc_writer.proofs.Entries.{under-entries}

-- four digits, as the code joins them; and no number on the way is large
pub number-four : (n p q r s : ℕ) → (p * n + q) * (n * n) + (r * n + s) ≡ number n (p ∷ q ∷ r ∷ s ∷ [])
number-four n p q r s = rw (zero-mul n, zero-add p, add-mul ((p * n + q) * n) r n, mul_assoc (p * n + q) n n) (omega arith)

pub four-pixels : (px : List ℕ) (at : ℕ) → at + 4 ≤ length px
    → part px at 4 ≡ get_or px at 0 ∷ get_or px (at + 1) 0 ∷ get_or px (at + 2) 0 ∷ get_or px (at + 3) 0 ∷ []
four-pixels px at h = part-listed px at 4 h ∙ rw (add-zero at)

module _ {n : ℕ} (h : n ≤ 8) where
  pub one-small : {p : ℕ} → p ≤ n → p * n ≤ 64
  one-small hp = mul-le-mul {n₂ = 8} {m₂ = 8} (omega arith) h

  pub two-small : {p q : ℕ} → p ≤ n → q ≤ n → (p * n + q) * (n * n) ≤ 72 * 64
  two-small {p} {q} hp hq =
      let e = one-small hp in
      mul-le-mul {n₁ = p * n + q} {n₂ = 72} {m₂ = 64} (omega arith) (one-small (omega arith))

-- the number of a block's row that starts at an entry, and what it is below
abbrev row : ℕ → List ℕ → ℕ → ℕ
row b is at = number (2 ^ b) (part is at 4)

-- the bytes of four rows' numbers are those of the number, or the two numbers, that they make
module _ (a b c d : ℕ) where
  pairs-packed : a < 16 → b < 16 → c < 16 → d < 16 → packed Of.Pairs a b c d ≡ digits 8 2 (((a * 16 + b) * 16 + c) * 16 + d)
  pairs-packed ha hb hc hd =
      let bs = (a * 16 + b) ∷ (c * 16 + d) ∷ [] in
      let e : ((a * 16 + b) * 16 + c) * 16 + d ≡ number 256 bs = omega arith in
      sym (ap (digits 8 2) e ∙ digits_number 8 2 bs refl (also (omega arith) (also (omega arith) none)))

  quads-packed : a < 256 → b < 256 → c < 256 → d < 256 → packed Of.Quads a b c d ≡ digits 8 4 (((a * 256 + b) * 256 + c) * 256 + d)
  quads-packed ha hb hc hd =
      let bs = a ∷ b ∷ c ∷ d ∷ [] in
      let e : ((a * 256 + b) * 256 + c) * 256 + d ≡ number 256 bs = omega arith in
      sym (ap (digits 8 4) e ∙ digits_number 8 4 bs refl (also ha (also hb (also hc (also hd none)))))

half-bytes : (x y : ℕ) → x < 4096 → y < 4096
    → digits 4 6 (x * 4096 + y) ≡ x / 256 ∷ x / 16 % 16 ∷ x % 16 ∷ y / 256 ∷ y / 16 % 16 ∷ y % 16 ∷ []
half-bytes x y hx hy =
    let hs = x / 256 ∷ x / 16 % 16 ∷ x % 16 ∷ y / 256 ∷ y / 16 % 16 ∷ y % 16 ∷ [] in
    let e : x * 4096 + y ≡ number 16 hs = omega arith in
    ap (digits 4 6) e ∙ digits_number 4 6 hs refl
    (also (omega arith) (also (omega arith) (also (omega arith) (also (omega arith) (also (omega arith) (also (omega arith) none))))))

octets-packed : (a b c d : ℕ) → a < 4096 → b < 4096 → c < 4096 → d < 4096 → packed Of.Octets a b c d ≡ octet_bytes (a * 4096 + b) (c * 4096 + d)
unfolding octet_bytes
octets-packed a b c d ha hb hc hd =
    let byte : (x : ℕ) → x < 4096 → x / 16 ≡ 16 * (x / 256) + x / 16 % 16 = λ x h. omega arith in
    let up : (x : ℕ) → x % 16 * 16 ≡ 16 * (x % 16) = λ x. omega arith in
    rw (half-bytes a b ha hb, half-bytes c d hc hd)
    (λ i. byte a ha i ∷ (up a i + d / 256) ∷ byte b hb i ∷ (up b i + d / 16 % 16) ∷ byte c hc i ∷ (up c i + d % 16) ∷ [])

-- a list's number, by rows of four
module _ (base : ℕ) (l : List ℕ) (at : ℕ) (h : at + 4 ≤ length l) where
  number-row : number base (take (at + 4) l) ≡ number base (take at l) * base ^ 4 + number base (part l at 4)
  number-row =
      ap (number base) (take-add at 4 l)
      ∙ number_append base (take at l) (part l at 4)
      ∙ ap (λ (k : ℕ). number base (take at l) * base ^ k + number base (part l at 4)) (length_part l at 4 h)

module _ (is : List ℕ) (e : length is ≡ 16) where
  number-rows : (base : ℕ) → number base is
      ≡ ((number base (part is 0 4) * base ^ 4 + number base (part is 4 4)) * base ^ 4 + number base (part is 8 4)) * base ^ 4 + number base (part is 12 4)
  number-rows base =
      ap (number base) (sym (take_all 16 is (omega arith)))
      ∙ number-row base is 12 (omega arith)
      ∙ rw (number-row base is 8 (omega arith), number-row base is 4 (omega arith))

  upper-rows : (base : ℕ) → number base (take 8 is) ≡ number base (part is 0 4) * base ^ 4 + number base (part is 4 4)
  upper-rows base = number-row base is 4 (omega arith)

  lower-rows : (base : ℕ) → number base (drop 8 is) ≡ number base (part is 8 4) * base ^ 4 + number base (part is 12 4)
  lower-rows base =
      let l = length-drop 8 is in
      ap (number base) (sym (take_all 8 (drop 8 is) (omega arith)))
      ∙ number-row base (drop 8 is) 4 (omega arith)
      ∙ ap (λ (l : List ℕ). number base (part is 8 4) * base ^ 4 + number base (take 4 l)) (drop-drop 4 8 is)

  row_below : (b : ℕ) → Every (λ (i : ℕ). i < 2 ^ b) is → (at : ℕ) → at + 4 ≤ 16 → row b is at < 2 ^ (b * 4)
  row_below b small at h = number-below b 4 (part is at 4) (length_part is at 4 (omega arith)) (every_take 4 (every_drop at small))

  rows-packed : (t : Table) → Every (λ (i : ℕ). i < 2 ^ bits t) is
      → packed t (row (bits t) is 0) (row (bits t) is 4) (row (bits t) is 8) (row (bits t) is 12) ≡ flag_bytes (bits t) is
  unfolding flag_bytes if
  rows-packed Of.Pairs small =
      let below = row_below 1 small in
      pairs-packed _ _ _ _ (below 0 (omega arith)) (below 4 (omega arith)) (below 8 (omega arith)) (below 12 (omega arith))
      ∙ ap (digits 8 2) (sym (number-rows 2))
  rows-packed Of.Quads small =
      let below = row_below 2 small in
      quads-packed _ _ _ _ (below 0 (omega arith)) (below 4 (omega arith)) (below 8 (omega arith)) (below 12 (omega arith))
      ∙ ap (digits 8 4) (sym (number-rows 4))
  rows-packed Of.Octets small =
      let below = row_below 3 small in
      octets-packed _ _ _ _ (below 0 (omega arith)) (below 4 (omega arith)) (below 8 (omega arith)) (below 12 (omega arith))
      ∙ sym (λ i. octet_bytes (upper-rows 8 i) (lower-rows 8 i))

-- the number of a row by counting, as the code makes it
abbrev counted : List ℕ → List ℕ → ℕ → ℕ
counted list px at = number (length list) (map (under list) (part px at 4))

-- a block's entries
abbrev stored : Table → List ℕ → List ℕ
stored t px = entries (bits t) (colours px)

unfoldable named_by : Table → List ℕ → List ℕ
named_by t px = map (entry_of (stored t px)) px

-- the numbers by counting among the entries are those of the block's rows
module _ (t : Table) (px : List ℕ) (e : length px ≡ 16) (fits : length (colours px) ≤ 2 ^ bits t) where
  length-named : length (named_by t px) ≡ 16
  unfolding named_by
  length-named = length-map px (entry_of (stored t px)) ∙ e

  small : Every (λ (i : ℕ). i < 2 ^ bits t) (named_by t px)
  unfolding named_by
  small =
      let es = stored t px in
      let l = length-entries (bits t) (colours px) fits in
      every_map (entry_of es) (every-weaken (λ p h. rw l at (entry-below {p = p} {cs = es} h)) (has-entries (bits t) px))

  module _ {list : List ℕ} (stands : list ≡ stored t px) where
    counted-row : (at : ℕ) → counted list px at ≡ row (bits t) (named_by t px) at
    unfolding named_by
    counted-row at =
        rw (stands, length-entries (bits t) (colours px) fits)
        (ap (number (2 ^ bits t)) (map-congr (every_take 4 (every_drop at (under-entries (bits t) px))) ∙ map-part (entry_of (stored t px)) px at 4))

    module _ {a b c d : ℕ} (ea : a ≡ counted list px 0) (eb : b ≡ counted list px 4) (ec : c ≡ counted list px 8) (ed : d ≡ counted list px 12) where
      pub counted-below : (a < 2 ^ (bits t * 4)) × ((b < 2 ^ (bits t * 4)) × ((c < 2 ^ (bits t * 4)) × (d < 2 ^ (bits t * 4))))
      counted-below =
          let below : (at : ℕ) → at + 4 ≤ 16 → counted list px at < 2 ^ (bits t * 4) =
          λ at h. rw (counted-row at) (row_below (named_by t px) length-named (bits t) small at h) in
          (rw ea (below 0 (omega arith)), (rw eb (below 4 (omega arith)), (rw ec (below 8 (omega arith)), rw ed (below 12 (omega arith)))))

      pub counted-packed : packed t a b c d ≡ flag_bytes (bits t) (map (entry_of (stored t px)) px)
      unfolding named_by
      counted-packed = rw (ea, eb, ec, ed, counted-row 0, counted-row 4, counted-row 8, counted-row 12) (rows-packed (named_by t px) length-named t small)
