-- Flags packed and read back: octets by two numbers of 24 bits, the others straight. Assumes nothing.
use Prim.Native.Nat.{ℕ, zero, suc, ◌+◌, ◌*◌, ◌/◌, ◌%◌, ◌^◌, ◌<◌, ◌≤◌}
use mathlib.Core.Path.{◌≡◌, refl, sym, ap, ◌∙◌}
use mathlib.Core.Logic.{◌≢◌}
use mathlib.Core.List.{List, ◌∷◌, ◌++◌}
use native.Mathlib.Decide.{ℕ_discrete}
use native.Mathlib.Omega.{arith}
use lib.Dec.{eqb}
use lib.ListN.{length, get_or, take, drop, length-append, length-drop, take-append-drop}
use lib.Seq.{take_all, take_at, drop_at, length-take-le}
use borrow.Author.Tests.{ne_eqb, eqb-true}
use Rattle.spec.specs.Basics.{if, part, Every, none, also}
use Rattle.spec.specs.Flags.{number, digits, halves, joined, chosen, upper24, lower24, flags, octet_order, octet_bytes, flag_bytes}
use Rattle.spec.proofs.Lists.{by-test, every_take, every_drop, every_append, every_map, every-all, every-get_or}
use Rattle.spec.proofs.Parts.{part-listed}
use Rattle.spec.proofs.Digits.{length_digits}
use Rattle.spec.proofs.Numbers.{digits_number, number_digits, number-below, every-digits}

pub length-flag_bytes : (bits : ℕ) (is : List ℕ) → length (flag_bytes bits is) ≡ 2 * bits
unfolding flag_bytes octet_bytes
length-flag_bytes bits is =
    by-test (λ (l : List ℕ). length l ≡ 2 * bits) (eqb bits 3) (λ t. rw (eqb-true bits 3 t)) (λ t. length_digits 8 (2 * bits) _)

-- half-bytes as bytes, and apart again
halves-joined : (n : ℕ) {hs : List ℕ} → length hs ≡ 2 * n → Every (λ (h : ℕ). h < 16) hs → halves (joined hs) ≡ hs
halves-joined n e none = refl
halves-joined zero e (also a h) = absurd (omega arith)
halves-joined (suc n) e (also a none) = absurd (omega arith)
halves-joined (suc n) e (also {x} a (also {x = y} b h)) =
    let u : (16 * x + y) / 16 ≡ x = omega arith in
    let l : (16 * x + y) % 16 ≡ y = omega arith in
    let t = halves-joined n (omega arith) h in
    λ i. u i ∷ l i ∷ t i

-- octets: one order undoes the other, which computes
module _ (u l : ℕ) where
  twelve : List ℕ
  twelve = digits 4 6 u ++ digits 4 6 l

  length-twelve : length twelve ≡ 12
  unfolding twelve
  length-twelve = simp (length-append, length_digits)

  apart : halves (octet_bytes u l) ≡ chosen octet_order twelve
  unfolding octet_bytes twelve
  apart =
      let small = every_append (every-digits 4 6 u) (every-digits 4 6 l) in
      halves-joined 6 refl (every_map (λ i. get_or twelve i 0) (every-all octet_order (λ i. every-get_or i 0 small (omega arith))))

  pub upper-back : u < 2 ^ 24 → upper24 (octet_bytes u l) ≡ u
  unfolding upper24 twelve
  upper-back h =
      let e : part twelve 0 6 ≡ digits 4 6 u = take_at (digits 4 6 u) (digits 4 6 l) 6 (length_digits 4 6 u) in
      rw apart (ap (number 16) (sym (part-listed twelve 0 6 (omega (arith, length-twelve))) ∙ e) ∙ number_digits 4 6 u h)

  pub lower-back : l < 2 ^ 24 → lower24 (octet_bytes u l) ≡ l
  unfolding lower24 twelve
  lower-back h =
      let e : part twelve 6 6 ≡ digits 4 6 l =
      ap (take 6) (drop_at (digits 4 6 u) (digits 4 6 l) 6 (length_digits 4 6 u)) ∙ take_all 6 (digits 4 6 l) (omega (arith, length_digits 4 6 l)) in
      rw apart (ap (number 16) (sym (part-listed twelve 6 6 (omega (arith, length-twelve))) ∙ e) ∙ number_digits 4 6 l h)

module _ (bits : ℕ) (is : List ℕ) (e : length is ≡ 16) (small : Every (λ (i : ℕ). i < 2 ^ bits) is) where
  straight : bits ≢ 3 → flags bits (flag_bytes bits is) ≡ is
  unfolding flags flag_bytes if
  straight ne =
      let l : bits * 16 ≡ 8 * (2 * bits) = omega arith in
      let below = rw l at (number-below bits 16 is e small) in
      rw (ne_eqb bits 3 ne, number_digits 8 (2 * bits) (number (2 ^ bits) is) below) (digits_number bits 16 is e small)

octets : (is : List ℕ) → length is ≡ 16 → Every (λ (i : ℕ). i < 2 ^ 3) is → flags 3 (flag_bytes 3 is) ≡ is
unfolding flags flag_bytes if
octets is e small =
    let lu : length (take 8 is) ≡ 8 = length-take-le 8 is (omega arith) in
    let ll : length (drop 8 is) ≡ 8 = rw (length-drop, e) in
    let su = every_take 8 small in
    let sl = every_drop 8 small in
    let bu = number-below 3 8 (take 8 is) lu su in
    let bl = number-below 3 8 (drop 8 is) ll sl in
    rw (upper-back (number 8 (take 8 is)) _ bu, lower-back _ (number 8 (drop 8 is)) bl, digits_number 3 8 (take 8 is) lu su, digits_number 3 8 (drop 8 is) ll sl)
    (take-append-drop 8 is)

-- what `flag_bytes` packed, `flags` reads
pub flags-back : (bits : ℕ) → bits ≤ 3 → (is : List ℕ) → length is ≡ 16 → Every (λ (i : ℕ). i < 2 ^ bits) is → flags bits (flag_bytes bits is) ≡ is
flags-back bits b is e small = by (ℕ_discrete bits 3)
  where
    by : Dec (bits ≡ 3) → flags bits (flag_bytes bits is) ≡ is
    by (yes q) = rw q (octets is e (rw q at small))
    by (no q) = straight bits is e small q
