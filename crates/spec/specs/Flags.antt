-- 01, "A chunk": numbers by their digits, and a block's flags. Assumes nothing.
use Rattle.std.specs.Prelude.{ℕ, suc, ◌+◌, ◌-◌, ◌*◌, ◌/◌, ◌%◌, ◌^◌, eqb, get_or, take, drop}
use mathlib.Core.List.{List, [], ◌∷◌, ◌++◌, map, foldl}
use Rattle.spec.specs.Basics.{if, from}

-- the number that digits make, highest first; the n digits of `bits` bits each that a number has, highest first
abbrev pub number : ℕ → List ℕ → ℕ
number base ds = foldl (λ a d. a * base + d) 0 ds

unfoldable pub digits : ℕ → ℕ → ℕ → List ℕ
digits bits n x = map (λ i. x / 2 ^ (bits * (n - suc i)) % 2 ^ bits) (from 0 n)

-- "the six bytes are twelve half-bytes n0 to nB", upper half first; and bytes from half-bytes
abbrev pub halves : List ℕ → List ℕ
halves [] = []
halves (b ∷ bs) = b / 16 ∷ b % 16 ∷ halves bs

abbrev pub joined : List ℕ → List ℕ
joined [] = []
joined (h ∷ []) = []
joined (h ∷ l ∷ hs) = (16 * h + l) ∷ joined hs

-- some elements of a list, by their places
abbrev pub chosen : List ℕ → List ℕ → List ℕ
chosen places l = map (λ i. get_or l i 0) places

-- "Pixels 0 to 7 use n0 n1 n2 n4 n5 n6 and pixels 8 to 15 use n8 n9 nA n3 n7 nB, each as a 24-bit number"
unfoldable pub upper24 : List ℕ → ℕ
upper24 bs = number 16 (chosen (0 ∷ 1 ∷ 2 ∷ 4 ∷ 5 ∷ 6 ∷ []) (halves bs))

unfoldable pub lower24 : List ℕ → ℕ
lower24 bs = number 16 (chosen (8 ∷ 9 ∷ 10 ∷ 3 ∷ 7 ∷ 11 ∷ []) (halves bs))

-- the entry number of each of sixteen pixels, of 1, 2 or 3 bits, from a block's flag bytes:
-- "Flags, highest bits first, pixel 0 to 15: one bit a pixel for pairs, two for quads, three for octets"
unfoldable pub flags : ℕ → List ℕ → List ℕ
flags bits bs = if (eqb bits 3) (digits 3 8 (upper24 bs) ++ digits 3 8 (lower24 bs)) (digits bits 16 (number 256 bs))

-- the other way round, for the writer: where each of n0 to nB stands in n0 n1 n2 n4 n5 n6 n8 n9 nA n3 n7 nB
abbrev pub octet_order : List ℕ
octet_order = 0 ∷ 1 ∷ 2 ∷ 9 ∷ 3 ∷ 4 ∷ 5 ∷ 10 ∷ 6 ∷ 7 ∷ 8 ∷ 11 ∷ []

unfoldable pub octet_bytes : ℕ → ℕ → List ℕ
octet_bytes upper lower = joined (chosen octet_order (digits 4 6 upper ++ digits 4 6 lower))

unfoldable pub flag_bytes : ℕ → List ℕ → List ℕ
flag_bytes bits is =
    if (eqb bits 3) (octet_bytes (number 8 (take 8 is)) (number 8 (drop 8 is))) (digits 8 (2 * bits) (number (2 ^ bits) is))
