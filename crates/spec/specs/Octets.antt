-- The octet step, which goes by bytes: no part of what a chunk means, but what the reader computes (smc/src/flags.rt), and the theorem that it is
-- right. Assumes nothing.
use Rattle.std.specs.Prelude.{ℕ, ◌+◌, ◌*◌, ◌/◌, ◌%◌, ◌<◌, ◌≡◌, List, [], ◌∷◌, ◌++◌}
use Rattle.spec.specs.Flags.{digits, upper24, lower24}

-- which of an octet's eight colours the four pixels of a row take, by a byte and a half-byte
abbrev pub row_by_bytes : ℕ → ℕ → List ℕ
row_by_bytes f g = f / 32 ∷ f / 4 % 8 ∷ (f % 4 * 2 + g / 8) ∷ g % 8 ∷ []

-- a block's rows by its six flag bytes, each by a byte and a half-byte: n0 n1 n2, n4 n5 n6, n8 n9 nA, and what is left over, n3 n7 nB
abbrev pub in_rows : (ℕ → ℕ → List ℕ) → ℕ → ℕ → ℕ → ℕ → ℕ → ℕ → List ℕ
in_rows row f0 f1 f2 f3 f4 f5 = row f0 (f1 / 16) ++ row f2 (f3 / 16) ++ row f4 (f5 / 16) ++ row (f1 % 16 * 16 + f3 % 16) (f5 % 16)

-- for every six flag bytes the sixteen pixels name, in whatever octet, the colours that the two 24-bit numbers name: pixels 0 to 7 by the
-- first, 8 to 15 by the second, three bits each
abbrev pub OctetStep : Type 0
OctetStep = (f0 f1 f2 f3 f4 f5 : ℕ) → f0 < 256 → f1 < 256 → f2 < 256 → f3 < 256 → f4 < 256 → f5 < 256
    → let six = f0 ∷ f1 ∷ f2 ∷ f3 ∷ f4 ∷ f5 ∷ [] in
    in_rows row_by_bytes f0 f1 f2 f3 f4 f5 ≡ digits 3 8 (upper24 six) ++ digits 3 8 (lower24 six)
