-- A block's pixels by its flags, row by row. Assumes nothing.
use Rattle.std.proofs.Common.{◌≡◌, ℕ, ◌/◌, ◌%◌, ◌<◌, List, [], ◌∷◌, ◌++◌, length, get_or, sym, ◌∙◌, arith}
use lib.Seq.{take-length}
use mathlib.Core.List.{map-append}
use Rattle.spec.specs.Basics.{part}
use Rattle.spec.specs.Flags.{digits, flags, chosen}
use Rattle.spec.proofs.Parts.{part-listed}
use Rattle.spec.proofs.Digits.{pair-flags, quad-flags}

-- the colours of four rows of flags, and of one
pub chosen-rows : (cs a b c d ds : List ℕ) → ds ≡ a ++ b ++ c ++ d → chosen ds cs ≡ chosen a cs ++ chosen b cs ++ chosen c cs ++ chosen d cs
chosen-rows cs a b c d ds e =
    let f : ℕ → ℕ = λ i. get_or cs i 0 in
    rw (e, map-append f (a ++ b ++ c) d, map-append f (a ++ b) c, map-append f a b)

pub quad-row : (t : List ℕ) (f : ℕ) → f < 256 → get_or t (f / 64) 0 ∷ get_or t (f / 16 % 4) 0 ∷ get_or t (f / 4 % 4) 0 ∷ get_or t (f % 4) 0 ∷ []
    ≡ chosen (digits 2 4 f) t
unfolding digits
quad-row t f h =
    let q0 : f / 64 % 4 ≡ f / 64 = omega arith in
    let q3 : f / 1 % 4 ≡ f % 4 = omega arith in
    rw (q0, q3)

pub pair-rows : (cs : List ℕ) (f g : ℕ) → g < 256
    → chosen (digits 1 4 (f / 16)) cs ++ chosen (digits 1 4 (f % 16)) cs ++ chosen (digits 1 4 (g / 16)) cs ++ chosen (digits 1 4 (g % 16)) cs
    ≡ chosen (flags 1 (f ∷ g ∷ [])) cs
pair-rows cs f g hg =
    sym (chosen-rows cs (digits 1 4 (f / 16)) (digits 1 4 (f % 16)) (digits 1 4 (g / 16)) (digits 1 4 (g % 16)) _ (pair-flags f g hg))

pub quad-rows : (cs : List ℕ) (f g h k : ℕ) → g < 256 → h < 256 → k < 256
    → chosen (digits 2 4 f) cs ++ chosen (digits 2 4 g) cs ++ chosen (digits 2 4 h) cs ++ chosen (digits 2 4 k) cs ≡ chosen (flags 2 (f ∷ g ∷ h ∷ k ∷ [])) cs
quad-rows cs f g h k hg hh hk =
    sym (chosen-rows cs (digits 2 4 f) (digits 2 4 g) (digits 2 4 h) (digits 2 4 k) _ (quad-flags f g h k hg hh hk))

-- a list that is known to be so long, one by one
whole-part : (l : List ℕ) (n : ℕ) → length l ≡ n → part l 0 n ≡ l
whole-part l n e = rw (← e) (take-length l)

pub two : (l : List ℕ) → length l ≡ 2 → get_or l 0 0 ∷ get_or l 1 0 ∷ [] ≡ l
two l e = sym (part-listed l 0 2 (omega arith)) ∙ whole-part l 2 e

pub four : (l : List ℕ) → length l ≡ 4 → get_or l 0 0 ∷ get_or l 1 0 ∷ get_or l 2 0 ∷ get_or l 3 0 ∷ [] ≡ l
four l e = sym (part-listed l 0 4 (omega arith)) ∙ whole-part l 4 e

pub six : (l : List ℕ) → length l ≡ 6
    → get_or l 0 0 ∷ get_or l 1 0 ∷ get_or l 2 0 ∷ get_or l 3 0 ∷ get_or l 4 0 ∷ get_or l 5 0 ∷ [] ≡ l
six l e = sym (part-listed l 0 6 (omega arith)) ∙ whole-part l 6 e
