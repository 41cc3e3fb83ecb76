-- The octet step: a row by bytes, four rows, and both, which the proof of the reader's octet step goes by. What a row takes is asked of `in_rows`,
-- not written again: were it another, the numbers would not agree. Assumes nothing.
use Prim.Native.Nat.{ℕ, ◌+◌, ◌*◌, ◌/◌, ◌%◌, ◌<◌}
use mathlib.Core.Path.{◌≡◌, sym, ap, ◌∙◌}
use mathlib.Core.List.{List, [], ◌∷◌, ◌++◌, append_assoc}
use native.Mathlib.Omega.{arith}
use lib.ListN.{get_or}
use Rattle.spec.specs.Basics.{if}
use Rattle.spec.specs.Flags.{digits, upper24, lower24, flags}
use Rattle.spec.specs.Octets.{row_by_bytes, in_rows, OctetStep}
use Rattle.spec.proofs.Digits.{digits-split}

-- a row's indices are the digits of its byte and half-byte
octet-row : (f g : ℕ) → f < 256 → g < 16 → row_by_bytes f g ≡ digits 3 4 (f * 16 + g)
unfolding digits
octet-row f g hf hg =
    let q0 : f / 32 ≡ (f * 16 + g) / 512 % 8 = omega arith in
    let q1 : f / 4 % 8 ≡ (f * 16 + g) / 64 % 8 = omega arith in
    let q2 : f % 4 * 2 + g / 8 ≡ (f * 16 + g) / 8 % 8 = omega arith in
    let q3 : g % 8 ≡ (f * 16 + g) / 1 % 8 = omega arith in
    (λ i. q0 i ∷ q1 i ∷ q2 i ∷ q3 i ∷ [])

-- two rows make one of the 24-bit numbers, and four a block's flags
two-rows : (x y : ℕ) → y < 4096 → digits 3 8 (x * 4096 + y) ≡ digits 3 4 x ++ digits 3 4 y
two-rows x y h = digits-split 3 4 4 x y h

octet-flags : (f0 f1 f2 f3 f4 f5 : ℕ) → f1 < 256 → f2 < 256 → f3 < 256 → f5 < 256
    → flags 3 (f0 ∷ f1 ∷ f2 ∷ f3 ∷ f4 ∷ f5 ∷ []) ≡ in_rows (λ f g. digits 3 4 (f * 16 + g)) f0 f1 f2 f3 f4 f5
unfolding flags if upper24 lower24
octet-flags f0 f1 f2 f3 f4 f5 h1 h2 h3 h5 =
    let rows = in_rows (λ f g. (f * 16 + g) ∷ []) f0 f1 f2 f3 f4 f5 in
    let a = get_or rows 0 0 in
    let b = get_or rows 1 0 in
    let c = get_or rows 2 0 in
    let d = get_or rows 3 0 in
    let upper : upper24 (f0 ∷ f1 ∷ f2 ∷ f3 ∷ f4 ∷ f5 ∷ []) ≡ a * 4096 + b = omega arith in
    let lower : lower24 (f0 ∷ f1 ∷ f2 ∷ f3 ∷ f4 ∷ f5 ∷ []) ≡ c * 4096 + d = omega arith in
    rw (ap (digits 3 8) upper, ap (digits 3 8) lower, two-rows a b (omega arith), two-rows c d (omega arith))
    (sym (append_assoc (digits 3 4 a ++ digits 3 4 b) (digits 3 4 c) (digits 3 4 d)))

-- rows that agree for every byte and half-byte make blocks that agree
four-alike : {a b c d a' b' c' d' : List ℕ} → a ≡ a' → b ≡ b' → c ≡ c' → d ≡ d' → a ++ b ++ c ++ d ≡ a' ++ b' ++ c' ++ d'
four-alike p q r s = (λ i. p i ++ q i ++ r i ++ s i)

in_rows_lem : {row row' : ℕ → ℕ → List ℕ} → ((f g : ℕ) → f < 256 → g < 16 → row f g ≡ row' f g)
    → (f0 f1 f2 f3 f4 f5 : ℕ) → f0 < 256 → f1 < 256 → f2 < 256 → f3 < 256 → f4 < 256 → f5 < 256
    → in_rows row f0 f1 f2 f3 f4 f5 ≡ in_rows row' f0 f1 f2 f3 f4 f5
in_rows_lem e f0 f1 f2 f3 f4 f5 h0 h1 h2 h3 h4 h5 =
    four-alike (e _ _ (omega arith) (omega arith)) (e _ _ (omega arith) (omega arith)) (e _ _ (omega arith) (omega arith)) (e _ _ (omega arith) (omega arith))

pub octet-step : OctetStep
unfolding flags if
octet-step f0 f1 f2 f3 f4 f5 h0 h1 h2 h3 h4 h5 =
    in_rows_lem octet-row f0 f1 f2 f3 f4 f5 h0 h1 h2 h3 h4 h5 ∙ sym (octet-flags f0 f1 f2 f3 f4 f5 h1 h2 h3 h5)
