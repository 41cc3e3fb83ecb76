-- A block's flags by parts: the digits of a long number are those of its parts, one law for pairs, quads and octets. Assumes nothing.
use Prim.Native.Nat.{ℕ, suc, ◌+◌, ◌-◌, ◌*◌, ◌/◌, ◌%◌, ◌^◌, ◌<◌}
use mathlib.Core.Path.{◌≡◌, sym, ap, ◌∙◌}
use mathlib.Core.List.{[], ◌∷◌, ◌++◌, append_assoc}
use native.Mathlib.Nat.{mul-add, mul_assoc, mul-suc, zero-add, div-div-eq-div-mul, mul-add-mod_self_right, mul-add-div_right}
use native.Mathlib.Decide.{dec_lt}
use native.Mathlib.Omega.{arith}
use lib.Arith.{digits_div}
use lib.Pow.{pow-add, pow_pos}
use lib.ListN.{length, get_or, length-map, length-append, get_or-append}
use lib.Seq.{get_or-append-add, ext_get_or}
use Rattle.spec.specs.Basics.{if}
use Rattle.spec.specs.Flags.{digits, flags}
use Rattle.spec.proofs.Lists.{get_or-rule, length_from}

-- digits of a number by parts
pub length_digits : (b n x : ℕ) → length (digits b n x) ≡ n
unfolding digits
length_digits b n x = simp (length-map, length_from)

digit : (b n x i : ℕ) → i < n → get_or (digits b n x) i 0 ≡ x / 2 ^ (b * (n - suc i)) % 2 ^ b
unfolding digits
digit b n x i h = get_or-rule (λ i. x / 2 ^ (b * (n - suc i)) % 2 ^ b) n i 0 h

module _ (b m n x y : ℕ) (h : y < 2 ^ (b * n)) where
  upper-digit : (i : ℕ) → i < m → (x * 2 ^ (b * n) + y) / 2 ^ (b * (m + n - suc i)) ≡ x / 2 ^ (b * (m - suc i))
  upper-digit i l =
      let e : m + n - suc i ≡ n + (m - suc i) = omega arith in
      rw (e, mul-add b n (m - suc i), pow-add 2 (b * n) (b * (m - suc i)), ← div-div-eq-div-mul (x * 2 ^ (b * n) + y) (2 ^ (b * n)) (2 ^ (b * (m - suc i))), digits_div x h)

  lower-digit : (i : ℕ) → i < n → (x * 2 ^ (b * n) + y) / 2 ^ (b * (n - suc i)) % 2 ^ b ≡ y / 2 ^ (b * (n - suc i)) % 2 ^ b
  lower-digit i l =
      let e : n ≡ suc i + (n - suc i) = omega arith in
      let f : b * n ≡ b * i + b + b * (n - suc i) = ap (λ (z : ℕ). b * z) e ∙ mul-add b (suc i) (n - suc i) ∙ rw mul-suc (omega arith) in
      let q = 2 ^ (b * (n - suc i)) in
      let p : x * 2 ^ (b * n) ≡ x * 2 ^ (b * i) * 2 ^ b * q =
      rw (f, pow-add 2 (b * i + b) (b * (n - suc i)), pow-add 2 (b * i) b, ← mul_assoc x (2 ^ (b * i) * 2 ^ b) q, ← mul_assoc x (2 ^ (b * i)) (2 ^ b)) in
      rw (p, mul-add-div_right {m = q} (pow_pos (b * (n - suc i))) (x * 2 ^ (b * i) * 2 ^ b) y, mul-add-mod_self_right (x * 2 ^ (b * i)) (2 ^ b) (y / q))

  pub digits-split : digits b (m + n) (x * 2 ^ (b * n) + y) ≡ digits b m x ++ digits b n y
  digits-split =
      ext_get_or 0 _ _ (length_digits b (m + n) _ ∙ sym (length-append (digits b m x) (digits b n y) ∙ rw (length_digits b m x, length_digits b n y))) (λ i hi.
      let l : i < m + n = rw (length_digits b (m + n) (x * 2 ^ (b * n) + y)) at hi in
      digit b (m + n) (x * 2 ^ (b * n) + y) i l ∙ by i l (dec_lt i m))
    where
      by : (i : ℕ) → i < m + n → Dec (i < m) → (x * 2 ^ (b * n) + y) / 2 ^ (b * (m + n - suc i)) % 2 ^ b ≡ get_or (digits b m x ++ digits b n y) i 0
      by i l (yes g) =
          rw (upper-digit i g) (sym (get_or-append (digits b m x) (digits b n y) 0 i (rw (length_digits b m x) g) ∙ digit b m x i g))
      by i l (no g) =
          let e : m + n - suc i ≡ n - suc (i - m) = omega arith in
          let w : i ≡ length (digits b m x) + (i - m) = rw (length_digits b m x) (omega arith) in
          rw e (lower-digit (i - m) (omega arith))
          ∙ sym (ap (λ (z : ℕ). get_or (digits b m x ++ digits b n y) z 0) w ∙ get_or-append-add (digits b m x) (digits b n y) (i - m) 0 ∙ digit b n y (i - m) (omega arith))

-- a block's flags, row by row
byte-pairs : (f : ℕ) → digits 1 8 f ≡ digits 1 4 (f / 16) ++ digits 1 4 (f % 16)
byte-pairs f =
    let e : f ≡ f / 16 * 16 + f % 16 = omega arith in
    ap (digits 1 8) e ∙ digits-split 1 4 4 (f / 16) (f % 16) (omega arith)

pub pair-flags : (f g : ℕ) → g < 256 → flags 1 (f ∷ g ∷ []) ≡ digits 1 4 (f / 16) ++ digits 1 4 (f % 16) ++ digits 1 4 (g / 16) ++ digits 1 4 (g % 16)
unfolding flags if
pair-flags f g hg =
    rw (zero-add f)
    (digits-split 1 8 8 f g hg
    ∙ rw (byte-pairs f, byte-pairs g) (sym (append_assoc (digits 1 4 (f / 16) ++ digits 1 4 (f % 16)) (digits 1 4 (g / 16)) (digits 1 4 (g % 16)))))

two-quads : (f g : ℕ) → g < 256 → digits 2 8 (f * 256 + g) ≡ digits 2 4 f ++ digits 2 4 g
two-quads f g hg = digits-split 2 4 4 f g hg

pub quad-flags : (f g h k : ℕ) → g < 256 → h < 256 → k < 256 → flags 2 (f ∷ g ∷ h ∷ k ∷ []) ≡ digits 2 4 f ++ digits 2 4 g ++ digits 2 4 h ++ digits 2 4 k
unfolding flags if
quad-flags f g h k hg hh hk =
    let e : (((0 + f) * 256 + g) * 256 + h) * 256 + k ≡ (f * 256 + g) * 65536 + (h * 256 + k) = omega arith in
    ap (digits 2 16) e
    ∙ digits-split 2 8 8 (f * 256 + g) (h * 256 + k) (omega arith)
    ∙ rw (two-quads f g hg, two-quads h k hk) (sym (append_assoc (digits 2 4 f ++ digits 2 4 g) (digits 2 4 h) (digits 2 4 k)))
