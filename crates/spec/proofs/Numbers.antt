-- A number and its digits, highest first, once over the bits of a digit; all by the last digit. Assumes nothing.
use Prim.Native.Nat.{ℕ, zero, suc, ◌+◌, ◌*◌, ◌/◌, ◌%◌, ◌^◌, ◌<◌}
use mathlib.Core.Path.{◌≡◌, refl, sym, ap, ◌∙◌}
use mathlib.Core.List.{List, [], ◌∷◌, ◌++◌, foldl, foldl-append}
use native.Mathlib.Nat.{add-mul, div-one, mod-lt, mod-mod, mul_assoc, mul-one, mul-suc, mul-zero, pow-succ', pow-zero, zero-add, zero-mul}
use native.Mathlib.Numerals.{add-one}
use native.Mathlib.Omega.{arith}
use lib.Arith.{digits_lt}
use lib.Pow.{pow-add, pow_pos, shr_lt, split, high, low}
use lib.ListN.{length, get_or, take}
use lib.Seq.{take-suc, take_all, length-take-le}
use Rattle.spec.specs.Basics.{Every, none, also}
use Rattle.spec.specs.Flags.{number, digits}
use Rattle.spec.proofs.Lists.{every_take, every-at, every_append}
use Rattle.spec.proofs.Digits.{digits-split}

-- digits after others: the others move up by as many places
fold-from : (base a : ℕ) (ds : List ℕ) → foldl (λ a d. a * base + d) a ds ≡ a * base ^ length ds + number base ds
fold-from base a [] = let e : a ≡ a * base ^ 0 + 0 = rw (pow-zero base) (omega arith) in e
fold-from base a (x ∷ ds) =
    let p = base ^ length ds in
    let e = fold-from base (a * base + x) ds in
    let f = fold-from base (0 * base + x) ds in
    let l : (a * base + x) * p ≡ a * base ^ suc (length ds) + x * p = rw (add-mul (a * base) x p, mul_assoc a base p, ← pow-succ' base (length ds)) in
    let r : (0 * base + x) * p ≡ x * p = rw (zero-mul base, zero-add x) in
    omega arith

pub number_append : (base : ℕ) (xs ys : List ℕ) → number base (xs ++ ys) ≡ number base xs * base ^ length ys + number base ys
number_append base xs ys = foldl-append (λ a d. a * base + d) 0 xs ys ∙ fold-from base (number base xs) ys

pub number_more : (base : ℕ) (ds : List ℕ) (d : ℕ) → number base (ds ++ d ∷ []) ≡ number base ds * base + d
number_more base ds d = foldl-append (λ a d. a * base + d) 0 ds (d ∷ [])

-- the last digit apart
digit-one : (bits x : ℕ) → digits bits 1 x ≡ (x % 2 ^ bits) ∷ []
unfolding digits
digit-one bits x = rw (mul-zero bits, div-one)

pub digits_more : (bits n x : ℕ) → digits bits (suc n) x ≡ digits bits n (x / 2 ^ bits) ++ (x % 2 ^ bits) ∷ []
digits_more bits n x =
    let e : x ≡ x / 2 ^ bits * 2 ^ (bits * 1) + x % 2 ^ bits = rw (mul-one bits) (sym (split x bits)) in
    let h : x % 2 ^ bits < 2 ^ (bits * 1) = rw (mul-one bits) (mod-lt x (pow_pos bits)) in
    let s = digits-split bits n 1 (x / 2 ^ bits) (x % 2 ^ bits) h in
    ap (digits bits (suc n)) e ∙ rw (add-one n, digit-one bits (x % 2 ^ bits), mod-mod) at s

-- a list of digits: the last apart
last_apart : (n : ℕ) (ds : List ℕ) → length ds ≡ suc n → ds ≡ take n ds ++ get_or ds n 0 ∷ []
last_apart n ds e = sym (take_all (suc n) ds (omega arith)) ∙ take-suc ds n 0 (omega arith)

power : (bits n : ℕ) → 2 ^ (bits * suc n) ≡ 2 ^ (bits * n) * 2 ^ bits
power bits n = rw (mul-suc bits n) (pow-add 2 (bits * n) bits)

pub number-below : (bits n : ℕ) (ds : List ℕ) → length ds ≡ n → Every (λ (d : ℕ). d < 2 ^ bits) ds → number (2 ^ bits) ds < 2 ^ (bits * n)
number-below bits zero [] e h = rw (mul-zero bits) (omega arith)
number-below bits zero (x ∷ ds) e h = absurd (omega arith)
number-below bits (suc n) ds e h =
    let q = number-below bits n (take n ds) (length-take-le n ds (omega arith)) (every_take n h) in
    rw (last_apart n ds e, number_more (2 ^ bits) (take n ds) (get_or ds n 0), power bits n) (digits_lt q (every-at ds n 0 h (omega arith)))

pub digits_number : (bits n : ℕ) (ds : List ℕ) → length ds ≡ n → Every (λ (d : ℕ). d < 2 ^ bits) ds → digits bits n (number (2 ^ bits) ds) ≡ ds
digits_number bits zero [] e h = unfold digits in refl
digits_number bits zero (x ∷ ds) e h = absurd (omega arith)
digits_number bits (suc n) ds e h =
    let s = last_apart n ds e in
    let d = every-at ds n 0 h (omega arith) in
    let x = number (2 ^ bits) (take n ds) in
    let r = digits_number bits n (take n ds) (length-take-le n ds (omega arith)) (every_take n h) in
    ap (λ (l : List ℕ). digits bits (suc n) (number (2 ^ bits) l)) s
    ∙ rw (number_more (2 ^ bits) (take n ds) (get_or ds n 0), digits_more, high x bits d, low x bits d, r) (sym s)

pub number_digits : (bits n x : ℕ) → x < 2 ^ (bits * n) → number (2 ^ bits) (digits bits n x) ≡ x
number_digits bits zero x h =
    let z : x < 1 = rw (mul-zero bits) at h in
    unfold digits in omega arith
number_digits bits (suc n) x h =
    let q : x / 2 ^ bits < 2 ^ (bits * n) = shr_lt (bits * n) bits (rw (mul-suc bits n) at h) in
    rw (digits_more bits n x, number_more (2 ^ bits) (digits bits n (x / 2 ^ bits)) (x % 2 ^ bits), number_digits bits n (x / 2 ^ bits) q) (split x bits)

pub every-digits : (bits n x : ℕ) → Every (λ (d : ℕ). d < 2 ^ bits) (digits bits n x)
every-digits bits zero x = unfold digits in none
every-digits bits (suc n) x = rw (digits_more bits n x) (every_append (every-digits bits n (x / 2 ^ bits)) (also (mod-lt x (pow_pos bits)) none))
