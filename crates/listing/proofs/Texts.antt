-- Text made from its end: one byte in front, and a number's digits. Assumes nothing.
use Prim.Native.Nat.{ℕ, zero, suc, ◌+◌, ◌-◌, ◌*◌, ◌/◌, ◌%◌, ◌^◌, ◌<◌, ◌≤◌}
use mathlib.Core.Path.{◌≡◌, refl, sym, ap, ◌∙◌}
use mathlib.Core.List.{List, ◌∷◌}
use native.Mathlib.Nat.{pow-succ'}
use native.Mathlib.Omega.{arith}
use lib.ListN.{length, set, drop, length-set}
use lib.Seq.{drop-cons, drop-set-lt, get_or-set_same}
use borrow.Author.Tests.{ne_eqb}
use Rattle.spec.specs.Basics.{if}
use Rattle.spec.specs.Listing.{digit, higher_digits}

-- A byte in front of what stands from `end` on, for whoever makes text in a list at its end. The check finds `put_byte` without it.
pub front : (l : List ℕ) (end v : ℕ) → 1 ≤ end → end ≤ length l → drop (end - 1) (set l (end - 1) v) ≡ v ∷ drop end l
front l end v some fits =
    let e : suc (end - 1) ≡ end = omega arith in
    let h : end - 1 < length l = omega arith in
    drop-cons (set l (end - 1) v) (end - 1) 0 (rw length-set h)
    ∙ rw (get_or-set_same l (end - 1) v 0 h, e, drop-set-lt end l (end - 1) v (omega arith))

-- of the number n, `higher` is still to be put in front of the text, in at most so many digits
pub record Spelling (n : ℕ) (before : List ℕ) (end at higher : ℕ) (text : List ℕ) : Type 0 where
  pub left : ℕ
  pub place : left + end ≡ at + 19
  pub low : at ≤ end
  pub fits : higher < 10 ^ left
  pub text-is : higher_digits 19 n before ≡ higher_digits left higher text

pub spelling-none : (n : ℕ) (text : List ℕ) (end : ℕ) → n < 10 ^ 19 → Spelling n text end end n text
spelling-none n text end small = record { left = 19; place = omega arith; low = omega arith; fits = small; text-is = refl }

turn : (left n : ℕ) (text : List ℕ) → 0 < n → higher_digits (suc left) n text ≡ higher_digits left (n / 10) (digit n ∷ text)
unfolding higher_digits if
turn left n text some = rw (ne_eqb n 0 (λ e. omega arith))

ended : (left : ℕ) (text : List ℕ) → higher_digits left 0 text ≡ text
unfolding higher_digits if
ended zero text = refl
ended (suc left) text = refl

module _ {n : ℕ} {before : List ℕ} {end at higher : ℕ} {text : List ℕ} (w : Spelling n before end at higher text) where
  pub spelling-more : {at' : ℕ} {text' : List ℕ} → 0 < higher → 19 ≤ end → at' + 1 ≡ at → text' ≡ (48 + higher % 10) ∷ text
      → Spelling n before end at' (higher / 10) text'
  spelling-more {at'} {text'} some room step e = by w.left w.fits w.place w.text-is
    where
      by : (left : ℕ) → higher < 10 ^ left → left + end ≡ at + 19 → higher_digits 19 n before ≡ higher_digits left higher text
          → Spelling n before end at' (higher / 10) text'
      by zero f p t = absurd (omega arith)
      by (suc left) f p t =
          let ten : 10 ^ suc left ≡ 10 * 10 ^ left = pow-succ' 10 left in
          record {
            left = left;
            place = omega arith;
            low = omega (arith, w.low);
            fits = omega arith;
            text-is = t ∙ turn left higher text some ∙ ap (higher_digits left (higher / 10)) (sym e);
          }

  pub spelling-end : higher ≡ 0 → text ≡ higher_digits 19 n before
  spelling-end e = sym (w.text-is ∙ ap (λ (h : ℕ). higher_digits w.left h text) e ∙ ended w.left text)
