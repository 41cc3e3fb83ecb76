-- A loop with fuel: each turn leaves less to do, so it never matters how much fuel there is, once there is enough. Assumes nothing.
use Prim.Native.Nat.{ℕ, zero, suc, ◌<◌, ◌≤◌}
use mathlib.Core.Path.{◌≡◌, refl, sym, ◌∙◌}
use mathlib.Core.Bool.{Bool, true, false, true≢false}
use native.Mathlib.Omega.{arith}
use Rattle.spec.specs.Basics.{if, fuelled}
use Rattle.spec.proofs.Lists.{by-test}

if_congr : {A : Type 0} (b : Bool) {x y : A} (z : A) → (b ≡ true → x ≡ y) → if b x z ≡ if b y z
unfolding if
if_congr true z h = h refl
if_congr false z h = refl

module _ {S R : Type 0} (test : S → Bool) (turn : (S → R) → S → R) (finish : S → R) where
  -- what holds of every way out, by what holds at every turn
  pub by-fuel : (Inv : S → Type 0) (P : R → Type 0)
      → ((onward : S → R) (st : S) → test st ≡ true → Inv st → ((st' : S) → Inv st' → P (onward st')) → P (turn onward st))
      → ((st : S) → Inv st → P (finish st))
      → (fuel : ℕ) (st : S) → Inv st → P (fuelled test turn finish fuel st)
  unfolding fuelled
  by-fuel Inv P go end zero st i = end st i
  by-fuel Inv P go end (suc fuel) st i =
      by-test P (test st) (λ t. go _ st t i (λ st' i'. by-fuel Inv P go end fuel st' i')) (λ t. end st i)

  pub fuel-end : (fuel : ℕ) (st : S) → test st ≡ false → fuelled test turn finish fuel st ≡ finish st
  unfolding fuelled if
  fuel-end zero st e = refl
  fuel-end (suc fuel) st e = rw e

  -- `left` is what is left to do: none where the loop ends, and a turn sees what comes after it only where less is left
  module _ (left : S → ℕ) (done : (st : S) → left st ≡ 0 → test st ≡ false)
      (less : (f g : S → R) (st : S) → test st ≡ true → ((st' : S) → left st' < left st → f st' ≡ g st') → turn f st ≡ turn g st) where
    pub fuel-enough : (fuel : ℕ) (st : S) → left st ≤ fuel → fuelled test turn finish (suc fuel) st ≡ fuelled test turn finish fuel st
    unfolding fuelled
    fuel-enough zero st h = fuel-end 1 st (done st (omega arith))
    fuel-enough (suc fuel) st h = if_congr (test st) (finish st) (λ t. less _ _ st t (λ st' l. fuel-enough fuel st' (omega arith)))

    pub fuel-turn : (fuel : ℕ) (st : S) → left st ≤ fuel → test st ≡ true
        → fuelled test turn finish fuel st ≡ turn (λ st'. fuelled test turn finish fuel st') st
    unfolding fuelled if
    fuel-turn zero st h t = absurd (true≢false (sym t ∙ done st (omega arith)))
    fuel-turn (suc fuel) st h t = rw t (less _ _ st t (λ st' l. sym (fuel-enough fuel st' (omega arith))))
