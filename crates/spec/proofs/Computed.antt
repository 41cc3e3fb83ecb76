-- A test that passes at each number below n, computed by antt once; and two rules compared there. Assumes nothing.
use Prim.Native.Nat.{ℕ, zero, suc, ◌<◌, ◌≤◌}
use mathlib.Core.Path.{◌≡◌}
use mathlib.Core.Bool.{Bool, true, ◌&&◌, and-eq-true_iff}
use native.Mathlib.Nat.{not-suc-le-zero}
use native.Mathlib.Decide.{ℕ_discrete}
use native.Mathlib.Omega.{arith}
use lib.Dec.{eqb, leb}
use borrow.Author.Tests.{eqb-true, leb-true}

abbrev pub passes : (ℕ → Bool) → ℕ → Bool
passes f zero = true
passes f (suc n) = f n && passes f n

pub test_at : (f : ℕ → Bool) (n : ℕ) → passes f n ≡ true → (u : ℕ) → u < n → f u ≡ true
test_at f zero t u h = absurd (not-suc-le-zero h)
test_at f (suc n) t u h = by (ℕ_discrete u n) (λ l. test_at f n parts.1 u l)
  where
    parts : (f n ≡ true) × (passes f n ≡ true)
    parts = (and-eq-true_iff (f n) (passes f n)).0 t

    by : Dec (u ≡ n) → (u < n → f u ≡ true) → f u ≡ true
    by (yes e) ih = rw e parts.0
    by (no e) ih = ih (omega arith)

pub agree_at : (f g : ℕ → ℕ) (n : ℕ) → passes (λ u. eqb (f u) (g u)) n ≡ true → (u : ℕ) → u < n → f u ≡ g u
agree_at f g n t u h = eqb-true (f u) (g u) (test_at (λ u. eqb (f u) (g u)) n t u h)

pub at_most : (f : ℕ → ℕ) (most n : ℕ) → passes (λ u. leb (f u) most) n ≡ true → (u : ℕ) → u < n → f u ≤ most
at_most f most n t u h = leb-true (f u) most (test_at (λ u. leb (f u) most) n t u h)
