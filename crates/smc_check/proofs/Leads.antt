-- The lead of an opcode by the bytes of its count, none or one. Assumes nothing.
use Prim.Native.Nat.{ℕ, ◌+◌, ◌/◌, ◌%◌, ◌<◌, ◌≤◌}
use mathlib.Core.Path.{◌≡◌, refl}
use mathlib.Core.List.{List}
use mathlib.Core.Bool.{Bool, true, false}
use native.Mathlib.Decide.{ℕ_discrete}
use native.Mathlib.Omega.{arith}
use lib.Dec.{eqb}
use lib.ListN.{get_or}
use borrow.Author.Tests.{lt-ltb, le-ltb, eq-eqb, ne_eqb}
use Rattle.spec.specs.Basics.{if}
use Rattle.spec.specs.Chunks.{counted, upper_at, count_at, body_at}

bit : (x : ℕ) → x < 2 → x ≡ if (eqb x 1) 1 0
unfolding if
bit x h = by (ℕ_discrete x 1)
  where
    by : Dec (x ≡ 1) → x ≡ if (eqb x 1) 1 0
    by (yes e) = rw (eq-eqb x 1 e) e
    by (no e) = rw (ne_eqb x 1 e) (omega arith)

pub one-if-odd : (u : ℕ) → u < 8 → u % 2 ≡ if (counted u) 1 0
one-if-odd u h =
    let e : counted u ≡ eqb (u % 2) 1 = rw (lt-ltb u 8 h) in
    rw e (bit (u % 2) (omega arith))

pub none-if-high : (u : ℕ) → 8 ≤ u → ◌≡◌ {A = ℕ} 0 (if (counted u) 1 0)
unfolding if
none-if-high u h =
    let e : counted u ≡ false = rw (le-ltb u 8 h) in
    rw e

-- o is the opcode and b the number of its count's bytes, as the code holds them
module _ (s : List ℕ) (at o : ℕ) (eo : o ≡ get_or s at 0) (b : ℕ) (eb : b ≡ if (counted (o / 16)) 1 0) where
  e : b ≡ if (counted (upper_at s at)) 1 0
  e = rw (← eo) eb

  pub body-by-bytes : at + 1 + b ≡ body_at s at
  unfolding body_at if
  body-by-bytes = rw e (by (counted (upper_at s at)))
    where
      by : (t : Bool) → at + 1 + if {A = ℕ} t 1 0 ≡ if t (at + 2) (at + 1)
      by true = omega arith
      by false = omega arith

  pub count-by-bytes : (x : ℕ) → x ≡ get_or s (at + b) 0 → if (eqb b 0) (1 + o % 16) (1 + x) ≡ count_at s at
  unfolding count_at if
  count-by-bytes x ex = rw (ex, eo, e) (by (counted (upper_at s at)))
    where
      by : (t : Bool) → if (eqb (if {A = ℕ} t 1 0) 0) (1 + get_or s at 0 % 16) (1 + get_or s (at + if {A = ℕ} t 1 0) 0)
          ≡ if t (1 + get_or s (at + 1) 0) (1 + get_or s at 0 % 16)
      by true = refl
      by false = refl
