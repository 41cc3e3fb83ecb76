-- Bounds and lengths of opcodes by their first byte, each computed once over all of them. Assumes nothing.
use Prim.Native.Nat.{ℕ, ◌+◌, ◌-◌, ◌*◌, ◌/◌, ◌%◌, ◌<◌, ◌≤◌}
use mathlib.Core.Path.{◌≡◌, refl}
use mathlib.Core.List.{List}
use mathlib.Core.Bool.{Bool, true, false}
use native.Mathlib.Omega.{arith}
use lib.Dec.{eqb, ltb}
use lib.ListN.{get_or}
use borrow.Author.Tests.{le-ltb, eqb-true}
use Rattle.spec.specs.Basics.{if}
use Rattle.spec.specs.Chunks.{kind_of, counted, times, once, each, upper_at, count_at, body_at}
use Rattle.spec.proofs.Computed.{test_at, agree_at, at_most}
use Rattle.spec.proofs.Lists.{by-test}
use Rattle.smc_check.specs.Tables.{span_of}

pub times-small : (u : ℕ) → u < 16 → times (kind_of u) ≤ 2
times-small = at_most (λ u. times (kind_of u)) 2 16 refl

pub times-some : (u : ℕ) → u < 16 → 1 ≤ times (kind_of u)
times-some u h = let e = at_most (λ u. 1 - times (kind_of u)) 0 16 refl u h in omega (arith, e)

each_none : (u : ℕ) → u < 16 → counted u ≡ true → each (kind_of u) ≡ 0
unfolding if
each_none u h t = rw t at (agree_at (λ u. if (counted u) (each (kind_of u)) 0) (λ u. 0) 16 refl u h)

pub count_small : (s : List ℕ) (at : ℕ) → get_or s (at + 1) 0 < 256 → count_at s at ≤ 256
unfolding count_at
count_small s at h = by-test (λ (n : ℕ). n ≤ 256) _ (λ t. omega arith) (λ t. omega arith)

pub count-some : (s : List ℕ) (at : ℕ) → 1 ≤ count_at s at
unfolding count_at
count-some s at = by-test (λ (n : ℕ). 1 ≤ n) _ (λ t. omega arith) (λ t. omega arith)

-- the place after an opcode, by its first byte
module _ (s : List ℕ) (at : ℕ) (byte : get_or s at 0 < 256) where
  pub span-end : body_at s at + once (kind_of (upper_at s at)) + each (kind_of (upper_at s at)) * (times (kind_of (upper_at s at)) * count_at s at)
      ≡ at + span_of (get_or s at 0)
  unfolding body_at count_at span_of if
  span-end = by (counted (upper_at s at)) (each_none (upper_at s at) (omega arith))
    where
      by : (t : Bool) → (t ≡ true → each (kind_of (upper_at s at)) ≡ 0)
          → if t (at + 2) (at + 1) + once (kind_of (upper_at s at))
          + each (kind_of (upper_at s at)) * (times (kind_of (upper_at s at)) * if t (1 + get_or s (at + 1) 0) (1 + get_or s at 0 % 16))
          ≡ at + (if t 2 1 + once (kind_of (upper_at s at)) + each (kind_of (upper_at s at)) * (times (kind_of (upper_at s at)) * (1 + get_or s at 0 % 16)))
      by true z = rw (z refl) (omega arith)
      by false z = omega arith

  -- F is one byte by itself
  pub unknown-span : 15 ≤ upper_at s at → span_of (get_or s at 0) ≡ 1
  unfolding span_of if
  unknown-span h =
      eqb-true (span_of (get_or s at 0)) 1
      (rw (le-ltb (get_or s at 0 / 16) 15 h) at (test_at (λ b. if (ltb (b / 16) 15) true (eqb (span_of b) 1)) 256 refl (get_or s at 0) byte))
