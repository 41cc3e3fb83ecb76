-- The head of an opcode: what one that is not refused has been checked for, and one law for each way out. Assumes nothing.
use Prim.Native.Nat.{ℕ, ◌+◌, ◌*◌, ◌<◌, ◌≤◌}
use mathlib.Core.Path.{◌≡◌}
use mathlib.Core.List.{List}
use mathlib.Core.Bool.{true, false}
use native.Mathlib.Omega.{arith}
use lib.ListN.{length, get_or}
use borrow.Author.Tests.{ltb-false, leb-false, lt-ltb, le-ltb, le-leb, lt-leb}
use Rattle.spec.specs.Basics.{if}
use Rattle.spec.specs.Answers.{opcode_cut, opcode_unknown, none_before, past_last_block, entry_empty}
use Rattle.spec.specs.Chunks.{Kind, Head, runs, kind_of, times, reach, once, each, names, missing, body, upper_at, count_at, body_at, opcode}
use Rattle.spec.proofs.Lists.{by-test}

-- an opcode of upper half-byte u and its count, whose further bytes stand at b, has its blocks, its bytes and its table's entry
pub record Fits (n : ℕ) (s : List ℕ) (k : ℕ) (filled : List ℕ) (u count b : ℕ) : Type 0 where
  pub known : u < 15
  pub before : reach (kind_of u) ≤ k
  pub within : k + times (kind_of u) * count ≤ n
  pub full : missing filled (kind_of u) (get_or s b 0) ≡ false
  pub room : b + once (kind_of u) + each (kind_of u) * (times (kind_of u) * count) ≤ length s

pub data Known (n : ℕ) (s : List ℕ) (k : ℕ) (filled : List ℕ) (u count b : ℕ) : Head → Type 0 where
  bad : {e : ℕ} → Known n s k filled u count b (Head.bad e)
  good : Fits n s k filled u count b → Known n s k filled u count b (runs (kind_of u) (times (kind_of u) * count) b)

known-body : (n : ℕ) (s : List ℕ) (k : ℕ) (filled : List ℕ) (u count b : ℕ) → u < 15 → Known n s k filled u count b (body n s k filled u count b)
unfolding body
known-body n s k filled u count b l =
    by-test (Known n s k filled u count b) _ (λ t. bad) (λ before.
    by-test (Known n s k filled u count b) _ (λ t. bad) (λ within.
    by-test (Known n s k filled u count b) _ (λ t. bad) (λ t.
    by-test (Known n s k filled u count b) _ (λ t. bad) (λ full.
    by-test (Known n s k filled u count b) _ (λ t. bad) (λ room.
    good (record { known = l; before = ltb-false _ _ before; within = ltb-false _ _ within; full = full; room = ltb-false _ _ room }))))))

pub known-head : (n : ℕ) (s : List ℕ) (at k : ℕ) (filled : List ℕ)
    → Known n s k filled (upper_at s at) (count_at s at) (body_at s at) (opcode n s at k filled)
unfolding opcode
known-head n s at k filled =
    by-test (Known n s k filled (upper_at s at) (count_at s at) (body_at s at)) _ (λ t. bad) (λ l.
    by-test (Known n s k filled (upper_at s at) (count_at s at) (body_at s at)) _ (λ t. bad) (λ t.
    known-body n s k filled (upper_at s at) (count_at s at) (body_at s at) (leb-false _ _ l)))

pub body-after : (s : List ℕ) (at : ℕ) → at < body_at s at
unfolding body_at
body-after s at = by-test (λ (p : ℕ). at < p) _ (λ t. omega arith) (λ t. omega arith)

-- a kind that names no entry misses none
pub missing-unnamed : (filled : List ℕ) (k : Kind) (e : ℕ) → names k ≡ 0 → missing filled k e ≡ false
unfolding missing if
missing-unnamed filled k e z = rw z

-- r, t, o and e are the numbers that code holds for `reach`, `times`, `once` and `each`
module _ (n : ℕ) (s : List ℕ) (k : ℕ) (filled : List ℕ) (u count at : ℕ) (r : ℕ) (er : r ≡ reach (kind_of u)) where
  pub body-none-before : k < r → body n s k filled u count at ≡ Head.bad none_before
  unfolding body if
  body-none-before h = rw (← er, lt-ltb k r h)

  module _ (a : r ≤ k) (t : ℕ) (et : t ≡ times (kind_of u)) where
    pub body-past : n < k + t * count → body n s k filled u count at ≡ Head.bad past_last_block
    unfolding body if
    body-past h = rw (← er, ← et, le-ltb k r a, lt-ltb n (k + t * count) h)

    module _ (b : k + t * count ≤ n) (o : ℕ) (eo : o ≡ once (kind_of u)) where
      pub body-cut-once : length s < at + o → body n s k filled u count at ≡ Head.bad opcode_cut
      unfolding body if
      body-cut-once h = rw (← er, ← et, ← eo, le-ltb k r a, le-ltb n (k + t * count) b, lt-ltb (length s) (at + o) h)

      module _ (d : at + o ≤ length s) where
        pub body-empty : missing filled (kind_of u) (get_or s at 0) ≡ true → body n s k filled u count at ≡ Head.bad entry_empty
        unfolding body if
        body-empty h = rw (← er, ← et, ← eo, le-ltb k r a, le-ltb n (k + t * count) b, le-ltb (length s) (at + o) d, h)

        module _ (z : missing filled (kind_of u) (get_or s at 0) ≡ false) (e : ℕ) (ee : e ≡ each (kind_of u)) where
          pub body-cut : length s < at + o + e * (t * count) → body n s k filled u count at ≡ Head.bad opcode_cut
          unfolding body if
          body-cut h =
              rw (← er, ← et, ← eo, ← ee, le-ltb k r a, le-ltb n (k + t * count) b, le-ltb (length s) (at + o) d, z, lt-ltb (length s) (at + o + e * (t * count)) h)

          pub body-runs : at + o + e * (t * count) ≤ length s → body n s k filled u count at ≡ runs (kind_of u) (t * count) at
          unfolding body if
          body-runs h =
              rw (← er, ← et, ← eo, ← ee, le-ltb k r a, le-ltb n (k + t * count) b, le-ltb (length s) (at + o) d, z, le-ltb (length s) (at + o + e * (t * count)) h)

module _ (n : ℕ) (s : List ℕ) (at k : ℕ) (filled : List ℕ) where
  pub opcode-unknown : 15 ≤ upper_at s at → opcode n s at k filled ≡ Head.bad opcode_unknown
  unfolding opcode if
  opcode-unknown h = rw (le-leb 15 (upper_at s at) h)

  module _ (a : upper_at s at < 15) where
    pub opcode-cut : length s < body_at s at → opcode n s at k filled ≡ Head.bad opcode_cut
    unfolding opcode if
    opcode-cut h = rw (lt-leb 15 (upper_at s at) a, lt-ltb (length s) (body_at s at) h)

    pub opcode-body : body_at s at ≤ length s → opcode n s at k filled ≡ body n s k filled (upper_at s at) (count_at s at) (body_at s at)
    unfolding opcode if
    opcode-body h = rw (lt-leb 15 (upper_at s at) a, le-ltb (length s) (body_at s at) h)
