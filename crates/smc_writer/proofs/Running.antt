-- How far a run goes: whether it ends before a block, and its length on the way. Assumes nothing.
use Prim.Native.Nat.{ℕ, suc, ◌+◌, ◌-◌, ◌<◌, ◌≤◌}
use mathlib.Core.Path.{◌≡◌, refl, sym, ap, ◌∙◌}
use mathlib.Core.Bool.{Bool, true, false, not, ◌&&◌, true≢false}
use mathlib.Core.List.{List, [], ◌∷◌, ◌++◌}
use native.Mathlib.Omega.{arith}
use lib.Dec.{ltb}
use lib.ListN.{get_or, drop, length-drop}
use borrow.Author.Tests.{lt-ltb, le-ltb, ltb-true, ltb-false}
use Rattle.spec.specs.Basics.{if, same}
use Rattle.spec.specs.Pictures.{Origin, given, held, block_at}
use Rattle.spec.specs.Writing.{single, counting, plain, opcode_for, joins, alike, max_run}
use Rattle.spec.proofs.Written.{alike-room, alike-most, alike-none, alike-not, alike-alone}
use Rattle.smc_writer.specs.Kept.{origin_at, origins}
use Rattle.smc_writer.specs.declared.changes.Changes.{Changes}
use Rattle.smc_writer.specs.Runs.{run_at, bytes_at, ends_at}
use Rattle.smc_writer.specs.Changes.{blocks_of, run_of, bytes_of}
use Rattle.smc_writer.proofs.Flagging.{origin-kept, origin-changed, length-origins, origins-cons, origins-end}

-- by the tests of the code
module _ (c n : ℕ) (kept : List Bool) (new : List ℕ) (k j : ℕ) where
  pub ends-past : n ≤ j → true ≡ ends_at c n kept new k j
  unfolding ends_at if
  ends-past h = rw (le-ltb j n h)

  module _ (h : j < n) where
    ends_by : not (joins (origin_at c kept new k) (origin_at c kept new j)) ≡ ends_at c n kept new k j
    unfolding ends_at if
    ends_by = rw (lt-ltb j n h)

    pub ends-skip : get_or kept k false ≡ true → not (get_or kept j false) ≡ ends_at c n kept new k j
    unfolding origin_at if
    ends-skip e = by (get_or kept j false) ∙ ap (λ (x : Origin). not (joins x (origin_at c kept new j))) (sym (origin-kept c kept new k e)) ∙ ends_by
      where
        by : (t : Bool) → not t ≡ not (joins (held k) (if t (held j) (given (block_at c new j))))
        by true = refl
        by false = refl

    module _ (changed : get_or kept k false ≡ false) where
      pub ends-kept : get_or kept j false ≡ true → true ≡ ends_at c n kept new k j
      ends-kept e = sym (λ i. not (joins (origin-changed c kept new k changed i) (origin-kept c kept new j e i))) ∙ ends_by

      pub ends-apart : get_or kept j false ≡ false → {px : List ℕ} → px ≡ block_at c new k → plain px ≡ true
          → not (same px (block_at c new j)) ≡ ends_at c n kept new k j
      ends-apart e {px} shows one =
          let q : not (plain px && same px (block_at c new j)) ≡ not (same px (block_at c new j)) = rw one in
          sym q
          ∙ ap (λ (x : List ℕ). not (plain x && same x (block_at c new j))) shows
          ∙ sym (λ i. not (joins (origin-changed c kept new k changed i) (origin-changed c kept new j e i)))
          ∙ ends_by

-- what the answer says of the run
module _ (c n : ℕ) (kept : List Bool) (new : List ℕ) (k j : ℕ) where
  ends-false : ends_at c n kept new k j ≡ false → (j < n) × (joins (origin_at c kept new k) (origin_at c kept new j) ≡ true)
  unfolding ends_at if
  ends-false e = by (ltb j n) (joins (origin_at c kept new k) (origin_at c kept new j)) refl refl e
    where
      by : (a b : Bool) → ltb j n ≡ a → joins (origin_at c kept new k) (origin_at c kept new j) ≡ b → if a (not b) true ≡ false
          → (j < n) × (joins (origin_at c kept new k) (origin_at c kept new j) ≡ true)
      by true true ea eb e = (ltb-true j n ea, eb)
      by true false ea eb e = absurd (true≢false e)
      by false b ea eb e = absurd (true≢false e)

  ends-true : ends_at c n kept new k j ≡ true → (most : ℕ) → alike (origin_at c kept new k) most (drop j (origins c n kept new)) ≡ 0
  unfolding ends_at if
  ends-true e most = by (ltb j n) (joins (origin_at c kept new k) (origin_at c kept new j)) refl refl e
    where
      by : (a b : Bool) → ltb j n ≡ a → joins (origin_at c kept new k) (origin_at c kept new j) ≡ b → if a (not b) true ≡ true
          → alike (origin_at c kept new k) most (drop j (origins c n kept new)) ≡ 0
      by true true ea eb e = absurd (true≢false (sym e))
      by true false ea eb e = rw (origins-cons c n kept new j (ltb-true j n ea)) (alike-not _ most _ _ eb)
      by false b ea eb e = rw (origins-end c n kept new j (ltb-false j n ea)) (alike-none _ most)

-- how many blocks a run has, on the way: m so far
pub record Counting (c n : ℕ) (kept : List Bool) (new : List ℕ) (k m : ℕ) : Type 0 where
  pub some : 1 ≤ m
  pub most : m ≤ max_run
  pub within : k + m ≤ n
  pub so_far : run_at c n kept new k ≡ m + alike (origin_at c kept new k) (max_run - m) (drop (k + m) (origins c n kept new))

module _ (c n : ℕ) (kept : List Bool) (new : List ℕ) (k : ℕ) where
  pub counting-starts : k < n → Counting c n kept new k 1
  unfolding run_at
  counting-starts h =
      let e : suc k ≡ k + 1 = omega arith in
      record { some = omega arith; most = omega arith; within = omega arith; so_far = rw e (omega arith) }

  module _ (m : ℕ) (s : Counting c n kept new k m) where
    pub counting-full : max_run ≤ m → m ≡ run_at c n kept new k
    unfolding alike
    counting-full h =
        let z : max_run - m ≡ 0 = omega arith in
        let e = rw z at s.so_far in
        omega arith

    pub counting-stops : ends_at c n kept new k (k + m) ≡ true → m ≡ run_at c n kept new k
    counting-stops t =
        let e = rw (ends-true c n kept new k (k + m) t (max_run - m)) at s.so_far in
        omega arith

    pub counting-on : m < max_run → ends_at c n kept new k (k + m) ≡ false → Counting c n kept new k (m + 1)
    unfolding alike if
    counting-on l t =
        let g = ends-false c n kept new k (k + m) t in
        let z : max_run - m ≡ suc (max_run - (m + 1)) = omega arith in
        let q : suc (k + m) ≡ k + (m + 1) = omega arith in
        let e = rw (z, origins-cons c n kept new (k + m) g.0, g.1, q) at s.so_far in
        record { some = omega arith; most = omega arith; within = omega (arith, g.0); so_far = omega arith }

-- a run has blocks, at most so many, and those there are
pub record Ran (n k m : ℕ) : Type 0 where
  pub some : 1 ≤ m
  pub most : m ≤ max_run
  pub within : k + m ≤ n

pub ran : (c n : ℕ) (kept : List Bool) (new : List ℕ) (k : ℕ) → k < n → Ran n k (run_at c n kept new k)
unfolding run_at
ran c n kept new k h =
    let os = drop (suc k) (origins c n kept new) in
    let room = alike-room (origin_at c kept new k) (max_run - 1) os in
    let most = alike-most (origin_at c kept new k) (max_run - 1) os in
    let l = length-drop (suc k) (origins c n kept new) in
    let t = length-origins c n kept new in
    record { some = omega arith; most = omega arith; within = omega arith }

-- a run's bytes, by the tests of the code
module _ (s : Changes) (k : ℕ) where
  pub bytes-skip : get_or s.kept.now k false ≡ true → bytes_of s k ≡ counting 0 (run_of s k)
  unfolding bytes_at opcode_for
  bytes-skip e = rw (origin-kept s.grid.columns s.kept.now s.new.now k e)

  module _ (changed : get_or s.kept.now k false ≡ false) {px : List ℕ} (shows : px ≡ block_at s.grid.columns s.new.now k) {t : Bool} (e : t ≡ plain px) where
    pub bytes-fill : t ≡ true → bytes_of s k ≡ counting 6 (run_of s k) ++ get_or px 0 0 ∷ []
    unfolding bytes_at opcode_for if
    bytes-fill q = rw (origin-changed s.grid.columns s.kept.now s.new.now k changed, ← shows, ← e, q)

    pub bytes-single : t ≡ false → bytes_of s k ≡ single px
    unfolding bytes_at opcode_for if
    bytes-single q = rw (origin-changed s.grid.columns s.kept.now s.new.now k changed, ← shows, ← e, q)

    pub run-single : t ≡ false → 1 ≡ run_of s k
    unfolding run_at
    run-single q =
        let os = origins s.grid.columns (blocks_of s) s.kept.now s.new.now in
        rw (origin-changed s.grid.columns s.kept.now s.new.now k changed, ← shows, alike-alone px (sym e ∙ q) (max_run - 1) (drop (suc k) os))
