-- The writer's chunk: how far its runs go, and how long it is. Assumes nothing.
use Prim.Native.Nat.{ℕ, zero, suc, ◌+◌, ◌-◌, ◌*◌, ◌^◌, ◌≤◌}
use mathlib.Core.Path.{◌≡◌, refl}
use mathlib.Core.List.{List, [], ◌∷◌, map}
use mathlib.Core.Bool.{false}
use native.Mathlib.Omega.{arith}
use lib.Dec.{leb}
use lib.ListN.{length, drop, length-append, length-map}
use borrow.Author.Tests.{leb-true}
use Rattle.spec.specs.declared.Size.{Size}
use Rattle.spec.specs.Basics.{if, from, same}
use Rattle.spec.specs.Sizes.{columns, blocks}
use Rattle.spec.specs.Pictures.{Origin, given, held, block_at}
use Rattle.spec.specs.Writing.{colours, entries, tabled, single, counting, plain, opcode_for, joins, alike, max_run, opcodes, Writable, ends, keeps, gives, encode, max_length, difference, differences}
use Rattle.spec.proofs.Lists.{by-test, length_from}
use Rattle.spec.proofs.Blocks.{length-shown}
use Rattle.spec.proofs.Digits.{length_digits}
use Rattle.spec.proofs.Packing.{length-flag_bytes}
use Rattle.spec.proofs.Colours.{length-entries}

-- a run ends with the blocks there are, and goes no further than it may
module _ (x : Origin) where
  pub alike-room : (most : ℕ) (ys : List Origin) → alike x most ys ≤ length ys
  unfolding alike
  alike-room zero ys = omega arith
  alike-room (suc most) [] = omega arith
  alike-room (suc most) (y ∷ ys) =
      let h = alike-room most ys in
      by-test (λ (j : ℕ). j ≤ suc (length ys)) (joins x y) (λ t. omega arith) (λ t. omega arith)

  pub alike-most : (most : ℕ) (ys : List Origin) → alike x most ys ≤ most
  unfolding alike
  alike-most zero ys = omega arith
  alike-most (suc most) [] = omega arith
  alike-most (suc most) (y ∷ ys) =
      let h = alike-most most ys in
      by-test (λ (j : ℕ). j ≤ suc most) (joins x y) (λ t. omega arith) (λ t. omega arith)

  -- it ends where there is no block, or one that does not join
  pub alike-none : (most : ℕ) → alike x most [] ≡ 0
  unfolding alike
  alike-none zero = refl
  alike-none (suc most) = refl

  pub alike-not : (most : ℕ) (y : Origin) (ys : List Origin) → joins x y ≡ false → alike x most (y ∷ ys) ≡ 0
  unfolding alike if
  alike-not zero y ys t = refl
  alike-not (suc most) y ys t = rw t

-- a block of several colours stands by itself
pub alike-alone : (px : List ℕ) → plain px ≡ false → (most : ℕ) (ys : List Origin) → alike (given px) most ys ≡ 0
alike-alone px t most [] = alike-none (given px) most
alike-alone px t most (held k ∷ ys) = alike-not (given px) most (held k) ys refl
alike-alone px t most (given qx ∷ ys) = alike-not (given px) most (given qx) ys (rw t)

pub opcodes-drop : (j : ℕ) (xs : List Origin) → opcodes j xs ≡ opcodes 0 (drop j xs)
unfolding opcodes
opcodes-drop zero xs = refl
opcodes-drop (suc j) [] = refl
opcodes-drop (suc j) (x ∷ xs) = opcodes-drop j xs

-- how many bytes an opcode has: at least one, and at most 17 for a block of sixteen pixels
abbrev pub Block : Origin → Type 0
Block (held k) = Unit {0}
Block (given px) = length px ≡ 16

module _ (u m : ℕ) where
  pub counting-some : 1 ≤ length (counting u m)
  unfolding counting
  counting-some = by-test (λ (l : List ℕ). 1 ≤ length l) (leb m 16) (λ t. omega arith) (λ t. omega arith)

  pub counting-most : length (counting u m) ≤ 2
  unfolding counting
  counting-most = by-test (λ (l : List ℕ). length l ≤ 2) (leb m 16) (λ t. omega arith) (λ t. omega arith)

pub length-tabled : (bits : ℕ) (es px : List ℕ) → length (tabled bits es px) ≡ 1 + length es + 2 * bits
unfolding tabled
length-tabled bits es px = rw (length-append, length-flag_bytes) (omega arith)

module _ (px : List ℕ) where
  single-some : 1 ≤ length (single px)
  unfolding single tabled
  single-some =
      by-test Some _ (λ t. omega arith) (λ t.
      by-test Some _ (λ t. omega arith) (λ t.
      by-test Some _ (λ t. omega arith) (λ t. omega arith)))
    where
      Some : List ℕ → Type 0
      Some l = 1 ≤ length l

  tabled-most : (bits : ℕ) → length (colours px) ≤ 2 ^ bits → 2 ^ bits + 2 * bits ≤ 16 → length (tabled bits (entries bits (colours px)) px) ≤ 17
  tabled-most bits fits h = rw (length-tabled, length-entries bits (colours px) fits) (omega arith)

  single-most : length px ≡ 16 → length (single px) ≤ 17
  unfolding single
  single-most e =
      by-test Most _ (λ t. tabled-most 1 (leb-true _ _ t) (omega arith)) (λ t.
      by-test Most _ (λ t. tabled-most 2 (leb-true _ _ t) (omega arith)) (λ t.
      by-test Most _ (λ t. tabled-most 3 (leb-true _ _ t) (omega arith)) (λ t. omega arith)))
    where
      Most : List ℕ → Type 0
      Most l = length l ≤ 17

pub opcode-some : (x : Origin) (m : ℕ) → 1 ≤ length (opcode_for x m)
unfolding opcode_for
opcode-some (held k) m = counting-some 0 m
opcode-some (given px) m =
    by-test (λ (l : List ℕ). 1 ≤ length l) (plain px) (λ t. rw length-append (omega arith)) (λ t. single-some px)

pub opcode-most : (x : Origin) → Block x → (m : ℕ) → length (opcode_for x m) ≤ 17
unfolding opcode_for
opcode-most (held k) b m = omega (arith, counting-most 0 m)
opcode-most (given px) b m =
    by-test (λ (l : List ℕ). length l ≤ 17) (plain px) (λ t. rw length-append (omega (arith, counting-most 6 m))) (λ t. single-most px b)

-- what can be written: its first block, and the rest
pub writable-first : {k : ℕ} {x : Origin} {xs : List Origin} → Writable k (x ∷ xs) → Block x
writable-first (keeps w) = tt
writable-first (gives e w) = e

pub writable-rest : {k : ℕ} {x : Origin} {xs : List Origin} → Writable k (x ∷ xs) → Writable (suc k) xs
writable-rest (keeps w) = w
writable-rest (gives e w) = w

-- at most 17 bytes for each block not yet in a run
pub opcodes-most : (xs : List Origin) (j k : ℕ) → Writable k xs → j ≤ length xs → length (opcodes j xs) + 17 * j ≤ 17 * length xs
unfolding opcodes
opcodes-most [] zero k w h = omega arith
opcodes-most [] (suc j) k w h = absurd (omega arith)
opcodes-most (x ∷ xs) (suc j) k w h = let r = opcodes-most xs j (suc k) (writable-rest w) (omega arith) in omega arith
opcodes-most (x ∷ xs) zero k w h =
    let m = alike x (max_run - 1) xs in
    let r = opcodes-most xs m (suc k) (writable-rest w) (alike-room x (max_run - 1) xs) in
    let z = opcode-most x (writable-first w) (suc m) in
    rw length-append (omega arith)

pub length-encode : (os : List Origin) → length (encode os) ≡ 4 + length (opcodes 0 os)
unfolding encode
length-encode os = rw (length-append, length_digits) (omega arith)

pub encode-most : (os : List Origin) → Writable 0 os → length (encode os) ≤ max_length (length os)
encode-most os w = omega (arith, length-encode os, opcodes-most os 0 0 w (omega arith))

-- a list given by a rule can be written where each block can
pub writable-rule : (f : ℕ → Origin) → ((k : ℕ) (os : List Origin) → Writable (suc k) os → Writable k (f k ∷ os)) → (k n : ℕ) → Writable k (map f (from k n))
writable-rule f one k zero = ends
writable-rule f one k (suc n) = one k (map f (from (suc k) n)) (writable-rule f one (suc k) n)

-- a difference has an origin for each block, and can be written
module _ (z : Size) (old new : List ℕ) where
  pub length-differences : length (differences z old new) ≡ blocks z
  unfolding differences
  length-differences = simp (length-map, length_from)

  pub differences-writable : Writable 0 (differences z old new)
  unfolding differences difference
  differences-writable = writable-rule _ one 0 (blocks z)
    where
      one : (k : ℕ) (os : List Origin) → Writable (suc k) os → Writable k (difference (block_at (columns z) old k) (block_at (columns z) new k) k ∷ os)
      one k os w =
          by-test (λ (o : Origin). Writable k (o ∷ os)) (same (block_at (columns z) old k) (block_at (columns z) new k)) (λ t. keeps w)
          (λ t. gives (length-shown (columns z) new (held k)) w)
