-- The whole chunk: its first four bytes over its opcodes, and the ways out of a write. Assumes nothing.
use Prim.Native.Nat.{ℕ, ◌+◌, ◌-◌, ◌*◌, ◌<◌, ◌≤◌}
use mathlib.Core.Path.{◌≡◌, sym, ap, ◌∙◌}
use mathlib.Core.Bool.{Bool, true, ◌&&◌}
use mathlib.Core.List.{List, [], ◌∷◌, ◌++◌}
use native.Mathlib.Nat.{div-one}
use native.Mathlib.Omega.{arith}
use lib.Dec.{eqb}
use lib.ListN.{length, set, take, drop}
use Rattle.std.proofs.Common.{w32}
use Rattle.std.specs.Int.{to_be_bytes}
use borrow.Rule.Slice.PartMut.{put_mid}
use borrow.Author.Tests.{lt-ltb, le-ltb}
use Rattle.spec.specs.declared.Size.{Size}
use Rattle.spec.specs.declared.Refusal.{Refusal}
use Rattle.spec.specs.Basics.{if}
use Rattle.spec.specs.Answers.{ok, output_short, answer_at, answer, refusal_number}
use Rattle.spec.specs.Sizes.{allowed, pixels, columns, lines, fault}
use Rattle.spec.specs.Pictures.{Origin}
use Rattle.spec.specs.Flags.{digits}
use Rattle.spec.specs.Writing.{opcodes, encode, max_length, onto, wrote, emit, differences, write}
use Rattle.spec.proofs.Lists.{checked-none, checked_refused}
use Rattle.spec.proofs.Refusals.{refused-not-ok}
use Rattle.spec.proofs.Limits.{no-fault-lengths, area as area-pixels}
use Rattle.spec.proofs.Written.{length-encode}
use Rattle.blocks.specs.declared.Grid.{Grid}
use Rattle.blocks.specs.Blocks.{area}
use Rattle.smc_writer.specs.declared.changes.Changes.{Changes}
use Rattle.smc_writer.specs.Changes.{blocks_of, origins_of}
use Rattle.smc_writer.specs.Kept.{origins, Flagged}
use Rattle.smc_writer.specs.Put.{over}
use Rattle.smc_writer.proofs.Placing.{lent, length-lent}
use Rattle.smc_writer.proofs.Flagging.{origins-differ}
use Rattle.smc_writer.proofs.Progress.{opcodes-few}

-- a first byte and three more in front of what was written behind them
head-put : (v : ℕ) {bs : List ℕ} (ops o : List ℕ) {x y z : ℕ} → bs ≡ x ∷ y ∷ z ∷ [] → 4 ≤ length o
    → put_mid 1 3 (set (over 4 ops o) 0 v) bs ≡ onto (v ∷ bs ++ ops) o
unfolding over
head-put v ops [] e h = absurd (omega arith)
head-put v ops (a ∷ []) e h = absurd (omega arith)
head-put v ops (a ∷ b ∷ []) e h = absurd (omega arith)
head-put v ops (a ∷ b ∷ c ∷ []) e h = absurd (omega arith)
head-put v ops (a ∷ b ∷ c ∷ d ∷ o) e h = rw e

three-bytes : (x : ℕ) → drop 1 (to_be_bytes w32 x) ≡ digits 8 3 x
unfolding digits
three-bytes x = rw div-one

-- where there is room for the chunk: four bytes, and behind them its opcodes
module _ (os : List Origin) (o : List ℕ) (room : 4 + length (opcodes 0 os) ≤ length o) where
  pub opcodes-fit : length (opcodes 0 os) ≤ length (take (length o - 4) (drop 4 o))
  opcodes-fit = rw (length-lent o 4 (omega arith)) (omega arith)

  pub chunk-put : {mid : List ℕ} → mid ≡ onto (opcodes 0 os) (take (length o - 4) (drop 4 o)) → {n : ℕ} → n ≡ length (opcodes 0 os)
      → {bs : List ℕ} → bs ≡ drop 1 (to_be_bytes w32 (4 + n)) → put_mid 1 3 (set (put_mid 4 (length o - 4) o mid) 0 0xE1) bs ≡ onto (encode os) o
  unfolding encode
  chunk-put {mid} em {n} en {bs} eb =
      ap (λ (l : List ℕ). put_mid 1 3 (set l 0 0xE1) bs) (lent o 4 (omega arith) (opcodes 0 os) mid em)
      ∙ head-put 0xE1 (opcodes 0 os) o eb (omega arith)
      ∙ ap (λ (l : List ℕ). onto (0xE1 ∷ l ++ opcodes 0 os) o) (eb ∙ three-bytes (4 + n) ∙ ap (λ (i : ℕ). digits 8 3 (4 + i)) en)

-- how long it can be
pub origins-most : (s : Changes) → length (encode (origins_of s)) ≤ max_length (blocks_of s)
origins-most s = omega (arith, length-encode (origins_of s), opcodes-few s.grid.columns (blocks_of s) s.kept.now s.new.now)

-- 14, or the chunk
module _ (n : ℕ) (bytes o : List ℕ) where
  pub emit-short : length o < length bytes → emit n bytes o ≡ wrote (answer output_short 0) o
  unfolding emit if
  emit-short h = rw (lt-ltb (length o) (length bytes) h)

  pub emit-fits : length bytes ≤ length o → (used : ℕ) → used ≡ length bytes → (l : List ℕ) → l ≡ onto bytes o → wrote (answer_at ok used n) l ≡ emit n bytes o
  unfolding emit if
  emit-fits h used eu l el = rw (le-ltb (length o) (length bytes) h, eu, el)

-- 1 and 2; or what is emitted
module _ (z : Size) (old new o : List ℕ) where
  abbrev fault_of : ℕ
  fault_of = fault z (eqb (length old) (pixels z) && eqb (length new) (pixels z))

  pub write-refused : (why : Refusal) → refusal_number why ≡ fault_of → write z old new o ≡ wrote (answer (refusal_number why) 0) o
  unfolding write
  write-refused why q =
      checked_refused _ _ _ (λ w. refused-not-ok why (q ∙ w)) ∙ ap (λ (n : ℕ). wrote (answer n 0) o) (sym q)

  module _ (q : ok ≡ fault_of) where
    sound : (allowed z ≡ true) × ((length old ≡ pixels z) × (length new ≡ pixels z))
    sound = no-fault-lengths z (length old) (length new) (pixels z) (pixels z) (sym q)

    pub size-allowed : allowed z ≡ true
    size-allowed = sound.0

    module _ (g : Grid) (ec : g.columns ≡ columns z) (el : g.lines ≡ lines z) where
      pub old-exact : length old ≡ area g.columns g.lines
      old-exact = rw (ec, el) (sound.1.0 ∙ sym (area-pixels z size-allowed))

      pub new-exact : length new ≡ area g.columns g.lines
      new-exact = rw (ec, el) (sound.1.1 ∙ sym (area-pixels z size-allowed))

      pub write-emits : (kept : List Bool) → Flagged g.columns (g.columns * g.lines) old new kept
          → emit (g.columns * g.lines) (encode (origins g.columns (g.columns * g.lines) kept new)) o ≡ write z old new o
      unfolding write differences
      write-emits kept f =
          rw (origins-differ g.columns (g.columns * g.lines) kept new old f, ec, el) (sym (checked-none _ _ _ (sym q)))
