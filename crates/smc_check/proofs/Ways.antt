-- Each way out of the check of one opcode, over the numbers that the code holds. Assumes nothing.
use Prim.Native.Nat.{ℕ, zero, suc, ◌+◌, ◌*◌, ◌%◌, ◌<◌, ◌≤◌}
use mathlib.Core.Path.{◌≡◌, refl, sym, ◌∙◌}
use mathlib.Core.List.{List}
use mathlib.Core.Bool.{true, false}
use Rattle.std.specs.Prelude.{Ok, Err}
use native.Mathlib.Nat.{mul-le-mul}
use native.Mathlib.Decide.{dec_lt}
use native.Mathlib.Omega.{arith}
use lib.ListN.{length, get_or}
use Rattle.spec.specs.Answers.{opcode_cut, opcode_unknown, none_before, past_last_block, entry_empty}
use Rattle.spec.specs.Chunks.{Head, kind_of, times, reach, once, each, missing, body, upper_at, body_at, opcode}
use Rattle.spec.proofs.Heads.{
  body-none-before,
  body-past,
  body-cut-once,
  body-empty,
  body-cut,
  body-runs,
  opcode-unknown,
  opcode-cut,
  opcode-body,
}
use Rattle.spec.specs.declared.Refusal.{Refusal}
use Rattle.spec.specs.Answers.{refusal_number}
use Rattle.smc_check.specs.declared.here.Run.{Run}
use Rattle.smc_check.specs.declared.heads.Lead.{Lead}
use Rattle.smc_check.specs.Heads.{Leads}
use Rattle.smc_check.specs.Tables.{span_of}
use Rattle.smc_check.specs.Checking.{Stands, Ends, Found, bad, runs}
use Rattle.smc_check.proofs.Counting.{span-end, unknown-span, times-small, times-some, count_small, count-some}

-- an opcode whose bytes all stand in the chunk has its count there, and its bytes that come once
module _ {s : List ℕ} {at span : ℕ} (g : Stands s at span) (byte : get_or s at 0 < 256) where
  pub stands-room : at + span_of (get_or s at 0) ≤ length s
  stands-room = rw (← g.is) g.room

  pub stands-body : body_at s at ≤ length s
  stands-body = omega (arith, span-end s at byte, stands-room)

  pub stands-once : {l : Lead} → Leads s at l → l.body + once (kind_of l.upper) ≤ length s
  stands-once el = rw (el.upper, el.body) (omega (arith, span-end s at byte, stands-room))

-- F takes no byte after its own, so that the bytes cannot end inside it
pub ends-known : {s : List ℕ} {at : ℕ} → Ends s at → get_or s at 0 < 256 → upper_at s at < 15
ends-known {s} {at} g byte = by (dec_lt (upper_at s at) 15)
  where
    by : Dec (upper_at s at < 15) → upper_at s at < 15
    by (yes k) = k
    by (no k) = absurd (omega (arith, unknown-span s at byte (omega arith), g.start, g.short))

-- the lead's numbers are small
module _ {s : List ℕ} {at : ℕ} {l : Lead} (el : Leads s at l) where
  pub upper-small : get_or s at 0 < 256 → l.upper < 16
  upper-small h = rw el.upper (omega arith)

  pub blocks-small : get_or s at 0 < 256 → get_or s (at + 1) 0 < 256 → {t : ℕ} → t ≡ times (kind_of l.upper) → t * l.count ≤ 2 * 256
  blocks-small h g {t} et = mul-le-mul {n₂ = 2} {m₂ = 256} (rw et (times-small l.upper (upper-small h))) (rw el.count (count_small s at g))

-- an opcode makes some blocks, pairs of them where it copies from two before
times-even : (t count : ℕ) → 1 ≤ t → t ≤ 2 → 1 ≤ count → (1 ≤ t * count) × ((t * count) % t ≡ 0)
times-even zero count a b c = absurd (omega (arith, a))
times-even (suc zero) count a b c = (omega (arith, c), omega arith)
times-even (suc (suc zero)) count a b c = (omega (arith, c), omega arith)
times-even (suc (suc (suc t))) count a b c = absurd (omega (arith, b))

pub blocks-even : {s : List ℕ} {at : ℕ} {l : Lead} (el : Leads s at l) → l.upper < 16 → (t : ℕ) → t ≡ times (kind_of l.upper)
    → (1 ≤ t * l.count) × ((t * l.count) % times (kind_of l.upper) ≡ 0)
blocks-even {s} {at} {l} el h t et =
    let some : 1 ≤ l.count = rw el.count (count-some s at) in
    rw et (times-even (times (kind_of l.upper)) l.count (times-some l.upper h) (times-small l.upper h) some)

module _ (n : ℕ) (s : List ℕ) (at k : ℕ) (filled : List ℕ) where
  pub way_unknown : 15 ≤ upper_at s at → opcode n s at k filled ≡ Head.bad opcode_unknown
  way_unknown h = opcode-unknown n s at k filled h

  pub way-cut-count : upper_at s at < 15 → length s < body_at s at → opcode n s at k filled ≡ Head.bad opcode_cut
  way-cut-count l h = opcode-cut n s at k filled l h

  -- l is the lead, and r', t and o the numbers for `reach`, `times` and `once`
  module _ (l : Lead) (el : Leads s at l) (known : l.upper < 15) (count : l.body ≤ length s) (r' : ℕ) (er : r' ≡ reach (kind_of l.upper)) where
    is_body : opcode n s at k filled ≡ body n s k filled l.upper l.count l.body
    is_body = rw (el.upper, el.count, el.body) (opcode-body n s at k filled (rw el.upper at known) (rw el.body at count))

    pub way-none-before : k < r' → opcode n s at k filled ≡ Head.bad none_before
    way-none-before h = is_body ∙ body-none-before n s k filled l.upper l.count l.body r' er h

    module _ (a : r' ≤ k) (t : ℕ) (et : t ≡ times (kind_of l.upper)) where
      pub way-past : n < k + t * l.count → opcode n s at k filled ≡ Head.bad past_last_block
      way-past h = is_body ∙ body-past n s k filled l.upper l.count l.body r' er a t et h

      module _ (b : k + t * l.count ≤ n) where
        pub way-cut-once : length s < l.body + once (kind_of l.upper) → opcode n s at k filled ≡ Head.bad opcode_cut
        way-cut-once h = is_body ∙ body-cut-once n s k filled l.upper l.count l.body r' er a t et b _ refl h

        module _ (d : l.body + once (kind_of l.upper) ≤ length s) where
          pub way-empty : missing filled (kind_of l.upper) (get_or s l.body 0) ≡ true → opcode n s at k filled ≡ Head.bad entry_empty
          way-empty h = is_body ∙ body-empty n s k filled l.upper l.count l.body r' er a t et b _ refl d h

          module _ (z : missing filled (kind_of l.upper) (get_or s l.body 0) ≡ false) (byte : get_or s at 0 < 256) where
            end : l.body + once (kind_of l.upper) + each (kind_of l.upper) * (t * l.count) ≡ at + span_of (get_or s at 0)
            end = rw (et, el.upper, el.count, el.body) (span-end s at byte)

            pub way-cut : length s < at + span_of (get_or s at 0) → opcode n s at k filled ≡ Head.bad opcode_cut
            way-cut h = is_body ∙ body-cut n s k filled l.upper l.count l.body r' er a t et b _ refl d z _ refl (rw end h)

            pub way-runs : at + span_of (get_or s at 0) ≤ length s
                → (r : Run) → r.upper ≡ l.upper → r.first ≡ k → r.blocks ≡ t * l.count → r.next ≡ at + span_of (get_or s at 0)
                → Found s at k (Ok r) (opcode n s at k filled)
            way-runs h r eu ek em en =
                let q : r.next ≡ body_at s at + once (kind_of r.upper) + each (kind_of r.upper) * r.blocks = rw (eu, em, ← el.body) (en ∙ sym end) in
                rw (is_body ∙ body-runs n s k filled l.upper l.count l.body r' er a t et b _ refl d z _ refl (rw end h), el.body, ← eu, ← em) (runs ek q)

-- why one is refused
pub found-bad : (n : ℕ) (s : List ℕ) (at k : ℕ) (filled : List ℕ) (why : Refusal) → opcode n s at k filled ≡ Head.bad (refusal_number why)
    → Found s at k (Err why) (opcode n s at k filled)
found-bad n s at k filled why e = rw e bad
