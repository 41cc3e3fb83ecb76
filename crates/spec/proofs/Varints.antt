-- A house number that is read: refused with 12 or 13, or a value within the limit, and a place further on in the feed; and the two size numbers.
-- Assumes nothing.
use Prim.Native.Nat.{ℕ, zero, suc, ◌+◌, ◌*◌, ◌<◌, ◌≤◌}
use mathlib.Core.Path.{◌≡◌, refl, sym, ap, subst, ◌∙◌}
use mathlib.Core.Logic.{◌≢◌}
use mathlib.Core.List.{List}
use native.Mathlib.Omega.{arith}
use lib.Dec.{leb}
use lib.ListN.{length, get_or}
use borrow.Author.Tests.{ltb-false, leb-false}
use Rattle.std.specs.Prelude.{Result, Ok, Err}
use Rattle.spec.specs.declared.Refusal.{Refusal}
use Rattle.spec.specs.declared.Varint as Code
use Rattle.spec.specs.Feeds.{Varint}
use Rattle.spec.specs.Feeds.Varint.{Bad, Value}
use Rattle.spec.specs.Answers.{ok, bad_varint, feed_cut}
use Rattle.spec.specs.Feeds.{max_number, groups, varint_at, varint_says, varint_result, SizeNumbers, failing, both, with_lines, with_columns, size_numbers}
use Rattle.spec.proofs.Lists.{by-test}
use Rattle.spec.proofs.Refusals.{refusal-same}

-- numbers that say the same are the same
pub varint-same : (x y : Varint) → varint_says x ≡ varint_says y → x ≡ y
varint-same (Bad e) (Bad f) h = ap (λ (l : List ℕ). Bad (get_or l 0 0)) h
varint-same (Bad e) (Value v p) h = absurd (omega (arith, ap length h))
varint-same (Value v p) (Bad e) h = absurd (omega (arith, ap length h))
varint-same (Value v p) (Value w q) h = ap (λ (l : List ℕ). Value (get_or l 1 0) (get_or l 2 0)) h

-- and so are those of the code
pub varint-result-same : (x y : Result Code.Varint Refusal) → varint_result x ≡ varint_result y → x ≡ y
varint-result-same (Err why) (Err other) h = ap (λ (w : Refusal). Err w) (refusal-same why other (ap (λ (l : List ℕ). get_or l 0 0) h))
varint-result-same (Err why) (Ok y) h = absurd (omega (arith, ap length h))
varint-result-same (Ok x) (Err why) h = absurd (omega (arith, ap length h))
varint-result-same (Ok x) (Ok y) h =
    ap (λ (l : List ℕ). Ok (record { value = get_or l 1 0; after = get_or l 2 0 })) h

-- what a reading at a place has found, by what it says
pub found_number : (s : List ℕ) (at : ℕ) {x y : Varint} → varint_says x ≡ varint_says (varint_at s at) → x ≡ y → varint_at s at ≡ y
found_number s at {x} says e = sym (varint-same x (varint_at s at) says) ∙ e

pub data Cut : ℕ → Type 0 where
  badly : Cut bad_varint
  short : Cut feed_cut

pub cut-refused : {e : ℕ} → Cut e → e ≢ ok
cut-refused badly h = omega (arith, h)
cut-refused short h = omega (arith, h)

pub record Got (s : List ℕ) (at v after : ℕ) : Type 0 where
  pub further : at < after
  pub within : after ≤ length s
  pub small : v ≤ max_number

-- what is known of a number that is read
abbrev pub Read : List ℕ → ℕ → Varint → Type 0
Read s at (Bad e) = Cut e
Read s at (Value v after) = Got s at v after

read-groups : (more scale sum : ℕ) (s : List ℕ) (was at : ℕ) → was ≤ at → Read s was (groups more scale sum s at)
unfolding groups
read-groups zero scale sum s was at l = badly
read-groups (suc more) scale sum s was at l =
    by-test (Read s was) (leb (length s) at) (λ t. short) (λ t.
    by-test (Read s was) _ (λ u. read-groups more _ _ s was (at + 1) (omega arith)) (λ u.
    by-test (Read s was) _ (λ v. badly) (λ v.
    by-test (Read s was) _ (λ w. badly) (λ w.
    let fits = leb-false (length s) at t in
    record { further = omega arith; within = omega arith; small = ltb-false max_number (sum + get_or s at 0 * scale) w }))))

pub read-varint : (s : List ℕ) (at : ℕ) → Read s at (varint_at s at)
unfolding varint_at
read-varint s at = read-groups 4 1 0 s at at (omega arith)

-- of a value that code was given
pub varint-got : (s : List ℕ) (at : ℕ) {v after : ℕ} → varint_at s at ≡ Value v after → Got s at v after
varint-got s at e = subst (Read s at) e (read-varint s at)

-- size numbers fail with 12 or 13, at block 0, or end within the feed
abbrev pub Numbered : List ℕ → SizeNumbers → Type 0
Numbered s (failing a) = Cut a.number × (a.block ≡ 0)
Numbered s (both z p) = p ≤ length s

numbered-lines : (s : List ℕ) (c at : ℕ) (x : Varint) → Read s at x → Numbered s (with_lines c at x)
numbered-lines s c at (Bad e) r = (r, refl)
numbered-lines s c at (Value v p) r = r.within

numbered-columns : (s : List ℕ) (x : Varint) → Read s 0 x → Numbered s (with_columns s x)
numbered-columns s (Bad e) r = (r, refl)
numbered-columns s (Value v p) r = numbered-lines s v p (varint_at s p) (read-varint s p)

pub numbered : (s : List ℕ) {x : SizeNumbers} → size_numbers s ≡ x → Numbered s x
unfolding size_numbers
numbered s e = subst (Numbered s) e (numbered-columns s (varint_at s 0) (read-varint s 0))
