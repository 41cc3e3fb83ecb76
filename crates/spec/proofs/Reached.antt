-- The states that a chunk's reading comes to: where they stand, that a chunk alike up to there comes to them too, and that every answer of 5 to
-- 10 tells of one of them, its place and its first block not made. Assumes nothing.
use Prim.Native.Nat.{ℕ, zero, suc, ◌+◌, ◌*◌, ◌<◌, ◌≤◌}
use mathlib.Core.Path.{◌≡◌, refl, ap, subst⁻¹, ◌∙◌}
use mathlib.Core.List.{List}
use mathlib.Core.Bool.{Bool, true, false}
use native.Mathlib.Nat.{le_refl, mul-suc, mul-pos, mul-le-mul_right}
use native.Mathlib.Decide.{dec_lt}
use native.Mathlib.Omega.{arith}
use lib.Dec.{leb}
use lib.ListN.{length, drop}
use borrow.Author.Tests.{leb-true, ltb-false}
use Rattle.spec.specs.declared.Answer.{Answer}
use Rattle.spec.specs.Basics.{if, part}
use Rattle.spec.specs.Answers.{blocks_remain, entry_empty, bytes_follow, answer_at}
use Rattle.spec.specs.Pictures.{Origin}
use Rattle.spec.specs.Chunks.{kind_of, counted, times, once, each, upper_at, count_at, body_at, padding, State, start, Step, stop, go, step}
use Rattle.spec.specs.Chunks.{Outcome, refused, accepted, resume, loop, decode}
use Rattle.spec.proofs.Lists.{by-test}
use Rattle.spec.proofs.Computed.{test_at, at_most}
use Rattle.spec.proofs.Heads.{body-after}
use Rattle.spec.proofs.Made.{length-extend}
use Rattle.spec.proofs.Loops.{unroll, loop-remains, loop-accepts, loop-follows}
use Rattle.spec.proofs.Cutting.{Taken, taken, Alike, step-alike}

-- by turns of the loop, from the start of a chunk that has its first four bytes
pub data Reached (n : ℕ) (s : List ℕ) : State → Type 0 where
  first : 4 ≤ length s → Reached n s start
  next : {st st' : State} → Reached n s st → length st.made < n → st.at < length s → step n s st ≡ go st' → Reached n s st'

-- the most bytes that a block takes: an opcode and sixteen colours
abbrev pub block_bytes : ℕ
block_bytes = 17

-- an opcode has a block for each count at least, and with the bytes for one block it is no longer than that
times-some : (u : ℕ) → u < 15 → 0 < times (kind_of u)
times-some u h = leb-true 1 (times (kind_of u)) (test_at (λ u. leb 1 (times (kind_of u))) 15 refl u h)

-- the bytes up to its body
abbrev lead : ℕ → ℕ
lead u = if (counted u) 2 1

short-one : (u : ℕ) → u < 15 → lead u + once (kind_of u) + each (kind_of u) ≤ block_bytes
unfolding if
short-one u h = at_most (λ u. lead u + once (kind_of u) + each (kind_of u)) block_bytes 15 refl u h

-- for more blocks, no longer than that for each
short-many : (o e m : ℕ) → o + e ≤ block_bytes → 0 < m → o + e * m ≤ block_bytes * m
short-many o e zero h l = absurd (omega arith)
short-many o e (suc m) h l =
    let each = mul-suc e m in
    let all = mul-suc block_bytes m in
    let under : e * m ≤ block_bytes * m = mul-le-mul_right m (omega arith) in
    omega arith

count-some : (s : List ℕ) (at : ℕ) → 0 < count_at s at
unfolding count_at
count-some s at = by-test (λ (c : ℕ). 0 < c) _ (λ t. omega arith) (λ t. omega arith)

body-lead : (s : List ℕ) (at : ℕ) → body_at s at ≡ at + lead (upper_at s at)
unfolding body_at if
body-lead s at = by (counted (upper_at s at))
  where
    by : (wide : Bool) → if wide (at + 2) (at + 1) ≡ at + if wide 2 1
    by true = refl
    by false = refl

-- where a state stands: within the chunk, after its first four bytes, and not far for the blocks made
pub record Within (s : List ℕ) (st : State) : Type 0 where
  pub opcodes : 4 ≤ st.at
  pub inside : st.at ≤ length s
  pub short : st.at ≤ 4 + block_bytes * length st.made

-- a step goes forward, within the chunk, and by no more bytes than its blocks may take
record Advance (s : List ℕ) (st st' : State) : Type 0 where
  further : st.at < st'.at
  inside : st'.at ≤ length s
  short : st'.at + block_bytes * length st.made ≤ st.at + block_bytes * length st'.made

advances : (n : ℕ) (s : List ℕ) (st st' : State) → Taken n s st st' → Advance s st st'
advances n s st st' t =
    let u = upper_at s st.at in
    let m = times (kind_of u) * count_at s st.at in
    let b = body-lead s st.at in
    let l = body-after s st.at in
    let some = mul-pos (times-some u t.fits.known) (count-some s st.at) in
    let short = short-many (lead u + once (kind_of u)) (each (kind_of u)) m (short-one u t.fits.known) some in
    let made = length-extend (kind_of u) (part s (body_at s st.at) (once (kind_of u))) s (body_at s st.at + once (kind_of u)) m st in
    subst⁻¹ (Advance s st) t.next (record {
      further = omega arith;
      inside = t.fits.room;
      short = rw made (omega arith);
    })

module _ (n : ℕ) (s : List ℕ) where
  pub within : {st : State} → Reached n s st → Within s st
  within (first four) = record { opcodes = omega arith; inside = four; short = omega arith }
  within (next {st} {st'} r waiting more e) =
      let w = within r in
      let o = advances n s st st' (taken n s st st' e) in
      let a = w.opcodes in
      let b = o.further in
      let c = w.short in
      let d = o.short in
      record { opcodes = omega arith; inside = o.inside; short = omega arith }

  -- a chunk that is alike up to a state comes to it too
  pub reached-alike : {p : ℕ} {s' : List ℕ} → Alike p s s' → {st : State} → Reached n s st → st.at ≤ p → Reached n s' st
  reached-alike alike (first four) h = let there = alike.there in first (omega arith)
  reached-alike {p} {s'} alike (next {st} {st'} r waiting more e) h =
      let there = alike.there in
      let b = (advances n s st st' (taken n s st st' e)).further in
      next (reached-alike alike r (omega arith)) waiting (omega arith) (step-alike alike n st st' (within r).opcodes e h)

-- and goes on from there
pub loop-reached : (n : ℕ) (s : List ℕ) {st : State} → Reached n s st → loop (length s) n s start ≡ loop (length s) n s st
loop-reached n s (first four) = refl
loop-reached n s (next {st} {st'} r waiting more e) =
    loop-reached n s r
    ∙ unroll n s (length s) st (le_refl (length s)) waiting more
    ∙ ap (resume (λ st''. loop (length s) n s st'') st) e

-- what a chunk's reading comes to: a refusal of another number; or one with place and block of a state before the last block; or acceptance
pub data Comes (n : ℕ) (s : List ℕ) : Outcome → Type 0 where
  early : {a : Answer} → a.number < blocks_remain → Comes n s (refused a)
  late : {a : Answer} → entry_empty < a.number → Comes n s (refused a)
  waits : {e : ℕ} {st : State} → Reached n s st → length st.made < n → Comes n s (refused (answer_at e st.at (length st.made)))
  accepts : {os : List Origin} → Comes n s (accepted os)

module _ (n : ℕ) (s : List ℕ) where
  abbrev From : State → Type 0
  From st = Comes n s (loop (length s) n s st)

  -- an opcode that is refused, or the way on from the next state
  comes-step : {st : State} → Reached n s st → length st.made < n → st.at < length s → ((st' : State) → Reached n s st' → st.at < st'.at → From st')
      → (x : Step) → step n s st ≡ x → Comes n s (resume (λ st'. loop (length s) n s st') st x)
  comes-step r waiting more f (stop e) q = waits r waiting
  comes-step {st} r waiting more f (go st') q = f st' (next r waiting more q) (advances n s st st' (taken n s st st' q)).further

  -- a turn: the opcode, or no byte left (5, where the state has come to the end of the bytes), or no block left
  comes-turn : (st : State) → Reached n s st → ((st' : State) → Reached n s st' → st.at < st'.at → From st') → From st
  comes-turn st r f = by (dec_lt (length st.made) n) (dec_lt st.at (length s)) (padding (drop st.at s)) refl
    where
      by : Dec (length st.made < n) → Dec (st.at < length s) → (b : Bool) → padding (drop st.at s) ≡ b → From st
      by (yes waiting) (yes more) b e =
          rw (unroll n s (length s) st (le_refl (length s)) waiting more) (comes-step r waiting more f (step n s st) refl)
      by (yes waiting) (no over) b e =
          let inside = (within n s r).inside in
          let end : length s ≡ st.at = omega arith in
          rw (loop-remains n s (length s) st waiting (omega arith), end) (waits r waiting)
      by (no full) y true e = rw (loop-accepts n s (length s) st (omega arith) e) accepts
      by (no full) y false e = rw (loop-follows n s (length s) st (omega arith) e) (late {a = answer_at bytes_follow st.at n} (omega arith))

  -- by the bytes left
  comes-left : (left : ℕ) (st : State) → length s ≤ st.at + left → Reached n s st → From st
  comes-left zero st h r = comes-turn st r (λ st' r' l. let inside = (within n s r').inside in absurd (omega arith))
  comes-left (suc left) st h r = comes-turn st r (λ st' r' l. comes-left left st' (omega arith) r')

-- `decode` from its start
pub comes : (n : ℕ) (s : List ℕ) → Comes n s (decode n s)
unfolding decode
comes n s =
    by-test (Comes n s) _ (λ t. early (omega arith)) (λ t.
    by-test (Comes n s) _ (λ t'. early (omega arith)) (λ t'.
    comes-left n s (length s) start (omega arith) (first (ltb-false _ _ t))))
