-- The loop over the chunks of a feed: what may stand at a place, that its fuel never runs out, and what one step of a walk leaves to do.
-- Assumes nothing.
use Prim.Native.Nat.{ℕ, suc, ◌+◌, ◌-◌, ◌<◌, ◌≤◌}
use mathlib.Core.Path.{◌≡◌, refl, sym, subst⁻¹}
use mathlib.Core.List.{List, []}
use mathlib.Core.Bool.{Bool, true, false, true≢false}
use native.Mathlib.Omega.{arith}
use lib.ListN.{length}
use lib.Dec.{ltb}
use borrow.Author.Tests.{ltb-true, ltb-false, le-ltb}
use Rattle.spec.specs.declared.Size.{Size}
use Rattle.spec.specs.Feeds.{Varint}
use Rattle.spec.specs.Feeds.Varint.{Bad, Value}
use Rattle.spec.specs.declared.Step.{Step}
use Rattle.spec.specs.Basics.{if}
use Rattle.spec.specs.Maps.{record_of}
use Rattle.spec.specs.Boards.{Board, left, in_turn}
use Rattle.spec.specs.Feeds as Feeds
use Rattle.spec.specs.Feeds.{varint_at, Ending, Next, chunk, end, chunk_at, next_at, Chunks, and_onward, chunks_from, Reply, reply, read_all, said_first, step_by}
use Rattle.spec.proofs.Fuel.{by-fuel, fuel-end, fuel-enough, fuel-turn}
use Rattle.spec.proofs.Lists.{by-test}
use Rattle.spec.proofs.Varints.{Cut, short, Read, read-varint}

-- chunks end where the bytes do, or with 12 or 13
pub data Ends (s : List ℕ) : Ending → Type 0 where
  whole : Ends s (Feeds.whole (length s))
  cut : {e at : ℕ} → Cut e → Ends s (Feeds.cut e at)

-- a chunk that lies in the feed, behind its number
pub record Lies (s : List ℕ) (at first past : ℕ) : Type 0 where
  pub behind : at < first
  pub up : first ≤ past
  pub within : past ≤ length s

-- what is known of what stands at a place
abbrev pub Stands : List ℕ → ℕ → Next → Type 0
Stands s at (end e) = Ends s e
Stands s at (chunk first past) = Lies s at first past

stands-chunk : (s : List ℕ) (at : ℕ) (x : Varint) → Read s at x → Stands s at (chunk_at s at x)
stands-chunk s at (Bad e) c = cut c
stands-chunk s at (Value v after) g =
    by-test (Stands s at) (ltb (length s) (after + v)) (λ t. cut short) (λ t.
    let fits = ltb-false (length s) (after + v) t in
    record { behind = g.further; up = omega arith; within = omega arith })

pub stands : (s : List ℕ) (at : ℕ) → Stands s at (next_at s at)
unfolding next_at
stands s at = by-test (Stands s at) (ltb at (length s)) (λ t. stands-chunk s at (varint_at s at) (read-varint s at)) (λ t. whole)

same-onward : (f g : ℕ → Chunks) (s : List ℕ) (at : ℕ) (x : Next) → ((p : ℕ) → at < p → f p ≡ g p) → Stands s at x
    → and_onward f s at x ≡ and_onward g s at x
same-onward f g s at (end e) h k = refl
same-onward f g s at (chunk first past) h l = rw (h past (omega arith))

module _ (s : List ℕ) where
  feed_left : ℕ → ℕ
  feed_left at = length s - at

  feed-done : (at : ℕ) → feed_left at ≡ 0 → ltb at (length s) ≡ false
  unfolding feed_left
  feed-done at e = le-ltb at (length s) (omega arith)

  feed-less : (f g : ℕ → Chunks) (at : ℕ) → ltb at (length s) ≡ true → ((p : ℕ) → feed_left p < feed_left at → f p ≡ g p)
      → and_onward f s at (next_at s at) ≡ and_onward g s at (next_at s at)
  unfolding feed_left
  feed-less f g at t h =
      let l = ltb-true at (length s) t in
      same-onward f g s at (next_at s at) (λ p o. h p (omega arith)) (stands s at)

  pub chunks-enough : (fuel at : ℕ) → length s ≤ at + fuel → chunks_from (suc fuel) s at ≡ chunks_from fuel s at
  unfolding chunks_from feed_left
  chunks-enough fuel at h = fuel-enough _ _ _ feed_left feed-done feed-less fuel at (omega arith)

  -- the loop's equation, with the fuel that `feed_of` gives it, or more
  module _ (fuel : ℕ) (enough : length s ≤ fuel) where
    unroll-turn : (at : ℕ) → ltb at (length s) ≡ true → chunks_from fuel s at ≡ and_onward (λ p. chunks_from fuel s p) s at (next_at s at)
    unfolding chunks_from feed_left
    unroll-turn at t = fuel-turn _ _ _ feed_left feed-done feed-less fuel at (omega arith) t

    unroll-end : (at : ℕ) → ltb at (length s) ≡ false → chunks_from fuel s at ≡ and_onward (λ p. chunks_from fuel s p) s at (next_at s at)
    unfolding chunks_from next_at if
    unroll-end at t = rw t (fuel-end _ _ _ fuel at t)

    pub unroll-chunks : (at : ℕ) → chunks_from fuel s at ≡ and_onward (λ p. chunks_from fuel s p) s at (next_at s at)
    unroll-chunks at = by (ltb at (length s)) refl
      where
        by : (t : Bool) → ltb at (length s) ≡ t → chunks_from fuel s at ≡ and_onward (λ p. chunks_from fuel s p) s at (next_at s at)
        by true e = unroll-turn at e
        by false e = unroll-end at e

ends-onward : (onward : ℕ → Chunks) (s : List ℕ) (at : ℕ) (x : Next) → ((p : ℕ) → Ends s (onward p).ending) → Stands s at x
    → Ends s (and_onward onward s at x).ending
ends-onward onward s at (end e) h k = k
ends-onward onward s at (chunk first past) h l = h past

pub ends-chunks : (fuel : ℕ) (s : List ℕ) (at : ℕ) → Ends s (chunks_from fuel s at).ending
unfolding chunks_from
ends-chunks fuel s at =
    by-fuel _ _ _ (λ (at : ℕ). Unit {0}) (λ (cs : Chunks). Ends s cs.ending)
    (λ onward at t u h. ends-onward onward s at (next_at s at) (λ p. h p tt) (stands s at)) (λ at u. whole) fuel at tt

-- What one step behind 1 and 2, over the board b, leaves to do of the chunks `cs`: those after it over the board that it left; or nothing
pub record Onward (z : Size) (s : List ℕ) (fuel at : ℕ) (cs : Chunks) (b : Board) (st : Step) (after : Board) : Type 0 where
  pub further : at < st.next
  pub within : st.next ≤ length s
  pub walked : read_all z cs b ≡ said_first st.answer (read_all z (chunks_from fuel s st.next) after)

pub record Over (z : Size) (cs : Chunks) (b : Board) (st : Step) (after : Board) : Type 0 where
  pub walked : read_all z cs b ≡ left (reply [] st.answer) after
  pub same : after ≡ b

module _ (z : Size) (s : List ℕ) (fuel : ℕ) where
  -- the record that was handed back is the board's
  pub record Stepped (at : ℕ) (cs : Chunks) (b : Board) (st : Step) (after : Board) : Type 0 where
    pub kept : st.kept ≡ record_of z after.kept
    pub onward : st.chunk ≡ true → Onward z s fuel at cs b st after
    pub over : st.chunk ≡ false → Over z cs b st after

  stepped_by : (at : ℕ) (b : Board) (x : Next) → Stands s at x
      → Stepped at (and_onward (λ p. chunks_from fuel s p) s at x) b (step_by z s at x b).said (step_by z s at x b).board
  unfolding in_turn
  stepped_by at b (end e) h = record { kept = refl; onward = λ t. absurd (true≢false (sym t)); over = λ t. record { walked = refl; same = refl } }
  stepped_by at b (chunk first past) l =
      record {
        kept = refl;
        onward = λ t. record { further = omega arith; within = l.within; walked = refl };
        over = λ t. absurd (true≢false t);
      }

  pub stepped : length s ≤ fuel → (at : ℕ) (b : Board)
      → Stepped at (chunks_from fuel s at) b (step_by z s at (next_at s at) b).said (step_by z s at (next_at s at) b).board
  stepped h at b =
      let st = step_by z s at (next_at s at) b in
      subst⁻¹ (λ (cs : Chunks). Stepped at cs b st.said st.board) (unroll-chunks s fuel h at) (stepped_by at b (next_at s at) (stands s at))
