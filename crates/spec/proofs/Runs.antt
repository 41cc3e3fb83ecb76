-- From a place on, a feed is a run by itself: the same chunks and the same end, with places that count from there. Assumes nothing.
use Prim.Native.Nat.{ℕ, zero, suc, ◌+◌, ◌-◌, ◌≤◌}
use mathlib.Core.Path.{◌≡◌, refl, sym, ap, ◌∙◌}
use mathlib.Core.List.{List, map}
use native.Mathlib.Nat.{add-zero, zero-add, suc-add, add-suc, add_assoc}
use native.Mathlib.Omega.{arith}
use lib.Dec.{leb, ltb, leb-suc-suc}
use lib.ListN.{length, get_or, take, drop, length-drop}
use lib.Seq.{get_or-drop, drop-drop}
use Rattle.spec.specs.Feeds.{Varint}
use Rattle.spec.specs.Feeds.Varint.{Bad, Value}
use Rattle.spec.specs.Basics.{fuelled, part}
use Rattle.spec.specs.Feeds.{groups, varint_at, Ending, whole, cut, Next, chunk, end, chunk_at, next_at, Placed, Chunks, no_more, and_onward}
use Rattle.spec.specs.Feeds.{chunks_from, chunks_of}
use Rattle.spec.proofs.Lists.{if-along}
use Rattle.spec.proofs.Feeds.{chunks-enough}

-- an ending, a number, what stands somewhere, a chunk, and all of them, with every place p further on
abbrev pub later : ℕ → Ending → Ending
later p (whole at) = whole (p + at)
later p (cut e at) = cut e (p + at)

abbrev later_number : ℕ → Varint → Varint
later_number p (Bad e) = Bad e
later_number p (Value v after) = Value v (p + after)

abbrev later_next : ℕ → Next → Next
later_next p (end e) = end (later p e)
later_next p (chunk first past) = chunk (p + first) (p + past)

abbrev later_placed : ℕ → Placed → Placed
later_placed p c = record { number_at = p + c.number_at; first = p + c.first; past = p + c.past; bytes = c.bytes }

abbrev pub later_chunks : ℕ → Chunks → Chunks
later_chunks p cs = record { list = map (later_placed p) cs.list; ending = later p cs.ending }

leb-add : (p a b : ℕ) → leb (p + a) (p + b) ≡ leb a b
leb-add zero a b = rw (zero-add a, zero-add b)
leb-add (suc p) a b = rw (suc-add p a, suc-add p b) (leb-suc-suc (p + a) (p + b) ∙ leb-add p a b)

module _ (s : List ℕ) (p : ℕ) (within : p ≤ length s) where
  run : List ℕ
  run = drop p s

  lengths : length s ≡ p + length run
  unfolding run
  lengths = rw length-drop (omega arith)

  byte-later : (at : ℕ) → get_or s (p + at) 0 ≡ get_or run at 0
  unfolding run
  byte-later at = sym (get_or-drop p s at 0)

  ends-later : (at : ℕ) → leb (length s) (p + at) ≡ leb (length run) at
  ends-later at = rw lengths (leb-add p (length run) at)

  more-later : (at : ℕ) → ltb (p + at) (length s) ≡ ltb at (length run)
  more-later at = rw (lengths, ← add-suc p at) (leb-add p (suc at) (length run))

  short-later : (at : ℕ) → ltb (length s) (p + at) ≡ ltb (length run) at
  short-later at = rw (lengths, ← add-suc p (length run)) (leb-add p (suc (length run)) at)

  part-later : (at n : ℕ) → part s (p + at) n ≡ part run at n
  unfolding run
  part-later at n = ap (take n) (sym (drop-drop at p s))

  groups-later : (more scale sum at : ℕ) → groups more scale sum s (p + at) ≡ later_number p (groups more scale sum run at)
  unfolding groups
  groups-later zero scale sum at = refl
  groups-later (suc more) scale sum at =
      rw (byte-later at, ends-later at, add_assoc p at 1)
      (if-along (later_number p) _ refl (if-along (later_number p) _ (groups-later more _ _ (at + 1))
      (if-along (later_number p) _ refl (if-along (later_number p) _ refl refl))))

  number-later : (at : ℕ) → varint_at s (p + at) ≡ later_number p (varint_at run at)
  unfolding varint_at
  number-later at = groups-later 4 1 0 at

  chunk-later : (at : ℕ) (x : Varint) → chunk_at s (p + at) (later_number p x) ≡ later_next p (chunk_at run at x)
  chunk-later at (Bad e) = refl
  chunk-later at (Value n after) = rw (add_assoc p after n, short-later (after + n)) (if-along (later_next p) _ refl refl)

  next-later : (at : ℕ) → next_at s (p + at) ≡ later_next p (next_at run at)
  unfolding next_at
  next-later at = rw (more-later at, number-later at) (if-along (later_next p) _ (chunk-later at (varint_at run at)) (ap (λ n. end (whole n)) lengths))

  onward-later : (f g : ℕ → Chunks) (at : ℕ) (x : Next) → ((q : ℕ) → f (p + q) ≡ later_chunks p (g q))
      → and_onward f s (p + at) (later_next p x) ≡ later_chunks p (and_onward g run at x)
  onward-later f g at (end e) h = refl
  onward-later f g at (chunk first past) h =
      let n : (p + past) - (p + first) ≡ past - first = omega arith in
      rw (h past, n, part-later first (past - first))

  -- with any fuel, the same on both sides
  chunks-later : (fuel at : ℕ) → chunks_from fuel s (p + at) ≡ later_chunks p (chunks_from fuel run at)
  unfolding chunks_from fuelled
  chunks-later zero at = ap (λ n. no_more (whole n)) lengths
  chunks-later (suc fuel) at =
      rw (more-later at, next-later at)
      (if-along (later_chunks p) _ (onward-later _ _ at (next_at run at) (chunks-later fuel)) (ap (λ n. no_more (whole n)) lengths))

  -- the run has fuel enough for itself
  fuel-more : (k : ℕ) → chunks_from (k + length run) run 0 ≡ chunks_of run
  fuel-more zero = rw zero-add
  fuel-more (suc k) = rw (suc-add k (length run)) (chunks-enough run (k + length run) 0 (omega arith) ∙ fuel-more k)

  pub chunks-behind : chunks_from (length s) s p ≡ later_chunks p (chunks_of (drop p s))
  unfolding run
  chunks-behind =
      let later-start = rw (add-zero p) at (chunks-later (length s) 0) in
      later-start ∙ ap (later_chunks p) (ap (λ n. chunks_from n run 0) lengths ∙ fuel-more p)
