-- The block in every answer, by where the answer comes from: 1 and 2, a chunk, the end of a walk, a write. Assumes nothing.
use Prim.Native.Nat.{ℕ}
use mathlib.Core.Path.{◌≡◌, refl, subst⁻¹}
use mathlib.Core.Logic.{◌≢◌}
use mathlib.Core.List.{List, [], ◌∷◌, map}
use mathlib.Core.Bool.{Bool, ◌&&◌}
use native.Mathlib.Omega.{arith}
use lib.ListN.{length}
use Rattle.spec.specs.declared.Answer.{Answer}
use Rattle.spec.specs.declared.Size.{Size}
use Rattle.spec.specs.declared.Step.{Step}
use Rattle.spec.specs.Basics.{Every, none, also}
use Rattle.spec.specs.Answers.{ok, bad_size, bad_length, bad_varint, feed_cut, answer_at, answer, Stopped, done, before, beyond}
use Rattle.spec.specs.Sizes.{blocks, same_size, fault}
use Rattle.spec.specs.Chunks.{Outcome, refused, accepted, decode, verdict}
use Rattle.spec.specs.Boards.{Board, Left, exact, recounted, read, in_turn}
use Rattle.spec.specs.Writing.{Wrote, emit, write}
use Rattle.spec.specs.Feeds.{Ending, ended, Next, chunk, end, next_at, between, SizeNumbers, failing, both, size_numbers, with_chunks, feed_of, chunks_from}
use Rattle.spec.specs.Feeds.{Reply, walk_behind, walk_feed, walk, walk_run, step_by, walk_step}
use Rattle.spec.proofs.Lists.{by-test, by_number}
use Rattle.spec.proofs.Limits.{allowed-size, by-fault, no-fault-both}
use Rattle.spec.proofs.Varints.{Cut, badly, short, numbered}
use Rattle.spec.proofs.Refused.{stopped}
use Rattle.spec.proofs.Feeds.{Ends, whole, cut, Stands, stands, ends-chunks}
use Rattle.trust.specs.Stops.{AllStopped, Stops}

-- 1 and 2
stopped-fault : (n : ℕ) (z : Size) (t : Bool) → fault z t ≢ ok → Stopped n (answer (fault z t) 0)
stopped-fault n z t h =
    by-fault (λ e. Stopped n (answer e 0)) z t h
    (before {number = bad_size} (omega arith) (omega arith)) (before {number = bad_length} (omega arith) (omega arith))

-- 12 and 13
stopped-cut : {n e p : ℕ} → Cut e → Stopped n (answer e p)
stopped-cut badly = beyond {number = bad_varint} (omega arith)
stopped-cut short = beyond {number = feed_cut} (omega arith)

-- 21 has block 0
stopped-recounted : (n : ℕ) (s : List ℕ) (b : Board) (o : Outcome) → Stopped n (verdict s o) → Stopped n (verdict s (recounted n b o))
stopped-recounted n s b (refused a) h = h
stopped-recounted n s b (accepted os) h = by-test (λ (o : Outcome). Stopped n (verdict s o)) _ (λ t. beyond (omega arith)) (λ t. h)

stops-reading : (z : Size) (s : List ℕ) (b : Board) → Stopped (blocks z) (read z s b).said
unfolding read
stops-reading z s b =
    by_number (λ (l : Left Answer). Stopped (blocks z) l.said) (fault z (exact z b)) _
    (stopped-fault (blocks z) z (exact z b))
    (λ fine.
    stopped-recounted (blocks z) s b (decode (blocks z) s) (stopped (blocks z) (allowed-size z (no-fault-both z (exact z b) fine).0).some s))

stops-readings : (z : Size) (ss : List (List ℕ)) (b : Board) → Every (Stopped (blocks z)) (in_turn (read z) ss b).said
unfolding in_turn
stops-readings z [] b = none
stops-readings z (s ∷ ss) b = also (stops-reading z s b) (stops-readings z ss (read z s b).board)

-- the end of a walk
stops-ended : (n : ℕ) (s : List ℕ) {e : Ending} → Ends s e → Stopped n (ended n e)
stops-ended n s whole = done
stops-ended n s (cut c) = stopped-cut c

-- the chunks of s from a place on, behind 1 and 2
stops-chunks : (e : ℕ) (z : Size) (s : List ℕ) (at : ℕ) (b : Board) → (e ≢ ok → Stopped (blocks z) (answer e 0))
    → AllStopped (blocks z) (walk_behind e z (chunks_from (length s) s at) b).said
stops-chunks e z s at b first =
    let cs = chunks_from (length s) s at in
    by_number (λ (l : Left Reply). AllStopped (blocks z) l.said) e _
    (λ wrong. (first wrong, none))
    (λ right. (
      stops-ended (blocks z) s (ends-chunks (length s) s at),
      stops-readings z (map (λ c. c.bytes) cs.list) b,
    ))

stops-walking : (z : Size) (s : List ℕ) (b : Board) → AllStopped (blocks z) (walk z s b).said
unfolding walk feed_of
stops-walking z s b = by (size_numbers s) refl
  where
    by : (x : SizeNumbers) → size_numbers s ≡ x → AllStopped (blocks z) (walk_feed z (with_chunks s x) b).said
    by (failing a) e =
        let named = numbered s e in
        (subst⁻¹ (λ (k : ℕ). Stopped (blocks z) (answer_at a.number a.place k)) named.1 (stopped-cut named.0), none)
    by (both y p) e =
        let right = same_size y z && exact y b in
        stops-chunks (fault y right) z s p b (stopped-fault (blocks z) y right)

stops-writing : (z : Size) (old new out : List ℕ) → Stopped (blocks z) (write z old new out).answer
unfolding write emit
stops-writing z old new out =
    by_number Holds _ _ (stopped-fault (blocks z) z _) (λ fine. by-test Holds _ (λ t. beyond (omega arith)) (λ t. done))
  where
    Holds : Wrote → Type 0
    Holds w = Stopped (blocks z) w.answer

-- a step: 1 and 2, the end, or the chunk that stands there
stops-stepping : (z : Size) (s : List ℕ) (at : ℕ) (b : Board) → Stopped (blocks z) (walk_step z s at b).said.answer
unfolding walk_step
stops-stepping z s at b =
    by_number (λ (l : Left Step). Stopped (blocks z) l.said.answer) (fault z (exact z b)) _ (stopped-fault (blocks z) z (exact z b))
    (λ fine. by (next_at s at) (stands s at))
  where
    by : (x : Next) → Stands s at x → Stopped (blocks z) (step_by z s at x b).said.answer
    by (end e) g = stops-ended (blocks z) s g
    by (chunk p q) g = stops-reading z (between s p q) b

pub all-stop : Stops
unfolding walk_run
all-stop =
    record {
      reading = stops-reading;
      writing = stops-writing;
      running = λ z s b. stops-chunks (fault z (exact z b)) z s 0 b (stopped-fault (blocks z) z (exact z b));
      walking = stops-walking;
      stepping = stops-stepping;
    }
