-- "On every refusal all lent buffers are unchanged", but for a walk that ends in 12 or 13. Over any sizes and lengths. Assumes nothing.
use Prim.Native.Nat.{ℕ}
use mathlib.Core.Path.{◌≡◌, refl}
use mathlib.Core.Logic.{◌≢◌}
use mathlib.Core.List.{List, []}
use mathlib.Core.Bool.{◌&&◌}
use lib.ListN.{length}
use Rattle.spec.specs.declared.Answer.{Answer}
use Rattle.spec.specs.declared.Size.{Size}
use Rattle.spec.specs.declared.Step.{Step}
use Rattle.spec.specs.Answers.{ok, bad_varint, feed_cut}
use Rattle.spec.specs.Sizes.{blocks, same_size, fault}
use Rattle.spec.specs.Maps.{MapLeft, map_fault, fresh_map}
use Rattle.spec.specs.Chunks.{Outcome, refused, accepted, decode, verdict}
use Rattle.spec.specs.Boards.{Board, Left, left, exact, effect, recounted, read}
use Rattle.spec.specs.Writing.{Wrote, emit, write}
use Rattle.spec.specs.Feeds.{Ending, ended, Next, chunk, end, next_at, between, chunks_from, SizeNumbers, failing, both, size_numbers, broken, with_chunks, feed_of}
use Rattle.spec.specs.Feeds.{reply, walk_behind, walk_feed, walk, walk_run, step_by, walk_step}
use Rattle.spec.proofs.Lists.{by-test, by-checked}
use Rattle.spec.proofs.Varints.{badly, short}
use Rattle.spec.proofs.Feeds.{Ends, whole, cut, ends-chunks}
use Rattle.sprite.proofs.Numbers.{refused-symbol}
use Rattle.trust.specs.Refusals.{Unchanged, Refusals}

-- a refused chunk leaves picture, map and record
refused-read : (z : Size) (s : List ℕ) (b : Board) → (read z s b).said.number ≢ ok → (read z s b).board ≡ b
unfolding read
refused-read z s b =
    by-checked (λ (l : Left Answer). l.said.number ≢ ok → l.board ≡ b) (fault z (exact z b)) (λ a n. refl)
    (by (recounted (blocks z) b (decode (blocks z) s)))
  where
    by : (o : Outcome) → (verdict s o).number ≢ ok → effect z o b ≡ b
    by (refused a) n = refl
    by (accepted os) n = absurd (n refl)

kept-ending : (n : ℕ) (s : List ℕ) {e : Ending} (x b : Board) → Ends s e
    → (ended n e).number ≢ ok → (ended n e).number ≢ bad_varint → (ended n e).number ≢ feed_cut → x ≡ b
kept-ending n s x b whole p q r = absurd (p refl)
kept-ending n s x b (cut badly) p q r = absurd (q refl)
kept-ending n s x b (cut short) p q r = absurd (r refl)

-- the chunks of s from a place on
refused-chunks : (e : ℕ) (z : Size) (s : List ℕ) (first : ℕ) (b : Board) → Unchanged b (walk_behind e z (chunks_from (length s) s first) b)
refused-chunks e z s first b =
    by-checked (Unchanged b) e (λ a p q r. refl) (kept-ending (blocks z) s _ b (ends-chunks (length s) s first))

refused-walk : (z : Size) (s : List ℕ) (b : Board) → Unchanged b (walk z s b)
unfolding walk feed_of
refused-walk z s b = by (size_numbers s)
  where
    by : (x : SizeNumbers) → Unchanged b (walk_feed z (with_chunks s x) b)
    by (failing a) = λ p q r. refl
    by (both y first) = refused-chunks (fault y (same_size y z && exact y b)) z s first b

refused-run : (z : Size) (s : List ℕ) (b : Board) → Unchanged b (walk_run z s b)
unfolding walk_run
refused-run z s b = refused-chunks (fault z (exact z b)) z s 0 b

-- size numbers that fail, with 12 or 13, leave the board too
refused-size : (z : Size) (s : List ℕ) (a : Answer) (b : Board) → feed_of s ≡ broken a → walk z s b ≡ left (reply [] a) b
unfolding walk
refused-size z s a b e = rw e

-- a step that ends, or whose chunk is refused
refused-step : (z : Size) (s : List ℕ) (at : ℕ) (b : Board) → (walk_step z s at b).said.answer.number ≢ ok → (walk_step z s at b).board ≡ b
unfolding walk_step
refused-step z s at b =
    by-checked (λ (l : Left Step). l.said.answer.number ≢ ok → l.board ≡ b) (fault z (exact z b)) (λ a n. refl) (by (next_at s at))
  where
    by : (x : Next) → (step_by z s at x b).said.answer.number ≢ ok → (step_by z s at x b).board ≡ b
    by (end e) n = refl
    by (chunk p q) n = refused-read z (between s p q) b n

-- a refused fresh map leaves the map, and a refused write the output
refused-fresh : (z : Size) (m : List ℕ) → (fresh_map z m).answer.number ≢ ok → (fresh_map z m).map ≡ m
unfolding fresh_map
refused-fresh z m =
    by-checked (λ (l : MapLeft). l.answer.number ≢ ok → l.map ≡ m) (map_fault z m) (λ a n. refl) (λ n. absurd (n refl))

refused-write : (z : Size) (old new out : List ℕ) → (write z old new out).answer.number ≢ ok → (write z old new out).output ≡ out
unfolding write emit
refused-write z old new out =
    by-checked Keeps _ (λ a n. refl) (by-test Keeps _ (λ t n. refl) (λ t n. absurd (n refl)))
  where
    Keeps : Wrote → Type 0
    Keeps w = w.answer.number ≢ ok → w.output ≡ out

pub refusals : Refusals
refusals =
    record {
      reading = refused-read;
      walking = refused-walk;
      running = refused-run;
      unsized = refused-size;
      stepping = refused-step;
      starting = refused-fresh;
      writing = refused-write;
      painting = refused-symbol;
    }
