-- The numbers of every call, by where an answer comes from: 1 and 2, a chunk, the end of a walk. Assumes nothing.
use Prim.Native.Nat.{ℕ}
use mathlib.Core.Path.{◌≡◌, refl, subst}
use mathlib.Core.Logic.{◌≢◌}
use mathlib.Core.List.{List, [], ◌∷◌, ◌++◌, map}
use mathlib.Core.Bool.{Bool, true, false, ◌&&◌, ◌||◌, true≢false, and-eq-true_iff}
use lib.Dec.{eqb}
use lib.ListN.{length}
use borrow.Author.Tests.{eq-eqb}
use Rattle.spec.specs.declared.Answer.{Answer}
use Rattle.spec.specs.declared.Count.{Count}
use Rattle.spec.specs.declared.Size.{Size}
use Rattle.spec.specs.declared.FeedSize.{FeedSize}
use Rattle.spec.specs.declared.Step.{Step}
use Rattle.spec.specs.Basics.{if, Every, none, also, Among, here, there}
use Rattle.spec.specs.Answers.{ok, bad_size, bad_length, bad_count, answer, checked}
use Rattle.spec.specs.Sizes.{allowed, blocks, same_size, fault}
use Rattle.spec.specs.Chunks.{Outcome, refused, accepted, decode, verdict}
use Rattle.spec.specs.Maps.{MapLeft, fresh_map, count_map}
use Rattle.spec.specs.Boards.{Board, Left, exact, Exact, recounted, effect, read, in_turn}
use Rattle.spec.specs.Writing.{Wrote, emit, write}
use Rattle.spec.specs.Feeds as Feeds
use Rattle.spec.specs.Feeds.{Ending, ended, Next, chunk, end, next_at, chunks_from, SizeNumbers, failing, both, size_numbers, feed_size_by, feed_size}
use Rattle.spec.specs.Feeds.{with_chunks, feed_of}
use Rattle.spec.specs.Feeds.{Reply, walk_behind, walk_feed, walk, walk_run, step_by, walk_step}
use Rattle.spec.proofs.Lists.{by-test, by_number}
use Rattle.spec.proofs.Limits.{by-fault, fault-none, no-fault-both, same_size_lem, exact-known, allowed-size}
use Rattle.spec.proofs.Varints.{Cut, badly, short, numbered}
use Rattle.spec.proofs.Refused.{decode-number}
use Rattle.spec.proofs.Sound.{Sound, accepts, decoded}
use Rattle.spec.proofs.Boards.{exact-paint, read-exact}
use Rattle.spec.proofs.Feeds.{Ends, whole, cut, Stands, stands, ends-chunks}
use Rattle.sprite.proofs.Numbers.{symbol-number}
use Rattle.trust.specs.Numbers.{of_maps, of_reads, of_writes, of_chunks, of_walks, of_sizes, Numbers}
use Rattle.trust.proofs.Witnesses.{starts-given, counts-given, reads-given, writes-given, walks-given, inside-walks-given, runs-given, inside-runs-given}
use Rattle.trust.proofs.Witnesses.{steps-given, chunks-given, sizes-given, symbols-given}

-- one of some numbers is one of more
among-more : {x : ℕ} {l : List ℕ} (r : List ℕ) → Among x l → Among x (l ++ r)
among-more r here = here
among-more r (there p) = there (among-more r p)

-- what is not one of them is another
abbrev has : ℕ → List ℕ → Bool
has e [] = false
has e (x ∷ xs) = eqb x e || has e xs

pub another : (e : ℕ) {x : ℕ} {l : List ℕ} → Among x l → has e l ≡ false → x ≢ e
another e {x = x} {l = []} x9 h same = elim x9 [ ]
another e {l = x ∷ l} here h same = true≢false (rw (eq-eqb x e same) at h)
another e {x} {l = y ∷ l} (there p) h same = another e p (rest (eqb y e) h) same
  where
    rest : (b : Bool) → (b || has e l) ≡ false → has e l ≡ false
    rest true q = absurd (true≢false q)
    rest false q = q

-- one call, one answer
one : {a : Answer} {l : List ℕ} → Among a.number l → Every (λ (a : Answer). Among a.number l) (a ∷ [])
one p = also p none

-- 1 and 2, in a set that has them
fault-number : (l : List ℕ) → Among bad_size l → Among bad_length l → (z : Size) (t : Bool) → fault z t ≢ ok → Among (fault z t) l
fault-number l p q z t h = by-fault (λ e. Among e l) z t h p q

-- a chunk: 21 or what `decode` says
chunk-number : (n : ℕ) (s : List ℕ) (b : Board) → Among (verdict s (recounted n b (decode n s))).number of_chunks
chunk-number n s b = by (decode n s) (among-more (bad_count ∷ []) (decode-number n s))
  where
    last : Among bad_count of_chunks
    last = there (there (there (there (there (there (there (there (there (there here)))))))))

    by : (o : Outcome) → Among (verdict s o).number of_chunks → Among (verdict s (recounted n b o)).number of_chunks
    by (refused a) p = p
    by (accepted os) p = by-test (λ (o : Outcome). Among (verdict s o).number of_chunks) _ (λ t. last) (λ t. p)

-- a chunk that is read where size and lengths are right, and so the ones after it
module _ (z : Size) (fine : allowed z ≡ true) where
  read_number : (s : List ℕ) (b : Board) → Exact z b → Among (read z s b).said.number of_chunks
  read_number s b x = rw (read-exact z fine s b x) (chunk-number (blocks z) s b)

  pub exact_read : (s : List ℕ) (b : Board) → Exact z b → Exact z (read z s b).board
  exact_read s b x = rw (read-exact z fine s b x) (by (decode (blocks z) s) (decoded (blocks z) (allowed-size z fine).some s))
    where
      by : (o : Outcome) → Sound (blocks z) o → Exact z (effect z (recounted (blocks z) b o) b)
      by (refused a) g = x
      by (accepted os) (accepts g) = by-test (λ (o : Outcome). Exact z (effect z o b)) _ (λ t. x) (λ t. exact-paint z fine os b g)

  reads-number : (ss : List (List ℕ)) (b : Board) → Exact z b → Every (λ (a : Answer). Among a.number of_chunks) (in_turn (read z) ss b).said
  unfolding in_turn
  reads-number [] b x = none
  reads-number (s ∷ ss) b x = also (read_number s b x) (reads-number ss (read z s b).board (exact_read s b x))

-- 12 and 13, and the end of a walk
cut-number : {e : ℕ} → Cut e → Among e of_walks
cut-number badly = there (there (there here))
cut-number short = there (there (there (there here)))

ends-number : (n : ℕ) (s : List ℕ) {e : Ending} → Ends s e → Among (ended n e).number of_walks
ends-number n s whole = here
ends-number n s (cut c) = cut-number c

one-of-walks : Among bad_size of_walks
one-of-walks = there here

two-of-walks : Among bad_length of_walks
two-of-walks = there (there here)

-- a walk from a place on, behind 1 and 2
abbrev OfWalk : Reply → Type 0
OfWalk r = Among r.answer.number of_walks × Every (λ (a : Answer). Among a.number of_chunks) r.inside

chunks-number : (e : ℕ) (z : Size) (s : List ℕ) (at : ℕ) (b : Board) → (e ≢ ok → Among e of_walks) → (e ≡ ok → fault z (exact z b) ≡ ok)
    → OfWalk (walk_behind e z (chunks_from (length s) s at) b).said
chunks-number e z s at b wrong right =
    let cs = chunks_from (length s) s at in
    by_number (λ (l : Left Reply). OfWalk l.said) e _ (λ h. (wrong h, none)) (λ h.
    let known = no-fault-both z (exact z b) (right h) in (
      ends-number (blocks z) s (ends-chunks (length s) s at),
      reads-number z known.0 (map (λ c. c.bytes) cs.list) b (exact-known z b known.1),
    ))

pub run-number : (z : Size) (s : List ℕ) (b : Board) → OfWalk (walk_run z s b).said
unfolding walk_run
run-number z s b = chunks-number (fault z (exact z b)) z s 0 b (fault-number of_walks one-of-walks two-of-walks z (exact z b)) (λ h. h)

pub walk-number : (z : Size) (s : List ℕ) (b : Board) → OfWalk (walk z s b).said
unfolding walk feed_of
walk-number z s b = by (size_numbers s) refl
  where
    by : (x : SizeNumbers) → size_numbers s ≡ x → OfWalk (walk_feed z (with_chunks s x) b).said
    by (failing a) e = (cut-number (numbered s e).0, none)
    by (both y p) e =
        let right = same_size y z && exact y b in
        chunks-number (fault y right) z s p b (fault-number of_walks one-of-walks two-of-walks y right) (λ h.
        let known = (and-eq-true_iff (same_size y z) (exact y b)).0 (no-fault-both y right h).1 in
        subst (λ (x : Size). fault x (exact x b) ≡ ok) (same_size_lem y z known.0) (fault-none y (exact y b) (no-fault-both y right h).0 known.1))

-- a step
record OfStep (st : Step) : Type 0 where
  own : Every (λ (a : Answer). Among a.number of_walks) (if st.chunk [] (st.answer ∷ []))
  chunks : Every (λ (a : Answer). Among a.number of_chunks) (if st.chunk (st.answer ∷ []) [])

step-number : (z : Size) (s : List ℕ) (at : ℕ) (b : Board) → OfStep (walk_step z s at b).said
unfolding walk_step if
step-number z s at b =
    by_number (λ (l : Left Step). OfStep l.said) (fault z (exact z b)) _
    (λ h. record { own = one (fault-number of_walks one-of-walks two-of-walks z (exact z b) h); chunks = none }) (λ h.
    let known = no-fault-both z (exact z b) h in
    by (next_at s at) (stands s at) known.0 (exact-known z b known.1))
  where
    by : (x : Next) → Stands s at x → allowed z ≡ true → Exact z b → OfStep (step_by z s at x b).said
    by (end e) g fine x = record { own = one (ends-number (blocks z) s g); chunks = none }
    by (chunk first past) g fine x = record { own = none; chunks = one (read_number z fine (Feeds.between s first past) b x) }

-- a feed's size
size_number : (s : List ℕ) → Among (feed_size s).answer.number of_sizes
unfolding feed_size
size_number s = by (size_numbers s) refl
  where
    cut_in : {e : ℕ} → Cut e → Among e of_sizes
    cut_in badly = there (there here)
    cut_in short = there (there (there here))

    by : (x : SizeNumbers) → size_numbers s ≡ x → Among (feed_size_by x).answer.number of_sizes
    by (failing a) e = cut_in (numbered s e).0
    by (both z first) e = by-test (λ (f : FeedSize). Among f.answer.number of_sizes) (allowed z) (λ t. here) (λ t. there here)

-- fresh map and count, and the writer
map-number : {A : Type 0} (f : A → Answer) {refuse : Answer → A} {go : A} → ((a : Answer) → f (refuse a) ≡ a) → (f go).number ≡ ok
    → (z : Size) (t : Bool) → Among (f (checked (fault z t) refuse go)).number of_maps
map-number f {refuse} refuses goes z t =
    by_number (λ x. Among (f x).number of_maps) (fault z t) refuse
    (λ h. rw (refuses (answer (fault z t) 0)) (fault-number of_maps (there here) (there (there here)) z t h))
    (λ h. rw goes here)

start-number : (z : Size) (m : List ℕ) → Among (fresh_map z m).answer.number of_maps
unfolding fresh_map
start-number z m = map-number (λ (l : MapLeft). l.answer) (λ a. refl) refl z _

count-number : (z : Size) (m : List ℕ) → Among (count_map z m).answer.number of_maps
unfolding count_map
count-number z m = map-number (λ (l : Count). l.answer) (λ a. refl) refl z _

write-number : (z : Size) (old new out : List ℕ) → Among (write z old new out).answer.number of_writes
unfolding write emit
write-number z old new out =
    by_number OfWrite _ _ (fault-number of_writes (there here) (there (there here)) z _)
    (λ h. by-test OfWrite _ (λ t. there (there (there here))) (λ t. here))
  where
    OfWrite : Wrote → Type 0
    OfWrite w = Among w.answer.number of_writes

-- a chunk that is read by itself may get 1 and 2 too
also-faults : {x : ℕ} → Among x of_chunks → Among x of_reads
also-faults here = here
also-faults (there p) = there (there (there p))

reading-number : (z : Size) (s : List ℕ) (b : Board) → Among (read z s b).said.number of_reads
unfolding read
reading-number z s b =
    by_number (λ (l : Left Answer). Among l.said.number of_reads) (fault z (exact z b)) _
    (fault-number of_reads (there here) (there (there here)) z (exact z b)) (λ h. also-faults (chunk-number (blocks z) s b))

pub numbers : Numbers
numbers =
    record {
      starting = record { among = λ x. one (start-number x.size x.map); given = starts-given };
      counting = record { among = λ x. one (count-number x.size x.map); given = counts-given };
      reading = record { among = λ x. one (reading-number x.size x.bytes x.board); given = reads-given };
      writing = record { among = λ x. one (write-number x.size x.old x.new x.output); given = writes-given };
      walking = record { among = λ x. one (walk-number x.size x.bytes x.board).0; given = walks-given };
      inside_walks = record { among = λ x. (walk-number x.size x.bytes x.board).1; given = inside-walks-given };
      running = record { among = λ x. one (run-number x.size x.bytes x.board).0; given = runs-given };
      inside_runs = record { among = λ x. (run-number x.size x.bytes x.board).1; given = inside-runs-given };
      stepping = record { among = λ x. (step-number x.size x.bytes x.at x.board).own; given = steps-given };
      on_chunks = record { among = λ x. (step-number x.size x.bytes x.at x.board).chunks; given = chunks-given };
      sizing = record { among = λ s. one (size_number s); given = sizes-given };
      painting = record {
        among = λ x. one (symbol-number x.size x.picture x.file x.frame x.left x.top);
        given = symbols-given;
      };
    }
