-- A run and its chunks handed over singly; a feed's size numbers and the run behind them; what 0 says. Assumes nothing.
use Prim.Native.Nat.{ℕ, zero, suc}
use mathlib.Core.Path.{◌≡◌, refl, sym, ap, ◌∙◌}
use mathlib.Core.Logic.{◌≢◌}
use mathlib.Core.List.{List, [], ◌∷◌, map, map-map}
use mathlib.Core.Bool.{Bool, true, false, ◌&&◌, true≢false}
use native.Mathlib.Nat.{zero-add, le_refl}
use native.Mathlib.Omega.{arith}
use lib.Dec.{eqb}
use lib.ListN.{length, drop}
use borrow.Author.Tests.{ne_eqb}
use Rattle.spec.specs.declared.Answer.{Answer}
use Rattle.spec.specs.declared.Size.{Size}
use Rattle.spec.specs.declared.FeedSize.{FeedSize}
use Rattle.spec.specs.declared.Step.{Step}
use Rattle.spec.specs.Basics.{if, Every, none, also}
use Rattle.spec.specs.Answers.{ok, answer}
use Rattle.spec.specs.Sizes.{allowed, blocks, same_size, fault}
use Rattle.spec.specs.Maps.{record_of}
use Rattle.spec.specs.Boards.{Board, Left, left, Exact, exact, read, in_turn}
use Rattle.spec.specs.Feeds.{Ending, ended, Next, chunk, end, next_at, between, SizeNumbers, failing, both, size_numbers, with_chunks, feed_of, Chunks, chunks_from}
use Rattle.spec.specs.Feeds.{feed_size_by, feed_size, said_first}
use Rattle.spec.specs.Feeds.{number_accepted, Reply, reply, read_all, walk_behind, walk_chunks, walk_feed, walk, chunks_of, walk_run, no_chunk, step_by, walk_step}
use Rattle.spec.proofs.Lists.{by-test, by_number, checked-along, checked-none, checked_refused}
use Rattle.spec.proofs.Limits.{by-fault, no-fault-both, exact-known, fault-somehow, size-itself}
use Rattle.spec.proofs.Varints.{badly, short, cut-refused, numbered}
use Rattle.spec.proofs.Feeds.{Ends, whole, cut, ends-chunks, stepped}
use Rattle.spec.proofs.Boards.{no-fault}
use Rattle.spec.proofs.Runs.{later, later_chunks, chunks-behind}
use Rattle.trust.specs.Runs.{Singly, HandedSingly, behind, after_numbers, SizeThenRun, OtherSize, UsedUp, walk_from, Steps, StepByStep}
use Rattle.trust.proofs.Numbers.{exact_read}

-- where size or lengths are not right, each reading is refused with the same answer, and the board stays
module _ (z : Size) (b : Board) (wrong : fault z (exact z b) ≢ ok) where
  abbrev refusal : Answer
  refusal = answer (fault z (exact z b)) 0

  counts-none : ◌≡◌ {A = ℕ} (if (eqb refusal.number ok) 1 0) 0
  unfolding if
  counts-none = rw (ne_eqb _ _ wrong)

  refused-reading : (s : List ℕ) → read z s b ≡ left refusal b
  unfolding read
  refused-reading s = checked_refused _ _ _ wrong

  -- what readings in turn leave, and what they say
  record Refused (l : Left (List Answer)) : Type 0 where
    boards : l.board ≡ b
    accepted : number_accepted l.said ≡ 0
    refusals : Every (λ a. a ≡ refusal) l.said

  refused-readings : (ss : List (List ℕ)) → Refused (in_turn (read z) ss b)
  unfolding in_turn
  refused-readings [] = record { boards = refl; accepted = refl; refusals = none }
  refused-readings (s ∷ ss) =
      let more = refused-readings ss in
      rw (refused-reading s) (record { boards = more.boards; accepted = rw (counts-none, zero-add) more.accepted; refusals = also refl more.refusals })

pub handed-singly : HandedSingly
unfolding walk_run
handed-singly z s b =
    by_number (λ (l : Left Reply). walk_run z s b ≡ l → Singly z s b) (fault z (exact z b)) _
    (λ wrong is.
    let all = refused-readings z b wrong (map (λ c. c.bytes) (chunks_of s).list) in
    record {
      boards = ap (λ l. l.board) is ∙ sym all.boards;
      accepted = ap (λ l. l.said.accepted) is ∙ sym all.accepted;
      answers = λ h. absurd (wrong h);
      refusals = λ h. rw is all.refusals;
    })
    (λ fine is.
    record {
      boards = ap (λ l. l.board) is;
      accepted = ap (λ l. l.said.accepted) is;
      answers = λ h. ap (λ l. l.said) is;
      refusals = λ wrong. absurd (wrong fine);
    })
    refl

-- chunks with places from elsewhere are read just so
reads-later : (z : Size) (p : ℕ) (cs : Chunks) (b : Board)
    → read_all z (later_chunks p cs) b ≡ left (reply (read_all z cs b).said.inside (ended (blocks z) (later_chunks p cs).ending)) (read_all z cs b).board
reads-later z p cs b =
    ap (λ ss. let ran = in_turn (read z) ss b in left (reply ran.said (ended (blocks z) (later_chunks p cs).ending)) ran.board) (map-map _ _ cs.list)

-- 0, 12 and 13 are told by the feed's first byte; 1 and 2 are not
behind-ending : (p n : ℕ) (s : List ℕ) {e : Ending} → Ends s e → behind p (ended n e) ≡ ended n (later p e)
unfolding if
behind-ending p n s whole = refl
behind-ending p n s (cut badly) = refl
behind-ending p n s (cut short) = refl

behind-fault : (p : ℕ) (z : Size) (t : Bool) → fault z t ≢ ok → behind p (answer (fault z t) 0) ≡ answer (fault z t) 0
unfolding if
behind-fault p z t h = by-fault (λ e. behind p (answer e 0) ≡ answer e 0) z t h refl refl

pub size-then-run : SizeThenRun
unfolding walk walk_run feed_of
size-then-run s z p e b =
    let run = drop p s in
    let ran = read_all z (chunks_of run) b in
    ap (λ x. walk_feed z (with_chunks s x) b) e
    ∙ ap (λ t. walk_behind (fault z (t && exact z b)) z (chunks_from (length s) s p) b) (size-itself z)
    ∙ ap (λ cs. walk_chunks z cs b) (chunks-behind s p (numbered s e))
    ∙ checked-along (after_numbers p) (fault z (exact z b)) _ _
    (λ wrong. ap (λ a. left (reply [] a) b) (sym (behind-fault p z (exact z b) wrong)))
    (λ fine.
    reads-later z p (chunks_of run) b
    ∙ ap (λ a. left (reply ran.said.inside a) ran.board) (sym (behind-ending p (blocks z) run (ends-chunks (length run) run 0))))

pub other-size : OtherSize
unfolding walk feed_of
other-size s y z p e d b = rw (e, d) (checked_refused (fault y false) _ _ (fault-somehow y))

-- an end with 0 is the end of all bytes
abbrev AtEnd : List ℕ → Answer → Type 0
AtEnd s a = a.number ≡ ok → a.place ≡ length s

ending-used : (n : ℕ) (s : List ℕ) {e : Ending} → Ends s e → AtEnd s (ended n e)
ending-used n s whole h = refl
ending-used n s (cut c) h = absurd (cut-refused c h)

chunks-used : (e : ℕ) (z : Size) (s : List ℕ) (at : ℕ) (b : Board) → AtEnd s (walk_behind e z (chunks_from (length s) s at) b).said.answer
chunks-used e z s at b =
    by_number (λ (l : Left Reply). AtEnd s l.said.answer) e _ (λ wrong h. absurd (wrong h))
    (λ fine. ending-used (blocks z) s (ends-chunks (length s) s at))

pub used_all : UsedUp
unfolding walk walk_run feed_of
used_all z s b = record { run = chunks-used (fault z (exact z b)) z s 0 b; feed = by (size_numbers s) refl }
  where
    by : (x : SizeNumbers) → size_numbers s ≡ x → AtEnd s (walk_feed z (with_chunks s x) b).said.answer
    by (failing a) e = λ h. absurd (cut-refused (numbered s e).0 h)
    by (both y p) e = chunks-used (fault y (same_size y z && exact y b)) z s p b

-- a step, behind 1 and 2, and then what the walk has left
module _ (z : Size) (s : List ℕ) (at : ℕ) (b : Board) where
  abbrev behind_fault : Left Step
  behind_fault = step_by z s at (next_at s at) b

  steps-wrong : fault z (exact z b) ≢ ok → Steps z s at b
  unfolding walk_step
  steps-wrong wrong =
      let is : walk_step z s at b ≡ left (no_chunk (record_of z b.kept) at (answer (fault z (exact z b)) 0)) b = checked_refused _ _ _ wrong in
      record {
        reads = λ h. absurd (wrong h);
        onward = λ t. absurd (true≢false (sym t ∙ ap (λ l. l.said.chunk) is));
        ends = λ t. checked_refused _ _ _ wrong ∙ ap (λ l. left (reply [] l.said.answer) b) (sym is);
      }

  steps-right : allowed z ≡ true → Exact z b → Steps z s at b
  unfolding walk_step
  steps-right fine x =
      let none = no-fault z fine b x in
      let is : walk_step z s at b ≡ behind_fault = checked-none _ _ _ none in
      let walks : (p : ℕ) (c : Board) → Exact z c → walk_from z s p c ≡ read_all z (chunks_from (length s) s p) c =
      λ p c y. checked-none _ _ _ (no-fault z fine c y) in
      let told = stepped z s (length s) (le_refl (length s)) at b in
      record {
        reads = λ h p q e. is ∙ ap (λ n. step_by z s at n b) e;
        onward = λ t.
            let t' = ap (λ l. l.said.chunk) (sym is) ∙ t in
            walks at b x
            ∙ (told.onward t').walked
            ∙ ap (said_first behind_fault.said.answer) (sym (walks behind_fault.said.next behind_fault.board (exact-step (next_at s at))))
            ∙ ap (λ l. said_first l.said.answer (walk_from z s l.said.next l.board)) (sym is);
        ends = λ t.
            let over = told.over (ap (λ l. l.said.chunk) (sym is) ∙ t) in
            walks at b x
            ∙ over.walked
            ∙ ap (λ c. left (reply [] behind_fault.said.answer) c) over.same
            ∙ ap (λ l. left (reply [] l.said.answer) b) (sym is);
      }
    where
      exact-step : (n : Next) → Exact z (step_by z s at n b).board
      exact-step (end e) = x
      exact-step (chunk p q) = exact_read z fine (between s p q) b x

every-step : (z : Size) (s : List ℕ) (at : ℕ) (b : Board) → Steps z s at b
every-step z s at b = by (fault z (exact z b)) refl
  where
    by : (f : ℕ) → fault z (exact z b) ≡ f → Steps z s at b
    by zero e = let known = no-fault-both z (exact z b) e in steps-right z s at b known.0 (exact-known z b known.1)
    by (suc f) e = steps-wrong z s at b (λ h. omega (arith, e, h))

-- a feed at its own size
feed-from : (s : List ℕ) (b : Board) (x : SizeNumbers) → size_numbers s ≡ x
    → let f = feed_size_by x in
    f.answer.number ≡ ok → walk f.size s b ≡ walk_from f.size s f.first b
unfolding walk feed_of
feed-from s b (failing a) e h = absurd (cut-refused (numbered s e).0 h)
feed-from s b (both z p) e h =
    by-test (λ (f : FeedSize). f.answer.number ≡ ok → walk_feed f.size (feed_of s) b ≡ walk_from f.size s f.first b) (allowed z)
    (λ t g.
    ap (λ x. walk_feed z (with_chunks s x) b) e
    ∙ ap (λ t. walk_behind (fault z (t && exact z b)) z (chunks_from (length s) s p) b) (size-itself z))
    (λ t g. absurd (omega (arith, g))) h

pub step-by-step : StepByStep
unfolding walk_run feed_size
step-by-step = record { steps = every-step; run = λ z s b. refl; feed = λ s b h. feed-from s b (size_numbers s) refl h }
