-- A true record: what a call means stays what it was before there were records. Assumes nothing.
use Prim.Native.Nat.{ℕ}
use mathlib.Core.Path.{◌≡◌, refl, ap, ◌∙◌}
use mathlib.Core.Logic.{◌≢◌}
use mathlib.Core.List.{List, [], ◌∷◌, map}
use mathlib.Core.Bool.{Bool, true, false, ◌&&◌}
use Rattle.spec.specs.declared.Answer.{Answer}
use Rattle.spec.specs.declared.Size.{Size}
use Rattle.spec.specs.Basics.{Every, none, also}
use Rattle.spec.specs.Answers.{bad_count}
use Rattle.spec.specs.Sizes.{allowed, blocks, same_size, fault}
use Rattle.spec.specs.Boards.{Board, Left, left, Faithful, exact, read, in_turn}
use Rattle.spec.specs.Feeds.{Feed, broken, sized, feed_of, Chunks, chunks_of, Reply, walk_behind, walk_feed, walk, walk_run}
use Rattle.spec.specs.Calls.{Call, reading, walking, walking_run, call}
use Rattle.spec.proofs.Lists.{by-checked, checked_refused}
use Rattle.spec.proofs.Limits.{same_size_lem, fault-somehow}
use Rattle.spec.proofs.Refused.{decode-number}
use Rattle.spec.proofs.Boards.{faithful-paint, read-faithful, faithful-read}
use Rattle.trust.specs.Kept.{read_plain, NoMiscount, TrueStays}
use Rattle.trust.specs.Demand.{FeedFor, its_size, none_read, EveryFeed}
use Rattle.trust.proofs.Meanings.{call-means}
use Rattle.trust.proofs.Numbers.{another, run-number, walk-number}

-- a feed has the board's size as its size numbers, or no chunk of it is read
pub every-feed : EveryFeed
unfolding walk
every-feed z s = by (feed_of s) refl
  where
    by_size : (y : Size) (cs : Chunks) → feed_of s ≡ sized y cs → (t : Bool) → same_size y z ≡ t → FeedFor z s
    by_size y cs e true t = its_size cs (e ∙ ap (λ (y : Size). sized y cs) (same_size_lem y z t))
    by_size y cs e false t =
        none_read (λ b x. rw (e, t) (ap (λ (l : Left Reply). l.said.inside) (checked_refused (fault y false) _ _ (fault-somehow y))))

    by : (o : Feed) → feed_of s ≡ o → FeedFor z s
    by (broken a) e = none_read (λ b x. rw e)
    by (sized y cs) e = by_size y cs e (same_size y z) refl

module _ (z : Size) (fine : allowed z ≡ true) where
  read-counts : (s : List ℕ) (b : Board) → Faithful z b → (read z s b).said.number ≢ bad_count
  read-counts s b f = rw (read-faithful z fine s b f) (another bad_count (decode-number (blocks z) s) refl)

  -- one after the other
  reads_plain : (ss : List (List ℕ)) (b : Board) → Faithful z b → in_turn (read z) ss b ≡ in_turn (read_plain z) ss b
  unfolding in_turn
  reads_plain [] b f = refl
  reads_plain (s ∷ ss) b f =
      let rest = reads_plain ss (read z s b).board (faithful-read z fine s b f) in
      ap (λ (r : Left (List Answer)). left ((read z s b).said ∷ r.said) r.board) rest
      ∙ ap (λ (l : Left Answer). left (l.said ∷ (in_turn (read_plain z) ss l.board).said) (in_turn (read_plain z) ss l.board).board)
      (read-faithful z fine s b f)

  readings-count : (ss : List (List ℕ)) (b : Board) → Faithful z b → Every (λ (a : Answer). a.number ≢ bad_count) (in_turn (read z) ss b).said
  unfolding in_turn
  readings-count [] b f = none
  readings-count (s ∷ ss) b f = also (read-counts s b f) (readings-count ss (read z s b).board (faithful-read z fine s b f))

  chunks-count : (e : ℕ) (cs : Chunks) (b : Board) → Faithful z b → Every (λ (a : Answer). a.number ≢ bad_count) (walk_behind e z cs b).said.inside
  chunks-count e cs b f =
      by-checked (λ (l : Left Reply). Every (λ (a : Answer). a.number ≢ bad_count) l.said.inside) e (λ a. none)
      (readings-count (map (λ c. c.bytes) cs.list) b f)

  walk-counts : (s : List ℕ) (b : Board) → Faithful z b → Every (λ (a : Answer). a.number ≢ bad_count) (walk z s b).said.inside
  unfolding walk
  walk-counts s b f = by (feed_of s)
    where
      by : (x : Feed) → Every (λ (a : Answer). a.number ≢ bad_count) (walk_feed z x b).said.inside
      by (broken a) = none
      by (sized y cs) = chunks-count (fault y (same_size y z && exact y b)) cs b f

  call-counts : (a : Call) (b : Board) → Faithful z b → NoMiscount (call z a b).said
  unfolding call walk_run
  call-counts (reading s) b f = (read-counts s b f, none)
  call-counts (walking s) b f = (another bad_count (walk-number z s b).0 refl, walk-counts s b f)
  call-counts (walking_run s) b f = (another bad_count (run-number z s b).0 refl, chunks-count (fault z (exact z b)) (chunks_of s) b f)

pub true-stays : TrueStays
true-stays z fine b f =
    record {
      reads = λ s. read-faithful z fine s b f;
      inside = λ ss. reads_plain z fine ss b f;
      counts = λ a. call-counts z fine a b f;
      stays = λ a. let m = call-means z fine a in rw (m.leaves b f) (faithful-paint z fine m.origins b m.covers f);
    }
