-- Every call that may stand in a sequence, and every sequence, means one thing: one lemma for each kind of call, one for sequences. Assumes nothing.
use Prim.Native.Nat.{ℕ}
use mathlib.Core.Path.{◌≡◌, refl, sym, ap, ◌∙◌}
use mathlib.Core.List.{List, [], ◌∷◌, map}
use mathlib.Core.Bool.{Bool, true, false}
use Rattle.spec.specs.declared.Size.{Size}
use Rattle.spec.specs.Basics.{Every, none, also}
use Rattle.spec.specs.Answers.{checked, answer}
use Rattle.spec.specs.Sizes.{allowed, columns, lines, blocks, same_size, fault}
use Rattle.spec.specs.Pictures.{Origin, Covers}
use Rattle.spec.specs.Maps.{unsettled, compose, unchanged}
use Rattle.spec.specs.Chunks.{Outcome, refused, accepted, decode, verdict}
use Rattle.spec.specs.Boards.{Board, board, Left, left, Faithful, exact, paint_board, effect, read, in_turn}
use Rattle.spec.specs.Feeds.{Chunks, Feed, broken, sized, feed_of, reply, ended, read_all, walk_behind, walk_chunks, walk, chunks_of, walk_run}
use Rattle.spec.specs.Calls.{Call, reading, walking, walking_run, call, run}
use Rattle.spec.proofs.Lists.{every-all, checked_refused}
use Rattle.spec.proofs.Limits.{allowed-size, area, same_size_lem, fault-somehow}
use Rattle.spec.proofs.Blocks.{paint-unchanged}
use Rattle.spec.proofs.Origins.{covers-unchanged, covers-compose, remap-compose, paint-compose, remap-unchanged}
use Rattle.spec.proofs.Sound.{Sound, accepts, decoded}
use Rattle.spec.proofs.Boards.{no-fault, kept-paint, faithful-paint, read-faithful}
use Rattle.trust.specs.Means.{Means}

module _ (z : Size) (fine : allowed z ≡ true) where
  -- nothing happens to a board
  board-unchanged : (b : Board) → Faithful z b → paint_board z (unchanged (blocks z)) b ≡ b
  board-unchanged b f =
      let e = f.exact in
      let pic = paint-unchanged (columns z) (lines z) (allowed-size z fine).wide b.picture (e.picture ∙ sym (area z fine)) in
      let m = remap-unchanged (blocks z) b.map e.map in
      let n = kept-paint z (unchanged (blocks z)) b (covers-unchanged (blocks z)) f ∙ ap unsettled m ∙ sym f.kept in
      λ i. board (pic i) (m i) (n i)

  board-compose : (first second : List Origin) (b : Board) → Covers (blocks z) first → Covers (blocks z) second → Faithful z b
      → paint_board z second (paint_board z first b) ≡ paint_board z (compose first second) b
  board-compose first second b g h f =
      let s = allowed-size z fine in
      let pic = sym (paint-compose (columns z) (lines z) s.wide s.some first second g h b.picture) in
      let m = sym (remap-compose (blocks z) s.some first g second b.map h) in
      let both = covers-compose (blocks z) s.some first g second h in
      let after = kept-paint z second (paint_board z first b) h (faithful-paint z fine first b g f) in
      let n = after ∙ ap unsettled m ∙ sym (kept-paint z (compose first second) b both f) in
      λ i. board (pic i) (m i) (n i)

  -- a call that says a and leaves the board
  nothing : {R : Type 0} (f : Board → Left R) (a : R) → ((b : Board) → Faithful z b → f b ≡ left a b) → Means z f
  nothing f a h =
      record {
        said = a;
        origins = unchanged (blocks z);
        covers = covers-unchanged (blocks z);
        says = λ b e. ap (λ l. l.said) (h b e);
        leaves = λ b e. ap (λ l. l.board) (h b e) ∙ sym (board-unchanged b e);
      }

  -- one call after another
  module _ {A R : Type 0} (f : A → Board → Left R) where
    pub in_turn-means : {xs : List A} → Every (λ a. Means z (f a)) xs → Means z (in_turn f xs)
    unfolding in_turn
    in_turn-means none = nothing (in_turn f []) [] (λ b e. refl)
    in_turn-means (also {x = a} {xs = more} m ms) =
        let rest = in_turn-means ms in
        let next : (b : Board) → Faithful z b → Faithful z (f a b).board = λ b e. rw (m.leaves b e) (faithful-paint z fine m.origins b m.covers e) in
        record {
          said = m.said ∷ rest.said;
          origins = compose m.origins rest.origins;
          covers = covers-compose (blocks z) (allowed-size z fine).some m.origins m.covers rest.origins rest.covers;
          says = λ b e. let x = m.says b e in let y = rest.says (f a b).board (next b e) in λ i. x i ∷ y i;
          leaves = λ b e.
              rest.leaves (f a b).board (next b e)
              ∙ ap (paint_board z rest.origins) (m.leaves b e)
              ∙ board-compose m.origins rest.origins b m.covers rest.covers e;
        }

  -- reading a chunk: what it says and which origins it has come from `decode` alone
  pub read-means : (s : List ℕ) → Means z (read z s)
  read-means s = by (decode (blocks z) s) refl (decoded (blocks z) (allowed-size z fine).some s)
    where
      is : (o : Outcome) → decode (blocks z) s ≡ o → (b : Board) → Faithful z b → read z s b ≡ left (verdict s o) (effect z o b)
      is o e b x = read-faithful z fine s b x ∙ ap (λ o. left (verdict s o) (effect z o b)) e

      by : (o : Outcome) → decode (blocks z) s ≡ o → Sound (blocks z) o → Means z (read z s)
      by (refused a) e x = nothing (read z s) a (is (refused a) e)
      by (accepted os) e (accepts g) =
          record {
            said = verdict s (accepted os);
            origins = os;
            covers = g;
            says = λ b x. ap (λ l. l.said) (is (accepted os) e b x);
            leaves = λ b x. ap (λ l. l.board) (is (accepted os) e b x);
          }

  -- walking chunks at the size, in turn: those of a run, and those of a feed of the size
  chunks-mean : (cs : Chunks) → Means z (walk_chunks z cs)
  unfolding checked
  chunks-mean cs =
      let m = in_turn-means (read z) (every-all (map (λ c. c.bytes) cs.list) read-means) in
      let is : (b : Board) → Faithful z b → walk_chunks z cs b ≡ read_all z cs b = λ b x. rw (no-fault z fine b x.exact) in
      record {
        said = reply m.said (ended (blocks z) cs.ending);
        origins = m.origins;
        covers = m.covers;
        says = λ b x. ap (λ l. l.said) (is b x) ∙ ap (λ a. reply a (ended (blocks z) cs.ending)) (m.says b x);
        leaves = λ b x. ap (λ l. l.board) (is b x) ∙ m.leaves b x;
      }

  -- a call that does what another does
  means-as : {R : Type 0} {f g : Board → Left R} → ((b : Board) → f b ≡ g b) → Means z g → Means z f
  means-as h m =
      record {
        said = m.said;
        origins = m.origins;
        covers = m.covers;
        says = λ b x. ap (λ l. l.said) (h b) ∙ m.says b x;
        leaves = λ b x. ap (λ l. l.board) (h b) ∙ m.leaves b x;
      }

  pub walk-run-means : (s : List ℕ) → Means z (walk_run z s)
  unfolding walk_run
  walk-run-means s = means-as (λ b. refl) (chunks-mean (chunks_of s))

  -- a feed of the board's own size is a run behind its size numbers; any other is refused before a chunk is read
  pub walk-means : (s : List ℕ) → Means z (walk z s)
  unfolding walk
  walk-means s = by (feed_of s) refl
    where
      by_size : (y : Size) (cs : Chunks) → feed_of s ≡ sized y cs → (t : Bool) → same_size y z ≡ t → Means z (walk z s)
      by_size y cs e true t =
          means-as (λ b. rw (e, t) (ap (λ (y : Size). walk_behind (fault y (exact y b)) z cs b) (same_size_lem y z t))) (chunks-mean cs)
      by_size y cs e false t =
          nothing (walk z s) (reply [] (answer (fault y false) 0)) (λ b x. rw (e, t) (checked_refused (fault y false) _ _ (fault-somehow y)))

      by : (o : Feed) → feed_of s ≡ o → Means z (walk z s)
      by (broken a) e = nothing (walk z s) (reply [] a) (λ b x. rw e)
      by (sized y cs) e = by_size y cs e (same_size y z) refl

  -- each kind of call, and a sequence of them
  pub call-means : (a : Call) → Means z (call z a)
  unfolding call
  call-means (reading s) =
      let m = read-means s in
      record { said = reply [] m.said; origins = m.origins; covers = m.covers; says = λ b x. ap (reply []) (m.says b x); leaves = m.leaves }
  call-means (walking s) = means-as (λ b. refl) (walk-means s)
  call-means (walking_run s) = means-as (λ b. refl) (walk-run-means s)

  pub run-means : (calls : List Call) → Means z (run z calls)
  run-means calls = in_turn-means (call z) (every-all calls call-means)
