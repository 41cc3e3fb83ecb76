-- A walk, by what its size numbers and the sizes' check have answered. Assumes nothing.
use Prim.Native.Nat.{ℕ}
use mathlib.Core.Path.{◌≡◌, refl, sym, ap, ◌∙◌}
use mathlib.Core.Logic.{◌≢◌}
use mathlib.Core.List.{List, []}
use mathlib.Core.Bool.{true, ◌&&◌, and-eq-true_iff}
use native.Mathlib.Omega.{arith}
use lib.Dec.{eqb}
use lib.ListN.{length}
use borrow.Author.Tests.{eqb-true}
use Rattle.spec.specs.declared.Size.{Size}
use Rattle.spec.specs.declared.FeedSize.{FeedSize}
use Rattle.spec.specs.Answers.{ok, answer}
use Rattle.spec.specs.Sizes.{allowed, pixels, blocks, same_size, fault}
use Rattle.spec.specs.Maps.{record_of}
use Rattle.spec.specs.Boards.{Board, left, exact}
use Rattle.spec.specs.Feeds.{next_at, Chunks, chunks_from, SizeNumbers, failing, both, size_numbers, feed_size_by, feed_size, feed_of, with_chunks}
use Rattle.spec.specs.Feeds.{reply, read_all, walk_behind, walk_feed, walk, no_chunk, step_by, walk_step}
use Rattle.spec.proofs.Lists.{by-test, checked-none, checked_refused}
use Rattle.spec.proofs.Limits.{fault-size, no-fault-both, no-fault-lengths, same_size_lem}
use Rattle.spec.proofs.Varints.{cut-refused, numbered}

module _ {f : ℕ} (z : Size) (cs : Chunks) (b : Board) where
  pub chunks-refused : f ≢ ok → walk_behind f z cs b ≡ left (reply [] (answer f 0)) b
  chunks-refused h = checked_refused f _ _ h

  pub chunks-read : f ≡ ok → walk_behind f z cs b ≡ read_all z cs b
  chunks-read h = checked-none f _ _ h

-- a step, by the same check
module _ (z : Size) (s : List ℕ) (at : ℕ) (b : Board) {f : ℕ} (q : f ≡ fault z (exact z b)) where
  pub step-refused : f ≢ ok → walk_step z s at b ≡ left (no_chunk (record_of z b.kept) at (answer f 0)) b
  unfolding walk_step
  step-refused h = rw (← q) (checked_refused f _ _ h)

  pub step-goes : f ≡ ok → walk_step z s at b ≡ step_by z s at (next_at s at) b
  unfolding walk_step
  step-goes h = rw (← q) (checked-none f _ _ h)

-- where neither 1 nor 2 is given, the map has the board's entries
pub board-entries : (z : Size) (b : Board) {f : ℕ} → f ≡ fault z (exact z b) → f ≡ ok → length b.map ≡ blocks z
board-entries z b q h = (no-fault-lengths z (length b.picture) (length b.map) (pixels z) (blocks z) (sym q ∙ h)).1.1

-- where neither is given for a feed's own size, the map has the entries of the board's
pub feed-entries : (y z : Size) (p m : ℕ) → fault y (same_size y z && (eqb p (pixels y) && eqb m (blocks y))) ≡ ok → m ≡ blocks z
feed-entries y z p m h =
    let right = eqb p (pixels y) && eqb m (blocks y) in
    let both = (and-eq-true_iff (same_size y z) right).0 (no-fault-both y (same_size y z && right) h).1 in
    eqb-true m (blocks y) ((and-eq-true_iff (eqb p (pixels y)) (eqb m (blocks y))).0 both.1).1 ∙ ap blocks (same_size_lem y z both.0)

-- what the walk does by the feed's own size, as `feed_size` tells it: on a refusal, 12, 13 or 1, that is its answer, and nothing is read; else
-- the lent size and lengths decide
module _ (z : Size) (s : List ℕ) (b : Board) where
  pub record Opens (f : FeedSize) : Type 0 where
    pub refused : f.answer.number ≢ ok → walk z s b ≡ left (reply [] f.answer) b
    pub read : f.answer.number ≡ ok
        → walk z s b ≡ walk_behind (fault f.size (same_size f.size z && exact f.size b)) z (chunks_from (length s) s f.first) b

  opens_by : (x : SizeNumbers) → size_numbers s ≡ x → Opens (feed_size_by x)
  unfolding walk feed_of
  opens_by (failing a) e =
      let walked = ap (λ x. walk_feed z (with_chunks s x) b) e in
      let other = cut-refused (numbered s e).0 in
      record { refused = λ h. walked; read = λ h. absurd (other h) }
  opens_by (both y first) e =
      let walked = ap (λ x. walk_feed z (with_chunks s x) b) e in
      by-test Opens (allowed y) (λ t. record { refused = λ h. absurd (h refl); read = λ h. walked }) (λ t.
      let one = fault-size y (same_size y z && exact y b) t in
      let refused = checked_refused _ _ _ (λ h. let no = sym one ∙ h in omega (arith, no)) in
      record {
        refused = λ h. walked ∙ refused ∙ ap (λ n. left (reply [] (answer n 0)) b) one;
        read = λ h. absurd (omega (arith, h));
      })

  pub opens : Opens (feed_size s)
  unfolding feed_size
  opens = opens_by (size_numbers s) refl

-- a size that is told is an allowed one
size-fine-by : (s : List ℕ) (x : SizeNumbers) → size_numbers s ≡ x → (feed_size_by x).answer.number ≡ ok → allowed (feed_size_by x).size ≡ true
size-fine-by s (failing a) e h = absurd (cut-refused (numbered s e).0 h)
size-fine-by s (both z first) e h =
    by-test (λ (f : FeedSize). f.answer.number ≡ ok → allowed f.size ≡ true) (allowed z) (λ t g. t) (λ t g. absurd (omega (arith, g))) h

pub size-fine : (s : List ℕ) → (feed_size s).answer.number ≡ ok → allowed (feed_size s).size ≡ true
unfolding feed_size
size-fine s h = size-fine-by s (size_numbers s) refl h
