-- The walk's loop: what it keeps, and its ways on and out. Assumes nothing.
use Prim.Native.Nat.{ℕ, ◌+◌, ◌-◌, ◌<◌, ◌≤◌}
use mathlib.Core.Path.{◌≡◌, refl, sym, ap, subst, subst⁻¹, ◌∙◌}
use mathlib.Core.Logic.{◌≢◌}
use mathlib.Core.List.{List}
use mathlib.Core.Bool.{true, false, true≢false}
use native.Mathlib.Nat.{add-zero, zero-add, add_assoc, le_refl}
use native.Mathlib.Omega.{arith}
use lib.Dec.{eqb}
use lib.ListN.{length}
use borrow.Author.Tests.{eq-eqb, ne_eqb}
use Rattle.spec.specs.declared.Size.{Size}
use Rattle.spec.specs.declared.Record.{Record}
use Rattle.spec.specs.declared.Step.{Step}
use Rattle.spec.specs.Basics.{if}
use Rattle.spec.specs.Answers.{ok}
use Rattle.spec.specs.Sizes.{fault}
use Rattle.spec.specs.Maps.{record_of}
use Rattle.spec.specs.Boards.{Board, board, Left, exact}
use Rattle.spec.specs.Feeds.{next_at, Reply, chunks_from, read_all, step_by, walk_step, tally}
use Rattle.spec.proofs.Lists.{one-or-none, by-checked}
use Rattle.spec.proofs.Feeds.{Onward, Stepped, stepped}

-- the count with one chunk more, accepted or refused
pub counted-more : (n : ℕ) {x : ℕ} → x ≡ ok → n + 1 ≡ n + if (eqb x ok) 1 0
unfolding if
counted-more n {x} e = rw (eq-eqb x ok e)

pub counted_same : (n : ℕ) {x : ℕ} → x ≢ ok → n ≡ n + if (eqb x ok) 1 0
unfolding if
counted_same n {x} h = rw (ne_eqb x ok h, add-zero n)

-- all chunks from a place on
abbrev pub rest : Size → List ℕ → ℕ → Board → Left Reply
rest z s at b = read_all z (chunks_from (length s) s at) b

-- the walk from `first` over the board that was lent ends as the walk from `at` over picture, map and record as they stand, with n chunks accepted
-- before; they have taken a byte each
pub record Walking (z : Size) (s : List ℕ) (first : ℕ) (lent : Board) (at n : ℕ) (pic m : List ℕ) (r : Record) : Type 0 where
  pub size : r.size ≡ z
  pub answers : (rest z s first lent).said.answer ≡ (rest z s at (board pic m r.unsettled)).said.answer
  pub counts : (rest z s first lent).said.accepted ≡ n + (rest z s at (board pic m r.unsettled)).said.accepted
  pub boards : (rest z s first lent).board ≡ (rest z s at (board pic m r.unsettled)).board
  pub few : n + (length s - at) ≤ length s

pub walking-none : (s : List ℕ) (first : ℕ) (pic m : List ℕ) (r : Record) → Walking r.size s first (board pic m r.unsettled) first 0 pic m r
walking-none s first pic m r = record { size = refl; answers = refl; counts = sym (zero-add _); boards = refl; few = omega arith }

module _ {z : Size} {s : List ℕ} {first : ℕ} {lent : Board} {at n : ℕ} {pic m : List ℕ} {r : Record} (w : Walking z s first lent at n pic m r) where
  abbrev here : Board
  here = board pic m r.unsettled

  -- a step that was made with the record's size, which is the walk's
  abbrev steps : Size → Left Step
  steps y = step_by y s at (next_at s at) here

  module _ {x : Step} (said : x ≡ (steps r.size).said) where
    tells : Stepped z s (length s) at (chunks_from (length s) s at) here x (steps z).board
    tells =
        subst (λ y. Stepped z s (length s) at (chunks_from (length s) s at) here y (steps z).board) (sym (said ∙ ap (λ y. (steps y).said) w.size))
        (stepped z s (length s) (le_refl (length s)) at here)

    -- one that read a chunk
    pub step-onward : x.chunk ≡ true → Onward z s (length s) at (chunks_from (length s) s at) here x (steps z).board
    step-onward e = tells.onward e

    -- no more were accepted than bytes were passed
    pub accepted-fits : x.chunk ≡ true → n + 1 ≤ x.next
    accepted-fits e = let o = step-onward e in omega (arith, w.few, o.further, o.within)

    pub walking_on : x.chunk ≡ true → {pic' m' : List ℕ} → pic' ≡ (steps r.size).board.picture → m' ≡ (steps r.size).board.map
        → (now : ℕ) → now ≡ n + if (eqb x.answer.number ok) 1 0 → Walking z s first lent x.next now pic' m' x.kept
    walking_on e {pic'} {m'} p q now counted =
        let o = step-onward e in
        let one : ℕ = if (eqb x.answer.number ok) 1 0 in
        let p' = p ∙ ap (λ y. (steps y).board.picture) w.size in
        let q' = q ∙ ap (λ y. (steps y).board.map) w.size in
        let kept = ap (λ (k : Record). k.unsettled) tells.kept in
        let onto : (steps z).board ≡ board pic' m' x.kept.unsettled = λ i. board (sym p' i) (sym q' i) (sym kept i) in
        let past = x.next in
        record {
          size = ap (λ (k : Record). k.size) tells.kept;
          answers = w.answers ∙ ap (λ l. l.said.answer) o.walked ∙ ap (λ b. (rest z s past b).said.answer) onto;
          counts = w.counts
              ∙ ap (λ l. n + l.said.accepted) o.walked
              ∙ sym (add_assoc n one _)
              ∙ rw (← counted) (ap (λ b. now + (rest z s past b).said.accepted) onto);
          boards = w.boards ∙ ap (λ l. l.board) o.walked ∙ ap (λ b. (rest z s past b).board) onto;
          few = omega (arith, w.few, o.further, o.within, counted, one-or-none (eqb x.answer.number ok));
        }

    -- one that found none
    pub walking-left : x.chunk ≡ false → (steps r.size).board ≡ (rest z s first lent).board
    walking-left e = ap (λ y. (steps y).board) w.size ∙ sym (w.boards ∙ ap (λ l. l.board) (tells.over e).walked)

    pub walking-over : x.chunk ≡ false → record { answer = x.answer; accepted = n; kept = r } ≡ tally z (rest z s first lent)
    walking-over e =
        let over = tells.over e in
        let own = sym (w.answers ∙ ap (λ l. l.said.answer) over.walked) in
        let counted = sym (w.counts ∙ ap (λ l. n + l.said.accepted) over.walked ∙ add-zero n) in
        let after = ap (λ l. l.board) over.walked ∙ over.same in
        let kept = sym (ap (λ (b : Board). b.kept) (w.boards ∙ after)) in
        let size = w.size in
        λ i. record { answer = own i; accepted = counted i; kept = record_of (size i) (kept i) }

-- a step that read a chunk, whatever it was lent, has gone on, within the feed
pub step-further : (z : Size) (s : List ℕ) (at : ℕ) (b : Board) {x : Step} → x ≡ (walk_step z s at b).said → x.chunk ≡ true
    → (at < x.next) × (x.next ≤ length s)
unfolding walk_step
step-further z s at b said e =
    subst⁻¹ Further said
    (by-checked (λ (l : Left Step). Further l.said) (fault z (exact z b)) (λ a t. absurd (true≢false (sym t))) (λ t.
    let o = (stepped z s (length s) (le_refl (length s)) at b).onward t in
    (o.further, o.within))) e
  where
    Further : Step → Type 0
    Further x = x.chunk ≡ true → (at < x.next) × (x.next ≤ length s)

-- a step that read a chunk, behind 1 and 2, has gone on, within the feed: as the checker looks for it where a loop has to end
module _ (z : Size) (s : List ℕ) (at : ℕ) (b : Board) where
  pub went_on : (step_by z s at (next_at s at) b).said.chunk ≡ true
      → (step_by z s at (next_at s at) b).said.next ≡ at + 1 + ((step_by z s at (next_at s at) b).said.next - at - 1)
  went_on e =
      let o = (stepped z s (length s) (le_refl (length s)) at b).onward e in
      omega (arith, o.further)

  pub stays_within : (step_by z s at (next_at s at) b).said.chunk ≡ true → (step_by z s at (next_at s at) b).said.next ≤ length s
  stays_within e = ((stepped z s (length s) (le_refl (length s)) at b).onward e).within

pub ruleset onward_rules = (went_on, stays_within)
