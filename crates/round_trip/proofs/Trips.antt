-- Writing and then reading back, by what the write answers. Assumes nothing.
use Prim.Native.Nat.{ℕ, zero, suc, ◌≤◌}
use mathlib.Core.Path.{◌≡◌, refl, sym, ap, ◌∙◌}
use mathlib.Core.Logic.{◌≢◌}
use mathlib.Core.Bool.{Bool, true, false, ◌&&◌}
use mathlib.Core.List.{List}
use native.Mathlib.Omega.{arith}
use lib.Dec.{eqb}
use lib.ListN.{length, take, drop, length-append}
use lib.Seq.{take_at}
use borrow.Author.Tests.{eq-eqb}
use Rattle.spec.specs.declared.Answer.{Answer}
use Rattle.spec.specs.declared.Size.{Size}
use Rattle.spec.specs.Basics.{if}
use Rattle.spec.specs.Answers.{ok, answer_at, answer, checked}
use Rattle.spec.specs.Sizes.{allowed, pixels, blocks, fault}
use Rattle.spec.specs.Boards.{Board, Exact, exact, read}
use Rattle.spec.specs.Writing.{chunk_for, onto, Wrote, wrote, emit, write}
use Rattle.spec.proofs.Lists.{checked_refused}
use Rattle.spec.proofs.Limits.{exact-true, no-fault-lengths}
use Rattle.trust.specs.RoundTrip.{marked}
use Rattle.trust.proofs.RoundTrip.{reads-back}
use Rattle.round_trip.specs.Trip.{lent_board, Trip, trip, round_trip}

-- two choices by one test; and by one number, where it refuses
by_both : {A B : Type 0} (P : A → B → Type 0) (t : Bool) {x y : A} {x' y' : B} → P x x' → P y y' → P (if t x y) (if t x' y')
unfolding if
by_both P true p q = p
by_both P false p q = q

checked-both : {A B : Type 0} (P : A → B → Type 0) (n : ℕ) {f : Answer → A} {g : Answer → B} {x : A} {y : B}
    → ((a : Answer) → a.number ≢ ok → P (f a) (g a)) → (n ≡ ok → P x y) → P (checked n f x) (checked n g y)
unfolding checked
checked-both P zero p q = q refl
checked-both P (suc n) p q = p (answer (suc n) 0) (λ z. omega arith)

-- Writing, and writing and reading back: both refuse, and all is as it was; or the chunk is written, and what is read back is the new picture
data Goes (z : Size) (new : List ℕ) (b : Board) : Wrote → Trip → Type 0 where
  refused : {a : Answer} {out : List ℕ} → a.number ≢ ok → Goes z new b (wrote a out) (trip a b out)
  written : (out : List ℕ) → length new ≡ pixels z
      → Goes z new b (wrote (answer_at ok (length (chunk_for z b.picture new)) (blocks z)) (onto (chunk_for z b.picture new) out))
      (trip (answer_at ok (length (chunk_for z b.picture new)) (blocks z)) (lent_board new (marked z b.picture new b.map))
      (onto (chunk_for z b.picture new) out))

module _ (z : Size) (new : List ℕ) (b : Board) (e : Exact z b) (out : List ℕ) where
  -- where the board is exact, both look for 1 and 2 alike
  same-fault : fault z (exact z b && eqb (length new) (pixels z)) ≡ fault z (eqb (length b.picture) (pixels z) && eqb (length new) (pixels z))
  same-fault = rw (exact-true z b e, eq-eqb (length b.picture) (pixels z) e.picture)

  goes : Goes z new b (write z b.picture new out) (round_trip z new b out)
  unfolding write round_trip emit
  goes =
      rw same-fault
      (checked-both (Goes z new b) _ (λ a h. refused h) (λ f.
      by_both (Goes z new b) _ (refused (λ q. omega arith)) (written out (no-fault-lengths z (length b.picture) (length new) (pixels z) (pixels z) f).1.1)))

module _ (z : Size) (new : List ℕ) (b : Board) where
  is-refused : {w : Wrote} {t : Trip} → Goes z new b w t → w.answer.number ≢ ok → t ≡ trip w.answer b w.output
  is-refused (refused h) n = refl
  is-refused (written out l) n = absurd (n refl)

  is-written : allowed z ≡ true → Exact z b → {w : Wrote} {t : Trip} → Goes z new b w t → w.answer.number ≡ ok
      → let back = read z (take w.answer.place w.output) (lent_board b.picture b.map) in
      t ≡ trip back.said back.board w.output
  is-written fine e (refused h) n = absurd (h n)
  is-written fine e (written out l) n =
      let chunk = chunk_for z b.picture new in
      let t = take_at chunk (drop (length chunk) out) (length chunk) refl in
      let r = (reads-back z fine b.picture new b.map e.picture l e.map).reads in
      rw (t, r)

  is-long : {w : Wrote} {t : Trip} → Goes z new b w t → w.answer.number ≡ ok → w.answer.place ≤ length w.output
  is-long (refused h) n = absurd (h n)
  is-long (written out l) n = rw length-append (omega arith)

  -- the same of what the code holds: a is what the write answered, and o what it left in the output
  module _ (e : Exact z b) (out : List ℕ) (a : Answer) (ea : a ≡ (write z b.picture new out).answer) (o : List ℕ) (eo : o ≡ (write z b.picture new out).output) where
    pub trip-refused : a.number ≢ ok → round_trip z new b out ≡ trip a b o
    trip-refused n = rw (ea, eo) (is-refused (goes z new b e out) (rw ea at n))

    module _ (n : a.number ≡ ok) where
      accepted : (write z b.picture new out).answer.number ≡ ok
      accepted = sym (ap (λ (x : Answer). x.number) ea) ∙ n

      pub written-long : a.place ≤ length o
      written-long = rw (ea, eo) (is-long (goes z new b e out) accepted)

      pub trip-written : allowed z ≡ true
          → let back = read z (take a.place o) (lent_board b.picture b.map) in
          round_trip z new b out ≡ trip back.said back.board o
      trip-written fine = rw (ea, eo) (is-written fine e (goes z new b e out) accepted)

-- what a trip is known to be, part by part
pub told : {t : Trip} {a : Answer} {b : Board} {out : List ℕ} → t ≡ trip a b out
    → (a ≡ t.answer) × ((b.picture ≡ t.board.picture) × ((b.map ≡ t.board.map) × (out ≡ t.output)))
told e = (
  sym (ap (λ (t : Trip). t.answer) e),
  (sym (ap (λ (t : Trip). t.board.picture) e), (sym (ap (λ (t : Trip). t.board.map) e), sym (ap (λ (t : Trip). t.output) e))),
)

-- a board that is refused stays so, whatever else is looked at
still-bad : (z : Size) (t u : Bool) → fault z t ≢ ok → fault z (t && u) ≡ fault z t
unfolding fault if
still-bad z true u h = by (allowed z) refl
  where
    by : (a : Bool) → allowed z ≡ a → fault z u ≡ fault z true
    by true e = absurd (h (rw e))
    by false e = rw e
still-bad z false u h = refl

-- over the lent buffers: the ways out of a function that writes and then reads
module _ (z : Size) (new : List ℕ) (b : Board) (out : List ℕ) where
  pub trip-bad-board : (n : ℕ) → n ≡ fault z (exact z b) → n ≢ ok → round_trip z new b out ≡ trip (answer n 0) b out
  unfolding round_trip
  trip-bad-board n q h =
      let f = still-bad z (exact z b) (eqb (length new) (pixels z)) (λ w. h (q ∙ w)) ∙ sym q in
      rw f (checked_refused n _ _ h)

  -- where the board is exact
  module _ (n : ℕ) (q : n ≡ fault z (exact z b)) (h : n ≡ ok) where
    pub fine : (allowed z ≡ true) × Exact z b
    fine =
        let f = no-fault-lengths z (length b.picture) (length b.map) (pixels z) (blocks z) (sym q ∙ h) in
        (f.0, record { picture = f.1.0; map = f.1.1 })
