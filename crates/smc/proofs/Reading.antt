-- Reading a chunk, by what the sizes' check and the check pass have answered. Assumes nothing.
use Rattle.std.proofs.Common.{◌≡◌, ℕ, ◌+◌, ◌-◌, ◌*◌, ◌<◌, ◌≤◌, Bool, true, false, ◌||◌, ltb, ◌≢◌, List, length, sym, refl, ap, ◌∙◌, true≢false, arith, ltb-false, ltb-true, le-ltb, lt-ltb}
use Rattle.spec.specs.declared.Answer.{Answer}
use Rattle.spec.specs.declared.Size.{Size}
use Rattle.spec.specs.Basics.{if}
use Rattle.spec.specs.Answers.{ok, bad_count, answer}
use Rattle.spec.specs.Sizes.{allowed, pixels, columns, lines, blocks, fault}
use Rattle.spec.specs.Pictures.{Origin, paint}
use Rattle.spec.specs.Maps.{remap, newly_unsettled, newly_settled, recount, miscounts}
use Rattle.spec.specs.Chunks as Chunks
use Rattle.spec.specs.Chunks.{Outcome, decode, verdict}
use Rattle.spec.specs.Boards.{Board, board, left, exact, paint_board, effect, recounted, read_exact, read}
use Rattle.spec.proofs.Lists.{checked-none, checked_refused}
use Rattle.spec.proofs.Limits.{no-fault-lengths}
use Rattle.blocks.specs.declared.Grid.{Grid}
use Rattle.blocks.proofs.Rowwise.{canvas}
use Rattle.spec.proofs.Refused.{Numbered, refused, accepted, numbered}
use Rattle.spec.proofs.Records.{newly-most}
use Rattle.smc_check.specs.Tallying.{Balanced, sums}
use Rattle.smc_check.proofs.Tallies.{recount-by}
use Rattle.smc.specs.Painting.{Accepts, origins_of, Lent}

-- two tests that say the same
ltb-same : (a b c d : ℕ) → (a < b → c < d) → (b ≤ a → d ≤ c) → ltb a b ≡ ltb c d
ltb-same a b c d f g = by (ltb a b) refl
  where
    by : (x : Bool) → ltb a b ≡ x → ltb a b ≡ ltb c d
    by true e = e ∙ sym (lt-ltb c d (f (ltb-true a b e)))
    by false e = e ∙ sym (le-ltb c d (g (ltb-false a b e)))

-- where it is not given
pub fits-range : (x n p : ℕ) → (ltb x n || ltb p x) ≡ false → (n ≤ x) × (x ≤ p)
fits-range x n p = by (ltb x n) (ltb p x) refl refl
  where
    by : (b d : Bool) → ltb x n ≡ b → ltb p x ≡ d → (b || d) ≡ false → (n ≤ x) × (x ≤ p)
    by true d e f t = absurd (true≢false t)
    by false true e f t = absurd (true≢false t)
    by false false e f t = (ltb-false x n e, ltb-false p x f)

-- 21, by what the check has counted
miscounts-by : (m : List ℕ) (os : List Origin) (n now kept : ℕ) → length m ≡ n → now + newly_settled m (remap os m) ≡ length m + newly_unsettled m (remap os m)
    → miscounts n os m kept ≡ (ltb (kept + now) n || ltb (2 * n) (kept + now))
unfolding miscounts
miscounts-by m os n now kept len e =
    let r = recount-by m os now kept e in
    let p = ltb-same (kept + newly_unsettled m (remap os m)) (newly_settled m (remap os m)) (kept + now) n (λ h. omega (arith, e, len, h))
    (λ h. omega (arith, e, len, h)) in
    let q = ltb-same n (recount os m kept) (2 * n) (kept + now) (λ h. omega (arith, r, len, h)) (λ h. omega (arith, r, len, h)) in
    rw (p, q)

-- the blocks of a size's grid
pub blocks-of : (g : Grid) (z : Size) {n : ℕ} → g.columns ≡ columns z → g.lines ≡ lines z → n ≡ g.columns * g.lines → n ≡ blocks z
blocks-of g z ec el e = e ∙ rw (ec, el)

module _ (z : Size) (s pic m : List ℕ) (kept : ℕ) where
  abbrev lent_board : Board
  lent_board = board pic m kept

  abbrev board_fault : ℕ
  board_fault = fault z (exact z lent_board)

  pub read-refused : (e : ℕ) → e ≡ board_fault → e ≢ ok → read z s lent_board ≡ left (answer e 0) lent_board
  unfolding read
  read-refused e q h = checked_refused board_fault _ _ (λ w. h (q ∙ w)) ∙ ap (λ (n : ℕ). left (answer n 0) lent_board) (sym q)

  -- neither 1 nor 2
  module _ (e : ℕ) (q : e ≡ board_fault) (h : e ≡ ok) where
    pub size-allowed : allowed z ≡ true
    size-allowed = (no-fault-lengths z (length pic) (length m) (pixels z) (blocks z) (sym q ∙ h)).0

    pub map-exact : length m ≡ blocks z
    map-exact = (no-fault-lengths z (length pic) (length m) (pixels z) (blocks z) (sym q ∙ h)).1.1

    reads : read z s lent_board ≡ read_exact z s lent_board
    unfolding read
    reads = checked-none board_fault _ _ (sym q ∙ h)

    pub lent : Lent (columns z) (lines z) pic m
    lent =
        let f = no-fault-lengths z (length pic) (length m) (pixels z) (blocks z) (sym q ∙ h) in
        record { canvas = canvas z f.0 pic f.1.0; entries = f.1.1 }

    left-refused : (x : Outcome) → Numbered (blocks z) x → (verdict s x).number ≢ ok
        → (let o = recounted (blocks z) lent_board x in left (verdict s o) (effect z o lent_board)) ≡ left (verdict s x) lent_board
    left-refused x (refused named least few) k = refl
    left-refused x accepted k = absurd (k refl)

    -- the chunk's own refusals
    pub read_keeps : (a : Answer) → a ≡ verdict s (decode (blocks z) s) → a.number ≢ ok → read z s lent_board ≡ left a lent_board
    read_keeps a ea k =
        reads
        ∙ left-refused (decode (blocks z) s) (numbered (blocks z) s) (λ w. k (ap (λ (a : Answer). a.number) ea ∙ w))
        ∙ ap (λ (a : Answer). left a lent_board) (sym ea)

    accepts : (x : Outcome) → Numbered (blocks z) x → (verdict s x).number ≡ ok → Accepts x
    accepts x (refused named least few) k = absurd (omega (arith, least, k))
    accepts x (accepted {os}) k = record { os = os; is = refl }

    pub is-accepted : (a : Answer) → a ≡ verdict s (decode (blocks z) s) → a.number ≡ ok → Accepts (decode (blocks z) s)
    is-accepted a ea k = accepts (decode (blocks z) s) (numbered (blocks z) s) (sym (ap (λ (a : Answer). a.number) ea) ∙ k)

    module _ (g : Accepts (decode (blocks z) s)) (now : ℕ) (b : Balanced m now (decode (blocks z) s)) where
      summed : {os : List Origin} → Balanced m now (Chunks.accepted os) → now + newly_settled m (remap os m) ≡ length m + newly_unsettled m (remap os m)
      summed (sums x) = x

      balance : now + newly_settled m (remap g.os m) ≡ length m + newly_unsettled m (remap g.os m)
      balance = summed (rw g.is at b)

      recounts : read z s lent_board ≡ (let o = recounted (blocks z) lent_board (Chunks.accepted g.os) in left (verdict s o) (effect z o lent_board))
      recounts = reads ∙ ap (λ x. let o = recounted (blocks z) lent_board x in left (verdict s o) (effect z o lent_board)) g.is

      pub read-miscounts : (ltb (kept + now) (blocks z) || ltb (2 * blocks z) (kept + now)) ≡ true → read z s lent_board ≡ left (answer bad_count 0) lent_board
      unfolding if
      read-miscounts t = recounts ∙ rw (miscounts-by m g.os (blocks z) now kept map-exact balance ∙ t)

      pub read-paints : (ltb (kept + now) (blocks z) || ltb (2 * blocks z) (kept + now)) ≡ false → read z s lent_board
          ≡ left (verdict s (Chunks.accepted g.os)) (paint_board z g.os lent_board)
      unfolding if
      read-paints t = recounts ∙ rw (miscounts-by m g.os (blocks z) now kept map-exact balance ∙ t)

      pub kept_then : recount g.os m kept ≡ kept + now - blocks z
      kept_then = recount-by m g.os now kept balance ∙ ap (λ (n : ℕ). kept + now - n) map-exact

      -- no more than the blocks there are can be newly unsettled
      pub now-small : now ≤ 2 * blocks z
      now-small =
          let e = balance in
          let len = map-exact in
          let few = newly-most m (remap g.os m) in
          omega (arith, e, len, few)

    -- the same by the number of blocks that the code holds: each outcome once
    module _ (n : ℕ) (en : n ≡ blocks z) where
      pub map-of : length m ≡ n
      map-of = map-exact ∙ sym en

      module _ (a : Answer) (ea : a ≡ verdict s (decode n s)) where
        pub refused-by-chunk : a.number ≢ ok → read z s lent_board ≡ left a lent_board
        refused-by-chunk k = read_keeps a (rw en at ea) k

        pub accepted-chunk : a.number ≡ ok → Accepts (decode n s)
        accepted-chunk k = rw (← en) at (is-accepted a (rw en at ea) k)

        module _ (k : a.number ≡ ok) (now : ℕ) (b : Balanced m now (decode n s)) where
          pub now-within : now ≤ 2 * n
          now-within = rw (← en) at (now-small (is-accepted a (rw en at ea) k) now (rw en at b))

          pub refused-by-count : (ltb (kept + now) n || ltb (2 * n) (kept + now)) ≡ true → read z s lent_board ≡ left (answer bad_count 0) lent_board
          refused-by-count t = read-miscounts (is-accepted a (rw en at ea) k) now (rw en at b) (rw en at t)

          pub painted : (ltb (kept + now) n || ltb (2 * n) (kept + now)) ≡ false → read z s lent_board
              ≡ left a (board (paint (columns z) (lines z) (origins_of (decode n s)) pic) (remap (origins_of (decode n s)) m) (kept + now - n))
          painted t =
              let g = is-accepted a (rw en at ea) k in
              let e : a ≡ verdict s (Chunks.accepted g.os) = rw g.is at (rw en at ea) in
              let o : origins_of (decode n s) ≡ g.os = rw (en, g.is) in
              let c = columns z in
              let r = lines z in
              let x = decode n s in
              read-paints g now (rw en at b) (rw en at t)
              ∙ ap (λ (y : Answer). left y (paint_board z g.os lent_board)) (sym e)
              ∙ ap (λ (os : List Origin). left a (board (paint c r os pic) (remap os m) (recount g.os m kept))) (sym o)
              ∙ ap (λ (y : ℕ). left a (board (paint c r (origins_of x) pic) (remap (origins_of x) m) y))
              (kept_then g now (rw en at b) ∙ ap (λ (y : ℕ). kept + now - y) (sym en))
